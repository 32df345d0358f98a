-- Writes that spare what is known of the objects of a tree.
use Rattle.std.proofs.Common.{◌≡◌, ◌≢◌, ⊎_elim, ℕ, ◌<◌, ◌≤◌, arith, Bool, true, false, refl, sym, ◌∙◌, ap, subst, List, [], ◌∷◌, length, Some, None}
use Rattle.std.specs.Prelude.{◌&&◌, codes, take}
use Rattle.ost_types.specs.Csum.{hex_of}
use Rattle.ost_types.specs.declared.object.ObjName.{ObjName}
use Rattle.ost_types.specs.Path.{Name, Path, under, is_below, same_name}
use Rattle.ost_types.proofs.Paths.{under-is_below}
use Rattle.fs_trait.specs.View.{Disk, View}
use Rattle.fs_trait.specs.Seen.{Seen, Vacant, seen, shows, IsDirectory, NotDirectory}
use Rattle.fs_trait.specs.Change.{Writes, Nothing}
use Rattle.fs_trait.proofs.Facts.{shows_kept, vacant_absent}
use Rattle.repo_layout.specs.Paths.{folder_path, objects_folder_path, object_path, stage_path, mark_path}
use Rattle.repo_layout.specs.declared.folder.Folder.TheVariants.{Objects, State, Tmp}
use Rattle.repo_model.specs.Objects.{object_in, path_of}
use Rattle.obj_store.specs.Putting.{Putting}
use Rattle.obj_store.specs.Steps as put
use Rattle.obj_store.specs.Whole.{IsShown}
use Rattle.obj_store.proofs.Stable.{Lies, put_lies}
use Rattle.commit_build.specs.Steps.{HasHomes, IsThere, IsSure}

-- how long paths are, and their third name
stage_length : (actor : ℕ) → length (stage_path actor) ≡ 4
unfolding stage_path
stage_length actor = refl

mark_length : (commit : List ℕ) → length (mark_path commit) ≡ 4
unfolding mark_path
mark_length commit = refl

folder_length : (sum : List ℕ) → length (objects_folder_path sum) ≡ 4
unfolding objects_folder_path
folder_length sum = refl

object_length : (o : ObjName) → length (path_of o) ≡ 5
unfolding object_path
object_length o = refl

of_length : (p q : Path) (n m : ℕ) → length p ≡ n → length q ≡ m → n ≢ m → p ≡ q → ⊥
of_length p q n m a b apart e = apart (sym a ∙ ap length e ∙ b)

third : Path → Name
third (a ∷ b ∷ c ∷ rest) = c
third p = []

stage_third : (actor : ℕ) → third (stage_path actor) ≡ codes "tmp"
unfolding third stage_path
stage_third actor = refl

mark_third : (commit : List ℕ) → third (mark_path commit) ≡ codes "state"
unfolding third mark_path
mark_third commit = refl

folder_third : (sum : List ℕ) → third (objects_folder_path sum) ≡ codes "objects"
unfolding third objects_folder_path
folder_third sum = refl

of_third : (p q : Path) (x y : Name) → third p ≡ x → third q ≡ y → same_name x x ≡ true → same_name y x ≡ false → p ≡ q → ⊥
of_third p q x y a b self other e =
    let same : x ≡ y = sym a ∙ ap third e ∙ b in
    let n : true ≡ false = sym self ∙ ap (λ z. same_name z x) same ∙ other in
    cc

pub stage_folder : (actor : ℕ) (sum : List ℕ) → stage_path actor ≡ objects_folder_path sum → ⊥
stage_folder actor sum = of_third (stage_path actor) (objects_folder_path sum) (codes "tmp") (codes "objects") (stage_third actor) (folder_third sum) refl refl

pub mark_folder : (commit sum : List ℕ) → mark_path commit ≡ objects_folder_path sum → ⊥
mark_folder commit sum = of_third (mark_path commit) (objects_folder_path sum) (codes "state") (codes "objects") (mark_third commit) (folder_third sum) refl refl

mark_stage : (commit : List ℕ) (actor : ℕ) → mark_path commit ≡ stage_path actor → ⊥
mark_stage commit actor = of_third (mark_path commit) (stage_path actor) (codes "state") (codes "tmp") (mark_third commit) (stage_third actor) refl refl

pub object_folder : (o : ObjName) (sum : List ℕ) → path_of o ≡ objects_folder_path sum → ⊥
object_folder o sum = of_length (path_of o) (objects_folder_path sum) 5 4 (object_length o) (folder_length sum) (λ e. omega (arith, e))

pub stage_object : (actor : ℕ) (o : ObjName) → stage_path actor ≡ path_of o → ⊥
stage_object actor o = of_length (stage_path actor) (path_of o) 4 5 (stage_length actor) (object_length o) (λ e. omega (arith, e))

pub mark_object : (commit : List ℕ) (o : ObjName) → mark_path commit ≡ path_of o → ⊥
mark_object commit o = of_length (mark_path commit) (path_of o) 4 5 (mark_length commit) (object_length o) (λ e. omega (arith, e))

-- what leads to the folder of an object is that folder, or shorter
and_right : (a b : Bool) → (a && b) ≡ true → b ≡ true
and_right true b e = e
and_right false b e = let n : false ≡ true = e in cc

below_length : (p q : Path) → is_below p q ≡ true → length p ≤ length q
unfolding is_below
below_length [] q e = omega arith
below_length (a ∷ p) [] e = let n : false ≡ true = e in cc
below_length (a ∷ p) (b ∷ q) e = let less = below_length p q (and_right _ _ e) in omega (arith, less)

folder_under : (sum : List ℕ) → objects_folder_path sum ≡ under (folder_path Objects) (take 2 (hex_of sum))
unfolding objects_folder_path
folder_under sum = refl

not_above : (p : Path) (sum : List ℕ) → 3 < length p → (p ≡ objects_folder_path sum → ⊥) → is_below p (objects_folder_path sum) ≡ true → ⊥
not_above p sum long apart below =
    ⊎_elim
    (λ up. let less : length p ≤ 3 = below_length p (folder_path Objects) up in omega (arith, long, less))
    (λ is. apart (is ∙ sym (folder_under sum)))
    (under-is_below p (folder_path Objects) (take 2 (hex_of sum)) (subst (λ q. is_below p q ≡ true) (folder_under sum) below))

-- A write spares the folders of the layout, takes no object away, leaves no folder at the staging path, and leaves folders where
-- they lead to objects.
pub record Mild (actor : ℕ) (p : Path) (s : Seen) : Type 0 where
  pub folder : length p ≡ 3 → ⊥
  pub object : (o : ObjName) → p ≡ path_of o → s ≢ Vacant
  pub stage : p ≡ stage_path actor → NotDirectory s
  pub above : (sum : List ℕ) → is_below p (objects_folder_path sum) ≡ true → IsDirectory s

mild_stage : (actor : ℕ) (p : Path) (s : Seen) → p ≡ stage_path actor → NotDirectory s → Mild actor p s
mild_stage actor p s e file =
    let long : length p ≡ 4 = ap length e ∙ stage_length actor in
    record {
      folder = λ short. omega (arith, long, short);
      object = λ o is. absurd (of_length p (path_of o) 4 5 long (object_length o) (λ n. omega (arith, n)) is);
      stage = λ is. file;
      above = λ sum below. absurd (not_above p sum (omega (arith, long)) (λ is. stage_folder actor sum (sym e ∙ is)) below);
    }

mild_folder : (actor : ℕ) (p : Path) (s : Seen) (sum : List ℕ) → p ≡ objects_folder_path sum → IsDirectory s → Mild actor p s
mild_folder actor p s sum e is =
    let long : length p ≡ 4 = ap length e ∙ folder_length sum in
    record {
      folder = λ short. omega (arith, long, short);
      object = λ o at. absurd (of_length p (path_of o) 4 5 long (object_length o) (λ n. omega (arith, n)) at);
      stage = λ at. absurd (stage_folder actor sum (sym at ∙ e));
      above = λ other below. is;
    }

mild_object : (actor : ℕ) (p : Path) (s : Seen) (o : ObjName) → p ≡ path_of o → s ≢ Vacant → Mild actor p s
mild_object actor p s o e there =
    let long : length p ≡ 5 = ap length e ∙ object_length o in
    record {
      folder = λ short. omega (arith, long, short);
      object = λ other at. there;
      stage = λ at. absurd (of_length p (stage_path actor) 5 4 long (stage_length actor) (λ n. omega (arith, n)) at);
      above = λ sum below. absurd (not_above p sum (omega (arith, long)) (λ is. object_folder o sum (sym e ∙ is)) below);
    }

pub mild_mark : (actor : ℕ) (p : Path) (s : Seen) (commit : List ℕ) → p ≡ mark_path commit → Mild actor p s
mild_mark actor p s commit e =
    let long : length p ≡ 4 = ap length e ∙ mark_length commit in
    record {
      folder = λ short. omega (arith, long, short);
      object = λ o at. absurd (of_length p (path_of o) 4 5 long (object_length o) (λ n. omega (arith, n)) at);
      stage = λ at. absurd (mark_stage commit actor (sym e ∙ at));
      above = λ sum below. absurd (not_above p sum (omega (arith, long)) (λ is. mark_folder commit sum (sym e ∙ is)) below);
    }

shown_there : (t : Putting) (v : View) (s : Seen) → put.Needs t v → IsShown t s → s ≢ Vacant
shown_there t v s needs is e =
    let n : None ≡ Some needs.made.bytes = sym (ap (object_in t.name.kind) e) ∙ is needs.made.bytes needs.made.object in
    cc

-- what a step of a put writes
pub mild_put : (actor : ℕ) (t : Putting) (v : View) → t.actor ≡ actor → put.Needs t v → (p : Path) (s : Seen) → put.WritesOf t v p s → Mild actor p s
mild_put actor t v same needs p s wrote = by (put_lies t v needs p s wrote)
  where
    by : Lies t v p s → Mild actor p s
    by lies = ⊎_elim
        (λ a. mild_stage actor p s (a.0 ∙ ap stage_path same) a.1)
        (λ b. ⊎_elim
        (λ a. mild_folder actor p s t.name.csum a.0 a.1)
        (λ a. mild_object actor p s t.name a.0 (shown_there t v s needs a.1))
        b)
        lies.place

there_seen : (d : Disk) (name : ObjName) → IsThere d name → shows d (path_of name) ≢ Vacant
there_seen d name there e = there (vacant_absent d (path_of name) e)

-- What is known stays so under such writes.
module _ (actor : ℕ) (W : Path → Seen → Type 0) (mild : (p : Path) (s : Seen) → W p s → Mild actor p s) (v w : View) (writes : Writes W v w) where
  folder_kept : (p : Path) → length p ≡ 3 → IsDirectory (shows v.now p) → IsDirectory (shows w.now p)
  folder_kept p short is = subst IsDirectory (sym (shows_kept W v w p writes (λ s wrote. (mild p s wrote).folder short))) is

  pub homes_kept : HasHomes actor v.now → HasHomes actor w.now
  homes_kept homes = record {
    objects = folder_kept (folder_path Objects) refl homes.objects;
    staging = folder_kept (folder_path Tmp) refl homes.staging;
    state = folder_kept (folder_path State) refl homes.state;
    stage = ⊎_elim (λ same. subst NotDirectory (sym same) homes.stage) (λ wrote. (mild (stage_path actor) _ wrote).stage refl) (writes.now (stage_path actor));
  }

  pub there_kept : (name : ObjName) → IsThere v.now name → IsThere w.now name
  there_kept name there gone =
      let vacant : shows w.now (path_of name) ≡ Vacant = ap (seen w.now) gone in
      ⊎_elim
      (λ same. there_seen v.now name there (sym same ∙ vacant))
      (λ wrote. (mild (path_of name) _ wrote).object name refl vacant)
      (writes.now (path_of name))

  pub sure_kept : (name : ObjName) → IsSure v name → IsSure w name
  sure_kept name sure = record {
    there = λ s may. ⊎_elim (λ was. sure.there s was) (λ wrote. (mild (path_of name) s wrote).object name refl) (writes.only (path_of name) s may);
    above = λ p s may below. ⊎_elim (λ was. sure.above p s was below) (λ wrote. (mild p s wrote).above name.csum below) (writes.only p s may);
  }

pub no_write : (actor : ℕ) (p : Path) (s : Seen) → Nothing p s → Mild actor p s
no_write actor p s none = absurd none

-- A task may begin, by what reads see then.
use Rattle.std.proofs.Common.{◌≡◌, true, false, sym, ◌∙◌, subst}
use Rattle.ost_types.specs.Path.{Name, Path, under, is_in}
use Rattle.ost_types.proofs.Paths.{under-is_in, under-folder}
use Rattle.fs_trait.specs.declared.types.Value.{Value}
use Rattle.fs_trait.specs.declared.types.Value.TheVariants.{Absent, Folder, Link as LinkValue, File as FileValue}
use Rattle.fs_trait.specs.View.{Disk, View}
use Rattle.fs_trait.specs.Image.{is_folder}
use Rattle.fs_trait.specs.Seen.{seen, shows, IsDirectory, NotDirectory}
use Rattle.repo_layout.specs.Paths.{folder_path, stage_path}
use Rattle.repo_layout.specs.declared.folder.Folder.TheVariants.{Objects, Tmp}
use Rattle.std.proofs.Common.{ℕ, refl}
use Rattle.staging.proofs.Begins as staging
use Rattle.obj_store.specs.declared.source.Source.{Source}
use Rattle.obj_store.specs.declared.source.Source.TheVariants.{File, Link}
use Rattle.obj_store.specs.Putting.{Putting, IsNew, IsReady, IsStaged, IsMade}
use Rattle.obj_store.specs.Steps.{Needs, needs_in, stage_needs}
use Rattle.obj_store.specs.Whole.{MayBegin}
use Rattle.std.proofs.Common.{◌<◌, List}
use Rattle.ost_types.specs.declared.object.ObjName.{ObjName}

folder_directory : (d : Disk) (z : Value) → is_folder z ≡ true → IsDirectory (seen d z)
folder_directory d (Folder m) e = tt
folder_directory d Absent e = let n : false ≡ true = e in cc
folder_directory d (LinkValue m t) e = let n : false ≡ true = e in cc
folder_directory d (FileValue k) e = let n : false ≡ true = e in cc

leaf_directory : (d : Disk) (z : Value) → is_folder z ≡ false → NotDirectory (seen d z)
leaf_directory d (Folder m) e = let n : true ≡ false = e in cc
leaf_directory d Absent e = tt
leaf_directory d (LinkValue m t) e = tt
leaf_directory d (FileValue k) e = tt

-- staging paths stand in one folder
pub stage-placed : (actor : ℕ) → (y : Name) × (stage_path actor ≡ under (folder_path Tmp) y)
unfolding stage_path
stage-placed actor = (_, refl)

pub home_is : (actor : ℕ) (p : Path) → is_in p (stage_path actor) ≡ true → p ≡ folder_path Tmp
home_is actor p in_ =
    let name = under-is_in p (stage_path actor) in_ in
    let home = stage-placed actor in
    sym (under-folder (folder_path Tmp) p home.0 name.0 (sym home.1 ∙ name.1))

module _ (t : Putting) (v : View) (may : MayBegin t v.now) where
  stage_begins : (src : Source) → t.source ≡ src → stage_needs src v
  stage_begins (File d) e =
      let ready = subst (λ s. IsReady t.actor s) e may.made.ready in
      let home = stage-placed t.actor in
      staging.needs_new d v
      (subst (λ f. IsStaged f (File d)) may.new (subst (λ s. IsStaged t.phase s) e may.made.staged))
      (folder_path Tmp, home.0, ready.0 ∙ home.1)
      (subst (λ q. NotDirectory (shows v.now q)) (sym ready.0) (leaf_directory v.now (v.now.at (stage_path t.actor)) may.leaf))
      (λ p in_. subst (λ q. IsDirectory (shows v.now q)) (sym (home_is t.actor p (subst (λ q. is_in p q ≡ true) ready.0 in_))) (folder_directory v.now (v.now.at (folder_path Tmp)) may.home))
  stage_begins (Link m l) e = tt

  pub needs_new : Needs t v
  needs_new = record {
    made = may.made;
    meets = subst (λ f. needs_in f t v) (sym may.new) (stage_begins t.source refl, folder_directory v.now (v.now.at (folder_path Objects)) may.objects);
  }

-- a new task is made as each such task is
pub made_new : (actor : ℕ) (name : ObjName) (bytes : List ℕ) (t : Putting) → actor < 16 → IsNew actor name bytes t → IsMade t
made_new actor name bytes t less new = subst IsMade (sym new.is) (record {
  actor = less;
  bytes = bytes;
  object = new.source.object;
  ready = new.source.ready;
  staged = new.source.staged;
})

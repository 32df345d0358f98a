-- The paths of objects, of marks and of the configuration differ, and none is above an object.
use Rattle.std.proofs.Common.{◌≡◌, ◌≢◌, ◌⊎◌, inl, inr, ⊎_elim, ℕ, List, true, refl, sym, ◌∙◌, ap, subst}
use Rattle.std.specs.Prelude.{take}
use Rattle.ost_types.specs.Csum.{hex_of}
use Rattle.ost_types.specs.declared.object.ObjName.{ObjName}
use Rattle.ost_types.specs.Path.{Path, is_below}
use Rattle.fs_trait.specs.View.{View}
use Rattle.fs_trait.specs.Seen.{Seen, Vacant, Directory, Symlink, Leaf}
use Rattle.fs_trait.specs.Change.{Writes}
use Rattle.repo_layout.specs.declared.folder.Folder.TheVariants.{Objects}
use Rattle.repo_layout.specs.Paths.{config_path, mark_path, objects_folder_path}
use Rattle.repo_layout.specs.Place.{Place, Config, Object, ObjectsFolder, Mark, Other, place}
use Rattle.repo_layout.specs.RefFile.{IsSum}
use Rattle.repo_layout.proofs.Places.{place-config, place-mark, place-object, place-objects_folder}
use Rattle.repo_model.specs.Objects.{path_of}
use Rattle.layout_rules.proofs.Layouts.{fixed_other}
use Rattle.rely_guarantee.specs.SystemInvariant.{Leads}
use Rattle.rely_guarantee.proofs.Lasting.{above_objects}
use Rattle.durable_store.specs.Removals.{Vacates}

pub mark_object : (commit : List ℕ) (o : ObjName) → IsSum commit → IsSum o.csum → mark_path commit ≡ path_of o → ⊥
mark_object commit o sum also same =
    let e : Mark commit ≡ Object o.kind o.csum = sym (place-mark commit sum) ∙ ap place same ∙ place-object o.kind o.csum also in
    cc

pub one_mark : (a b : List ℕ) → IsSum a → IsSum b → mark_path a ≡ mark_path b → a ≡ b
one_mark a b sum also same =
    let e : Mark a ≡ Mark b = sym (place-mark a sum) ∙ ap place same ∙ place-mark b also in
    cc

pub config_object : (o : ObjName) → IsSum o.csum → config_path ≡ path_of o → ⊥
config_object o sum same =
    let e : Config ≡ Object o.kind o.csum = sym place-config ∙ ap place same ∙ place-object o.kind o.csum sum in
    cc

pub config_mark : (commit : List ℕ) → IsSum commit → config_path ≡ mark_path commit → ⊥
config_mark commit sum same =
    let e : Config ≡ Mark commit = sym place-config ∙ ap place same ∙ place-mark commit sum in
    cc

pub vacant_or : (s : Seen) → (s ≡ Vacant) ⊎ (s ≢ Vacant)
vacant_or Vacant = inl refl
vacant_or (Directory m) = inr (λ e. let n : Directory m ≡ Vacant = e in cc)
vacant_or (Symlink m t) = inr (λ e. let n : Symlink m t ≡ Vacant = e in cc)
vacant_or (Leaf n m b) = inr (λ e. let x : Leaf n m b ≡ Vacant = e in cc)

-- the place of an object or of a mark
abbrev pub IsObjectOrMark : Place → Type 0
IsObjectOrMark (Object kind sum) = Unit {0}
IsObjectOrMark (Mark commit) = Unit {0}
IsObjectOrMark x = ⊥

pub object_place : (o : ObjName) → IsSum o.csum → IsObjectOrMark (place (path_of o))
object_place o sum = subst IsObjectOrMark (sym (place-object o.kind o.csum sum)) tt

pub mark_place : (commit : List ℕ) → IsSum commit → IsObjectOrMark (place (mark_path commit))
mark_place commit sum = subst IsObjectOrMark (sym (place-mark commit sum)) tt

not_above : (p : Path) (sum : List ℕ) → IsObjectOrMark (place p) → is_below p (objects_folder_path sum) ≡ true → ⊥
not_above p sum one below = ⊎_elim
    (λ above. let n : IsObjectOrMark (Other p) = subst IsObjectOrMark (fixed_other Objects p above) one in n)
    (λ is. let n : IsObjectOrMark (ObjectsFolder (take 2 (hex_of sum))) = subst IsObjectOrMark (ap place is ∙ place-objects_folder sum) one in n)
    (above_objects sum p below)

-- So what leads to objects goes on to.
pub leads_on : (at : Path) (W : Path → Seen → Type 0) (v w : View) → IsObjectOrMark (place at) → Vacates at W → Writes W v w → (sum : List ℕ) → Leads v (objects_folder_path sum) → Leads w (objects_folder_path sum)
leads_on at W v w is vacates writes sum leads p s may below = ⊎_elim
    (λ was. leads p s was below)
    (λ wrote. absurd (not_above p sum (subst (λ q. IsObjectOrMark (place q)) (sym (vacates p s wrote).0) is) below))
    (writes.only p s may)

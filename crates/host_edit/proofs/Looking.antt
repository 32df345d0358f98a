-- What a look at a path finds, and what it comes to.
use Rattle.std.proofs.Common.{◌≡◌, ◌≢◌, ◌⊎◌, inl, inr, ⊎_elim, true, false, List, [], ◌∷◌, Result, Ok, Err, refl, sym, ◌∙◌, ap, subst, arith, IfErr, length, ◌==◌}
use Rattle.std.specs.Prelude.{Contains}
use Rattle.std.proofs.lemmas.Bool.Decides.{Decides-eqb}
use Rattle.ost_types.specs.Path.{Name, Path, is_in, under}
use Rattle.ost_types.proofs.Paths.{under-folder, under-is_in}
use Rattle.fs_trait.specs.declared.types.Value.{Value}
use Rattle.fs_trait.specs.declared.types.Value.TheVariants as value
use Rattle.fs_trait.specs.declared.types.FsErr.{FsErr}
use Rattle.fs_trait.specs.View.{Disk}
use Rattle.fs_trait.specs.Image.{IsTree, is_folder}
use Rattle.fs_trait.specs.Effect.{Answered, IsListing, OfNone, no_folder}
use Rattle.fs_trait.specs.Seen.{Vacant, seen, shows, IsDirectory, NotDirectory}
use Rattle.fs_trait.proofs.Answering.{read_fails}
use Rattle.fs_trait.proofs.Facts.{vacant_absent}
use Rattle.fs_trait.proofs.Refusals.{no_folder-there}
use Rattle.fs_trait.proofs.Ways.{folder_of}
use Rattle.ref_room.specs.declared.stands.Stands.{Stands}
use Rattle.ref_room.specs.declared.stands.Stands.TheVariants as stand
use Rattle.ref_room.specs.Stands.{stands}
use Rattle.host_edit.specs.There.{HasParent, IsEmptyFolder, IsFullFolder, IsLeaf, LacksParent}

-- ---- what stands there, by what was found

abbrev Found : Stands → Disk → Value → Type 0
Found stand.Nothing d z = (z ≡ value.Absent) × (seen d z ≡ Vacant) × NotDirectory (seen d z)
Found stand.Folder d z = (is_folder z ≡ true) × IsDirectory (seen d z)
Found stand.Leaf d z = (z ≢ value.Absent) × IsLeaf (seen d z) × NotDirectory (seen d z)

found_value : (d : Disk) (z : Value) → Found (stands z) d z
found_value d value.Absent = (refl, refl, tt)
found_value d (value.Folder m) = (refl, tt)
found_value d (value.Link m t) = ((λ e. let n : value.Link m t ≡ value.Absent = e in cc), tt, tt)
found_value d (value.File n) = ((λ e. let n : value.File n ≡ value.Absent = e in cc), tt, tt)

pub found : (d : Disk) (p : Path) (s : Stands) → stands (d.at p) ≡ s → Found s d (d.at p)
found d p s is = subst (λ x. Found x d (d.at p)) is (found_value d (d.at p))

pub directory : (d : Disk) (z : Value) → is_folder z ≡ true → IsDirectory (seen d z)
directory d (value.Folder m) e = tt
directory d value.Absent e = let n : false ≡ true = e in cc
directory d (value.Link m t) e = let n : false ≡ true = e in cc
directory d (value.File k) e = let n : false ≡ true = e in cc

pub no_names : (xs : List Name) → true ≡ (length xs == 0) → xs ≡ []
no_names [] e = refl
no_names (x ∷ xs) e = let none : length (x ∷ xs) ≡ 0 = (Decides-eqb (length (x ∷ xs)) 0).0 (sym e) in absurd (omega (arith, none))

pub some_names : (xs : List Name) → false ≡ (length xs == 0) → xs ≡ [] → ⊥
some_names xs e none = let n : false ≡ true = e ∙ (Decides-eqb (length xs) 0).1 (ap length none) in cc

-- the one folder that the path is in
module _ (d : Disk) (folder at : Path) (inside : (x : Name) × (at ≡ under folder x)) where
  only : (f : Path) → is_in f at ≡ true → f ≡ folder
  only f in_ = let w = under-is_in f at in_ in under-folder f folder w.0 inside.0 (sym w.1 ∙ inside.1)

  pub has_parent : IsDirectory (shows d folder) → HasParent d at
  has_parent is f in_ = subst (λ g. IsDirectory (shows d g)) (sym (only f in_)) is

  pub lacks_parent : NotDirectory (shows d folder) → LacksParent d at
  lacks_parent is f in_ = subst (λ g. NotDirectory (shows d g)) (sym (only f in_)) is

-- what stands somewhere stands in a folder
pub there_in_folder : (d : Disk) (at : Path) → IsTree d → d.at at ≢ value.Absent → HasParent d at
there_in_folder d at tree there f in_ =
    let w = under-is_in f at in_ in
    directory d (d.at f) (folder_of d tree f w.0 (subst (λ q. d.at q ≢ value.Absent) w.1 there))

folder_there : (z : Value) → is_folder z ≡ true → z ≢ value.Absent
folder_there z is none = let n : false ≡ true = sym (ap is_folder none) ∙ is in cc

module _ (d : Disk) (at : Path) (tree : IsTree d) where
  pub leaf_there : stands (d.at at) ≡ stand.Leaf → HasParent d at × IsLeaf (shows d at)
  leaf_there is = let f = found d at stand.Leaf is in (there_in_folder d at tree f.0, f.1)

  module _ (is : stands (d.at at) ≡ stand.Folder) where
    folder_at : is_folder (d.at at) ≡ true
    folder_at = (found d at stand.Folder is).0

    pub parent_of_folder : HasParent d at
    parent_of_folder = there_in_folder d at tree (folder_there (d.at at) folder_at)

    pub list_fails : (r : Result (List Name) FsErr) → Answered (no_folder at d) (IsListing d at) r → IfErr r OfNone
    list_fails (Ok names) answer = tt
    list_fails (Err e) answer = read_fails {T = List Name} (no_folder at d) (IsListing d at) OfNone (no_folder-there d tree at folder_at) tt tt e answer

    absent_or_not : (z : Value) → (z ≡ value.Absent → ⊥) ⊎ (z ≡ value.Absent)
    absent_or_not value.Absent = inr refl
    absent_or_not (value.Folder m) = inl (λ e. let n : value.Folder m ≡ value.Absent = e in cc)
    absent_or_not (value.Link m t) = inl (λ e. let n : value.Link m t ≡ value.Absent = e in cc)
    absent_or_not (value.File k) = inl (λ e. let n : value.File k ≡ value.Absent = e in cc)

    none_in : (names : List Name) → IsListing d at names → names ≡ [] → (x : Name) → shows d (under at x) ≡ Vacant
    none_in names listing none x = ⊎_elim
        (λ there. let has = subst (λ l. Contains l x) none (listing.all x there) in absurd (omega (arith, has.1)))
        (λ e. ap (seen d) e) (absent_or_not (d.at (under at x)))

    pub empty_there : (names : List Name) → IsListing d at names → names ≡ [] → HasParent d at × IsEmptyFolder d at
    empty_there names listing none = (parent_of_folder, ((found d at stand.Folder is).1, none_in names listing none))

    some_in : (names : List Name) → ((x : Name) → Contains names x → d.at (under at x) ≢ value.Absent) → (names ≡ [] → ⊥) → (x : Name) × (shows d (under at x) ≢ Vacant)
    some_in [] there some = absurd (some refl)
    some_in (x ∷ names) there some = (x, λ e. there x (0, omega arith, refl) (vacant_absent d (under at x) e))

    pub full_there : (names : List Name) → IsListing d at names → (names ≡ [] → ⊥) → HasParent d at × IsFullFolder d at
    full_there names listing some = (parent_of_folder, ((found d at stand.Folder is).1, some_in names listing.there some))

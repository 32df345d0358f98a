-- What a look at a folder finds in it.
use Rattle.std.proofs.Common.{◌≡◌, true, false, refl, sym, subst, arith, List, [], Result, Ok, Err, IfErr}
use Rattle.std.specs.List.Sorted.{IsStrictlySortedBy}
use Rattle.ost_types.specs.Path.{Name, Path}
use Rattle.fs_trait.specs.declared.types.Value.{Value}
use Rattle.fs_trait.specs.declared.types.Value.TheVariants.{Absent, Folder, Link, File}
use Rattle.fs_trait.specs.declared.types.FsErr.{FsErr}
use Rattle.fs_trait.specs.View.{Disk}
use Rattle.fs_trait.specs.Image.{IsTree, is_folder}
use Rattle.fs_trait.specs.Effect.{Answered, IsListing, OfNone, no_folder}
use Rattle.fs_trait.proofs.Answering.{read_fails}
use Rattle.fs_trait.proofs.Refusals.{no_folder-there}
use Rattle.ref_room.specs.declared.stands.Stands.{Stands}
use Rattle.ref_room.specs.declared.stands.Stands.TheVariants as stand
use Rattle.ref_room.specs.Stands.{stands}

abbrev holds_names : Stands → Value → Type 0
holds_names stand.Folder z = is_folder z ≡ true
holds_names s z = is_folder z ≡ false

looked : (z : Value) → holds_names (stands z) z
looked Absent = refl
looked (Folder m) = refl
looked (Link m t) = refl
looked (File n) = refl

pub list_fails : (d : Disk) (at : Path) → IsTree d → stands (d.at at) ≡ stand.Folder → (r : Result (List Name) FsErr) → Answered (no_folder at d) (IsListing d at) r → IfErr r OfNone
list_fails d at tree is (Ok names) answer = tt
list_fails d at tree is (Err e) answer =
    let folder : is_folder (d.at at) ≡ true = subst (λ s. holds_names s (d.at at)) is (looked (d.at at)) in
    read_fails {T = List Name} (no_folder at d) (IsListing d at) OfNone (no_folder-there d tree at folder) tt tt e answer

none_listed : (d : Disk) (at : Path) → IsTree d → is_folder (d.at at) ≡ false → (names : List Name) → names ≡ [] → IsListing d at names
unfolding IsStrictlySortedBy
none_listed d at tree is names none = subst (IsListing d at) (sym none) (record {
  ascending = tt;
  there = λ x has. absurd (omega (arith, has.1));
  all = λ x there. absurd (there (tree.folders at x is));
})

pub nothing_listed : (d : Disk) (at : Path) → IsTree d → stand.Nothing ≡ stands (d.at at) → (names : List Name) → names ≡ [] → IsListing d at names
nothing_listed d at tree is names none = none_listed d at tree (subst (λ s. holds_names s (d.at at)) (sym is) (looked (d.at at))) names none

pub leaf_listed : (d : Disk) (at : Path) → IsTree d → stand.Leaf ≡ stands (d.at at) → (names : List Name) → names ≡ [] → IsListing d at names
leaf_listed d at tree is names none = none_listed d at tree (subst (λ s. holds_names s (d.at at)) (sym is) (looked (d.at at))) names none

-- What stands in the place of a folder, and the folders that are there from the beginning.
use Rattle.std.proofs.Common.{◌≡◌, ◌⊎◌, inl, inr, ◌<◌, ℕ, true, false, refl, arith, get_or, Err}
use Rattle.ost_types.specs.Path.{Path}
use Rattle.fs_trait.specs.declared.types.Value.{Value}
use Rattle.fs_trait.specs.declared.types.Value.TheVariants as value
use Rattle.fs_trait.specs.View.{Disk}
use Rattle.fs_trait.specs.Seen.{seen, IsDirectory}
use Rattle.repo_layout.specs.declared.folder.Folder.{Folder}
use Rattle.repo_layout.specs.declared.folder.Folder.TheVariants.{Ostree, Repo, Objects, Refs, Heads, State, Tmp, Deploy, Boot, Kernels, Checkouts}
use Rattle.repo_layout.specs.Refs.{is_leaf}
use Rattle.sys_open.specs.declared.fault.OpenFault.{OpenFault}
use Rattle.sys_open.specs.declared.fault.OpenFault.TheVariants as fault
use Rattle.sys_open.specs.declared.fault.Why.TheVariants.{WrongKind}
use Rattle.layout_rules.specs.declared.rule.Rule.TheVariants.{FolderOrNothing, NoFolder}
use Rattle.layout_rules.specs.Checks.{Suits}
use Rattle.sys_open.specs.Folders.{all_folders}
use Rattle.sys_open.specs.Walk.{Looked}

-- each is one of them
pub is_one : (f : Folder) → (k : ℕ) × (k < 11) × (get_or all_folders k f ≡ f)
is_one Boot = (0, omega arith, refl)
is_one Kernels = (1, omega arith, refl)
is_one Checkouts = (2, omega arith, refl)
is_one Ostree = (3, omega arith, refl)
is_one Deploy = (4, omega arith, refl)
is_one Repo = (5, omega arith, refl)
is_one Objects = (6, omega arith, refl)
is_one Refs = (7, omega arith, refl)
is_one Heads = (8, omega arith, refl)
is_one State = (9, omega arith, refl)
is_one Tmp = (10, omega arith, refl)

pub leaf_suits_not : (z : Value) → is_leaf z ≡ true → Suits FolderOrNothing z → ⊥
leaf_suits_not (value.Folder m) e suits = let n : false ≡ true = e in cc
leaf_suits_not value.Absent e suits = let n : false ≡ true = e in cc
leaf_suits_not (value.Link m t) e suits = suits
leaf_suits_not (value.File n) e suits = suits

pub damaged_kind : (T So : Type 0) (at p : Path) (f : OpenFault) → at ≡ p → (f ≡ fault.Damaged at WrongKind) ⊎ (f ≡ fault.NoMemory) → (So → ⊥) → Looked {T = T} So WrongKind p (Err f)
damaged_kind T So at p f same (inl e) wrong = rw e (refl, same, wrong)
damaged_kind T So at p f same (inr e) wrong = rw e tt

pub folder_suits_not : (d : Disk) (z : Value) → IsDirectory (seen d z) → Suits NoFolder z → ⊥
folder_suits_not d (value.Folder m) is suits = suits
folder_suits_not d value.Absent is suits = is
folder_suits_not d (value.Link m t) is suits = is
folder_suits_not d (value.File n) is suits = is

pub leaf_no_folder_there : (z : Value) → is_leaf z ≡ true → Suits NoFolder z
leaf_no_folder_there (value.Folder m) e = let n : false ≡ true = e in cc
leaf_no_folder_there value.Absent e = tt
leaf_no_folder_there (value.Link m t) e = tt
leaf_no_folder_there (value.File n) e = tt

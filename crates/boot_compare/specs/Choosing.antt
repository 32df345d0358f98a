-- Which swap lets a list boot, and what is known of that on the way.
use Rattle.std.specs.Prelude.{◌≡◌, ◌≢◌, ◌⊎◌, ◌<◌, ◌+◌, ℕ, List, length, Option, Some, None, Result, Ok, Err}
use Rattle.ost_types.specs.declared.meta.Meta.{Meta}
use Rattle.fs_trait.specs.declared.types.FsErr.{FsErr}
use Rattle.fs_trait.specs.declared.types.FsErr.TheVariants.{Failed, NoMemory, Exists}
use Rattle.fs_trait.specs.declared.types.Node as node
use Rattle.fs_trait.specs.declared.task.StepResult.{StepResult}
use Rattle.fs_trait.specs.declared.task.StepResult.TheVariants.{More, Done}
use Rattle.fs_trait.specs.View.{Disk}
use Rattle.fs_trait.specs.Seen.{Vacant, shows}
use Rattle.repo_layout.specs.declared.fixed.Version.{Version}
use Rattle.repo_layout.specs.declared.fixed.Version.TheVariants.{Zero, One}
use Rattle.repo_layout.specs.Fixed.{number}
use Rattle.repo_layout.specs.BootPaths.{loader_path}
use Rattle.boot_model.specs.declared.item.BootItem.{BootItem}
use Rattle.boot_model.specs.Entries.{loader_target}
use Rattle.boot_model.specs.Listing.{Selects, ShowsEntries}
use Rattle.boot_compare.specs.declared.choosing.ChoosePhase.{ChoosePhase}
use Rattle.boot_compare.specs.declared.choosing.ChoosePhase.TheVariants.{Look, Entries, Compare}
use Rattle.boot_compare.specs.declared.choosing.Swap as which
use Rattle.boot_compare.specs.declared.choosing.Swap.TheVariants.{Loader, Sub}
use Rattle.boot_compare.specs.declared.comparing.Compared.{Compared}
use Rattle.boot_compare.specs.declared.comparing.Compared.TheVariants as compared
use Rattle.boot_compare.specs.Comparing.{Compares}

abbrev pub other : Version → Version
other Zero = One
other One = Zero

-- how far a choice is
pub record Choosing : Type 0 where
  pub phase : ChoosePhase

-- Only the links change where the entries of the version that is selected are those of the list. Else the other version is to be selected,
-- and the first where none is.
abbrev pub IsChosen : Disk → List BootItem → which.Swap → Type 0
IsChosen d items (Loader n) = ((shows d loader_path ≡ Vacant) × (n ≡ Zero))
    ⊎ ((m : Version) × Selects d (number m) × (n ≡ other m) × (¬ (ShowsEntries d (number m) items)))
IsChosen d items (Sub n) = Selects d (number n) × ShowsEntries d (number n) items

-- what is known on the way
abbrev pub knows_in : ChoosePhase → Disk → List BootItem → Type 0
knows_in Look d items = Unit {0}
knows_in (Entries n) d items = Selects d (number n)
knows_in (Compare n c) d items = Selects d (number n) × Compares d (number n) items c

abbrev pub Knows : Choosing → Disk → List BootItem → Type 0
Knows t = knows_in t.phase

abbrev pub Tells : Disk → List BootItem → StepResult which.Swap → Choosing → Type 0
Tells d items More new = Knows new d items
Tells d items (Done u) new = IsChosen d items u

-- which version is selected: none where nothing stands at the boot loader's link
abbrev pub IsSelected : Disk → Option Version → Type 0
IsSelected d None = shows d loader_path ≡ Vacant
IsSelected d (Some n) = Selects d (number n)

-- which version a link selects
abbrev pub IsVersionOf : node.Node → Option Version → Type 0
IsVersionOf n (Some version) = (m : Meta) × (n ≡ node.TheVariants.Link m (loader_target (number version)))
IsVersionOf n None = (version : Version) (m : Meta) → n ≢ node.TheVariants.Link m (loader_target (number version))

-- Why no swap is chosen: a call failed or wanted for memory, or what stands at the boot loader's link selects no version.
abbrev pub IsBarred : Disk → FsErr → Type 0
IsBarred d Failed = Unit {0}
IsBarred d NoMemory = Unit {0}
IsBarred d Exists = (shows d loader_path ≢ Vacant) × ((n : Version) → ¬ (Selects d (number n)))
IsBarred d e = ⊥

-- which errors come at all
abbrev pub IsNamed : FsErr → Type 0
IsNamed Failed = Unit {0}
IsNamed NoMemory = Unit {0}
IsNamed Exists = Unit {0}
IsNamed e = ⊥

-- so many parts are left, and no more steps than this of the one that is being done
abbrev pub parts : ChoosePhase → ℕ
parts Look = 3
parts (Entries n) = 2
parts (Compare n c) = 1

abbrev pub left : ChoosePhase → ℕ
left (Compare n c) = length c.names + 1
left ph = 1

abbrev pub Falls : ChoosePhase → ChoosePhase → Type 0
Falls new old = (parts new < parts old) ⊎ ((parts new ≡ parts old) × (left new < left old))

abbrev pub OnMore : {T : Type 0} → Result (StepResult T) FsErr → Type 0 → Type 0
OnMore (Ok More) P = P
OnMore r P = Unit {0}

abbrev pub IsLook : ChoosePhase → Type 0
IsLook Look = Unit {0}
IsLook ph = ⊥

abbrev pub IsList : ChoosePhase → Type 0
IsList (Entries n) = Unit {0}
IsList ph = ⊥

abbrev pub IsCompare : ChoosePhase → Type 0
IsCompare (Compare n c) = Unit {0}
IsCompare ph = ⊥

-- what a comparison of this version's entries says of the swap
abbrev pub outcome : Version → Compared → StepResult which.Swap
outcome n compared.More = More
outcome n compared.Same = Done (Sub n)
outcome n compared.Other = Done (Loader (other n))

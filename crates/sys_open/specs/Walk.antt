-- What is found at a path and below it.
use Rattle.std.specs.Prelude.{◌≡◌, ◌≢◌, ◌⊎◌, ℕ, true, IsTrue, List, [], map, Contains, Option, Some, None, Result, Ok, Err}
use Rattle.std.specs.declared.cmp.Ordering.TheVariants.{Less}
use Rattle.ost_types.specs.Path.{Name, Path, IsPath, is_below, path_cmp, under}
use Rattle.fs_trait.specs.declared.types.Value.TheVariants.{File}
use Rattle.fs_trait.specs.View.{Disk}
use Rattle.fs_trait.specs.Image.{is_folder}
use Rattle.ref_room.specs.declared.stands.Stands.{Stands}
use Rattle.ref_room.specs.declared.stands.Stands.TheVariants as stand
use Rattle.sys_open.specs.declared.fault.Why.{Why}
use Rattle.sys_open.specs.declared.fault.Why.TheVariants.{BadRef}
use Rattle.sys_open.specs.Faults.{IsInterruption}
use Rattle.layout_rules.specs.Checks.{HoldsRefs}
use Rattle.sys_open.specs.declared.fault.OpenFault.{OpenFault}
use Rattle.sys_open.specs.declared.fault.OpenFault.TheVariants as fault

-- the paths of the names in a folder
abbrev pub paths_in : Path → List Name → List Path
paths_in folder names = map (under folder) names

-- it is so of each path at or below this one
abbrev pub IsSoBelow : (Path → Type 0) → Path → Type 0
IsSoBelow So at = (q : Path) → IsTrue (is_below at q) → So q

-- The least path at or below this one of which it isn't so.
pub record IsFirstBelow (So : Path → Type 0) (at p : Path) : Type 0 where
  pub below : IsTrue (is_below at p)
  pub wrong : ¬ (So p)
  pub least : (q : Path) → IsTrue (is_below at q) → path_cmp q p ≡ Less → So q

-- What a walk over a path and all below it tells.
abbrev pub Walked : {T : Type 0} → (Path → Type 0) → Why → Path → Result T OpenFault → Type 0
Walked So why at (Ok x) = IsSoBelow So at
Walked So why at (Err (fault.Damaged p y)) = (y ≡ why) × IsFirstBelow So at p
Walked So why at (Err fault.Disk) = Unit {0}
Walked So why at (Err fault.NoMemory) = Unit {0}
Walked So why at (Err (fault.Outside p)) = ⊥

-- The least path of which it isn't so, if there is one.
abbrev pub IsLeastWrong : (Path → Type 0) → Option Path → Type 0
IsLeastWrong So None = IsSoBelow So []
IsLeastWrong So (Some p) = IsFirstBelow So [] p

-- the path of a damage that was told
abbrev pub IsDamage : {T : Type 0} → Result T OpenFault → Result (Option Path) OpenFault → Type 0
IsDamage (Ok x) path = path ≡ Ok None
IsDamage (Err (fault.Damaged p y)) path = path ≡ Ok (Some p)
IsDamage (Err e) path = path ≡ Err e

-- the lesser of two paths, or the one that there is
abbrev pub IsLesser : Option Path → Option Path → Option Path → Type 0
IsLesser None second one = one ≡ second
IsLesser (Some p) None one = one ≡ Some p
IsLesser (Some p) (Some q) one = ((path_cmp q p ≡ Less) × (one ≡ Some q)) ⊎ ((path_cmp q p ≢ Less) × (one ≡ Some p))

-- What a look at one path, or into one folder, tells.
abbrev pub Looked : {T : Type 0} → Type 0 → Why → Path → Result T OpenFault → Type 0
Looked So why at (Ok x) = So
Looked So why at (Err (fault.Damaged p y)) = (y ≡ why) × (p ≡ at) × (¬ So)
Looked So why at (Err fault.Disk) = Unit {0}
Looked So why at (Err fault.NoMemory) = Unit {0}
Looked So why at (Err (fault.Outside p)) = ⊥

-- all of these names in the folder have a path
abbrev pub AreReached : Path → List Name → Type 0
AreReached folder names = (x : Name) → Contains names x → IsPath (under folder x)

-- What a look at one path at or below the folder of refs tells: a folder stands there, or all at the path and below it is so.
abbrev pub Visited : Disk → Path → Result Stands OpenFault → Type 0
Visited d at (Ok stand.Folder) = is_folder (d.at at) ≡ true
Visited d at (Ok stands) = IsSoBelow (HoldsRefs d) at
Visited d at (Err e) = Walked {T = Stands} (HoldsRefs d) BadRef at (Err e)

-- What a call that can't be refused finds.
abbrev pub Finds : {T : Type 0} → (T → Type 0) → Result T OpenFault → Type 0
Finds P (Ok x) = P x
Finds P (Err e) = IsInterruption e

-- a regular file stands there
abbrev pub IsFileAt : Disk → Path → Type 0
IsFileAt d at = (n : ℕ) × (d.at at ≡ File n)

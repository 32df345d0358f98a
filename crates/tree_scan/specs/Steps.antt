-- What comes of the next path.
use Rattle.std.specs.Prelude.{◌≡◌, ◌≢◌, ◌≤◌, ◌<◌, ◌+◌, ◌++◌, Bool, true, false, Contains, List, [], ◌∷◌, length, map, Result, Ok, Err}
use Rattle.std.specs.List.{AllByRecursion}
use Rattle.ost_types.specs.declared.node.NodeName.TheVariants as node
use Rattle.ost_types.specs.Path.{Name, Path, IsPath, under}
use Rattle.fs_trait.specs.declared.types.FsErr.{FsErr}
use Rattle.fs_trait.specs.declared.task.StepResult.{StepResult}
use Rattle.fs_trait.specs.declared.task.StepResult.TheVariants.{More, Done}
use Rattle.fs_trait.specs.Effect.{OfNone}
use Rattle.fs_trait.specs.View.{Disk}
use Rattle.checkout.specs.CheckoutFolder.{IsTreeMap}
use Rattle.tree_scan.specs.Scan.{IsScan}
use Rattle.tree_scan.specs.Faults.{HasNoFault, IsFault}
use Rattle.tree_scan.specs.Scanning.{Scanning, passed, taken}
use Rattle.tree_scan.specs.SoFar.{IsSoFar}
use Rattle.tree_scan.specs.declared.fault.ScanFault.{ScanFault}
use Rattle.tree_scan.specs.declared.fault.ScanFault.TheVariants.{NotFolder, Unreadable, TooMany, TooLong}
use Rattle.tree_scan.specs.declared.look.Looked.{Looked}
use Rattle.tree_scan.specs.declared.look.Looked.TheVariants.{Nothing, Folder, OddFolder, Leaf, OddLeaf}

abbrev pub IsNext : Scanning → Path → Type 0
IsNext t p = (rest : List Path) × (t.todo ≡ p ∷ rest)

-- each of the names in the folder has a path within the bounds, or one of them hasn't
abbrev pub AllFit : Path → List Name → Bool → Type 0
AllFit f names true = AllByRecursion (λ x. IsPath (under f x)) names
AllFit f names false = (x : Name) × Contains names x × (IsPath (under f x) → ⊥)

abbrev pub IsNoFolder : Looked → Type 0
IsNoFolder (Folder m names) = ⊥
IsNoFolder OddFolder = ⊥
IsNoFolder looked = Unit {0}

-- whether no folder was found at the folder's own path
abbrev pub MissesFolder : Path → Looked → Bool → Type 0
MissesFolder p looked true = (p ≡ []) × IsNoFolder looked
MissesFolder p (Folder m names) false = Unit {0}
MissesFolder p OddFolder false = Unit {0}
MissesFolder p looked false = p ≢ []

-- the node is read, and where it is a folder its names wait as the next ones
pub record Takes (t : Scanning) (below : List Path) (becomes new : Scanning) : Type 0 where
  pub some : length t.found < t.limits.paths
  pub few : length below + length t.todo < 18446744073709551616
  pub is : new ≡ becomes

abbrev pub Goes : Scanning → Path → Looked → Scanning → Type 0
Goes t p Nothing new = (p ≢ []) × (new ≡ passed t)
Goes t p (Folder m names) new = Takes t (map (under p) names) (taken p (node.Folder m) (map (under p) names) t) new
Goes t p (Leaf sum) new = (p ≢ []) × Takes t [] (taken p (node.Leaf sum) [] t) new
Goes t p looked new = ⊥

abbrev pub IsOdd : Path → Looked → Type 0
IsOdd p OddFolder = Unit {0}
IsOdd p OddLeaf = p ≢ []
IsOdd p looked = ⊥

abbrev pub IsThere : Looked → Type 0
IsThere (Folder m names) = Unit {0}
IsThere (Leaf sum) = Unit {0}
IsThere looked = ⊥

abbrev pub IsFar : Path → Looked → Type 0
IsFar f (Folder m names) = AllFit f names false
IsFar f looked = ⊥

abbrev pub Stops : Scanning → Path → Looked → ScanFault → Type 0
Stops t p looked NotFolder = (p ≡ []) × IsNoFolder looked
Stops t p looked (Unreadable q) = (q ≡ p) × IsOdd p looked
Stops t p looked TooMany = (t.limits.paths ≤ length t.found) × IsThere looked
Stops t p looked (TooLong q) = (q ≡ p) × IsFar (t.at ++ p) looked

abbrev pub Came : Scanning → Path → Looked → StepResult (Result (Unit {0}) ScanFault) → Scanning → Type 0
Came t p looked More new = Goes t p looked new
Came t p looked (Done (Ok answer)) new = ⊥
Came t p looked (Done (Err fault)) new = Stops t p looked fault × (new ≡ t)

abbrev pub Comes : {E : Type 0} → Scanning → Path → Looked → Result (StepResult (Result (Unit {0}) ScanFault)) E → Scanning → Type 0
Comes t p looked (Ok turn) new = Came t p looked turn new
Comes t p looked (Err e) new = new ≡ t

-- What a step tells of a disk of which that much was known: as much of the task after it; at its end that the map is the folder and a
-- tree, and that nothing is wrong with it; or what is first wrong with the folder. An error comes where a call failed or wanted for memory.
abbrev pub StepTells : Disk → Scanning → Result (StepResult (Result (Unit {0}) ScanFault)) FsErr → Scanning → Type 0
StepTells d old (Ok More) new = IsSoFar d new
StepTells d old (Ok (Done (Ok answer))) new = IsScan d new.at new.found × IsTreeMap new.found × HasNoFault d new.at new.limits new.found
StepTells d old (Ok (Done (Err fault))) new = IsFault d new.at new.limits new.found fault
StepTells d old (Err e) new = OfNone e

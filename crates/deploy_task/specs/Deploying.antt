-- A commit that is being deployed, and which step comes next.
use Rattle.std.specs.Prelude.{◌≡◌, ◌≢◌, ◌⊎◌, ◌≤◌, ◌<◌, ◌+◌, ◌^◌, ℕ, List, ◌∷◌, All, length, Result, Ok, Err}
use Rattle.std.specs.Option.{is_some}
use Rattle.ost_types.specs.PathMap.{IsPathMap, Nodes}
use Rattle.fs_trait.specs.declared.types.FsErr.{FsErr}
use Rattle.fs_trait.specs.declared.task.StepResult.{StepResult}
use Rattle.fs_trait.specs.declared.task.StepResult.TheVariants.{More, Done}
use Rattle.fs_trait.specs.declared.task.Need.{Need}
use Rattle.fs_trait.specs.declared.task.Need.TheVariants as need
use Rattle.repo_layout.specs.Paths.{deploy_path, stage_path}
use Rattle.boot_model.specs.declared.item.DepId.{DepId}
use Rattle.boot_model.specs.declared.item.BootItem.{BootItem}
use Rattle.boot_model.specs.Items.{AreItems, IsItem, IsKarg, IsKver}
use Rattle.deploy_list.specs.Kernels.{Finds}
use Rattle.checkout.specs.CheckoutWork.{Answer, IsPlaced}
use Rattle.tree_copy.specs.TreeWork.{most_paths}
use Rattle.deploy_etc.specs.Defaults.{AreDefaults}
use Rattle.deploy_clean.specs.Cleaning as clean
use Rattle.deploy_clean.specs.Cleaning.{Cleaning}
use Rattle.tree_read.specs.declared.fault.TreeFault.{TreeFault}
use Rattle.tree_read.specs.Reading as walk
use Rattle.tree_read.specs.Reading.{Reading}
use Rattle.tree_scan.specs.declared.fault.ScanFault.{ScanFault}
use Rattle.tree_scan.specs.Scanning as scan
use Rattle.tree_scan.specs.Scanning.{Scanning}
use Rattle.deployment_build.specs.declared.deployment.NewDeployment.{NewDeployment}
use Rattle.deployment_build.specs.Deployment.{etc_of}
use Rattle.deployment_build.specs.Work as build
use Rattle.deployment_build.specs.Work.{Building}
use Rattle.boot_swap.specs.Swap as swap
use Rattle.boot_swap.specs.Swap.{Swapping}
use Rattle.deploy_task.specs.declared.deploy.Deploy.{Deploy}
use Rattle.deploy_task.specs.declared.refusal.DeployRefusal.{DeployRefusal}
use Rattle.deploy_task.specs.declared.refusal.DeployRefusal.TheVariants as refusal
use Rattle.deploy_task.specs.declared.phase.Phase.{Phase}
use Rattle.deploy_task.specs.declared.phase.Phase.TheVariants.{Clean, Choose, Source, Etc, BeginBuild, Build, BeginSwap, Swap, Ended}
use Rattle.deploy_task.specs.Listed.{IsFirstOf, IsNumbered, NoneOf, ids_in, items_at}

-- What is deployed, which deployment that is, the places of those that stay behind it, and what the next step does.
pub record Deploying : Type 0 where
  pub plan : Deploy
  pub id : DepId
  pub kept : List ℕ
  pub phase : Phase

abbrev pub items_of : Deploy → List BootItem
items_of plan = plan.items.items

-- What may be deployed: the list may boot, the staging path is that of an actor, a kernel is found in the tree, which has a place in each
-- folder that the new deployment may have, and its words may stand in a list. The serial is at most the length of the list.
pub record MayDeploy (plan : Deploy) : Type 0 where
  pub items : AreItems (items_of plan)
  pub staging : (actor : ℕ) × (plan.stage ≡ stage_path actor)
  pub kernel : Finds plan.tree (Ok plan.kernel.kver)
  pub version : IsKver plan.kernel.kver
  pub placed : (serial : ℕ) → serial ≤ 8 → IsPlaced (deploy_path plan.os plan.commit serial) plan.tree
  pub few : length plan.tree ≤ most_paths
  pub kargs : All IsKarg plan.kargs

-- the new deployment as the boot loader is told of it, and the list with it
abbrev pub item_of : Deploy → DepId → BootItem
item_of plan id = record {
  id = id;
  kargs = plan.kargs;
  kernel = record { kver = plan.kernel.kver; bootcsum = plan.kernel.bootcsum; initramfs = is_some plan.kernel.initramfs };
}

abbrev pub new_items : Deploy → DepId → List ℕ → List BootItem
new_items plan id kept = item_of plan id ∷ items_at (items_of plan) kept

-- what is built, with this as its `etc`
abbrev pub new_of : Deploy → DepId → Nodes → NewDeployment
new_of plan id etc = record { id = id; tree = plan.tree; etc = etc; origin = plan.origin; kernel = plan.kernel }

-- the deployment from which the configuration is taken over
abbrev pub IsSourceOf : Deploy → DepId → Type 0
IsSourceOf plan source = IsFirstOf (items_of plan) plan.os source

-- there is a place for the new one in the list
abbrev pub HasPlace : Deploying → Type 0
HasPlace t = length t.kept < 8

-- What the part in hand is of.
pub record WalksSource (plan : Deploy) (w : Reading) : Type 0 where
  pub source : DepId
  pub is_source : IsSourceOf plan source
  pub commit : w.commit ≡ source.commit
  pub limits : w.limits ≡ plan.limits

pub record ReadsEtc (plan : Deploy) (s : Scanning) : Type 0 where
  pub source : DepId
  pub is_source : IsSourceOf plan source
  pub at : s.at ≡ etc_of source
  pub limits : s.limits ≡ plan.limits

pub record Builds (plan : Deploy) (id : DepId) (b : Building) : Type 0 where
  pub etc : Nodes
  pub defaults : AreDefaults plan.tree etc
  pub new : build.plan_of b ≡ new_of plan id etc
  pub stage : build.stage_of b ≡ plan.stage

abbrev pub made_in : Phase → Deploying → Type 0
made_in (Clean c) t = c.listed ≡ ids_in (items_of t.plan)
made_in Choose t = Unit {0}
made_in (Source w) t = HasPlace t × WalksSource t.plan w
made_in (Etc defaults s) t = HasPlace t × ReadsEtc t.plan s × IsPathMap defaults
made_in (Build b) t = HasPlace t × Builds t.plan t.id b
made_in (Swap s) t = HasPlace t × (s.items ≡ new_items t.plan t.id t.kept)
made_in ph t = HasPlace t

-- What each such task keeps. The serials of the list have 32 bits.
pub record IsMade (t : Deploying) : Type 0 where
  pub may : MayDeploy t.plan
  pub serials : All (λ (id : DepId). id.serial < 2 ^ 32) (ids_in (items_of t.plan))
  pub numbered : IsNumbered (items_of t.plan) t.plan.used.items t.plan.os t.plan.commit t.id t.kept
  pub item : IsItem (item_of t.plan t.id)
  pub part : made_in t.phase t

-- at its beginning
pub record IsBegun (plan : Deploy) (t : Deploying) : Type 0 where
  pub is_of : t.plan ≡ plan
  pub numbered : IsNumbered (items_of plan) plan.used.items plan.os plan.commit t.id t.kept
  pub first : t.phase ≡ Clean (clean.begun (ids_in (items_of plan)))

abbrev pub in_phase : Phase → Deploying → Deploying
in_phase ph t = record t { phase = ph }

-- the lock under which a step stands
abbrev pub need_in : Phase → Need
need_in (Swap s) = swap.need_in s.phase
need_in Ended = need.Nothing
need_in ph = need.Sysroot

-- ---- which step it was, and what changed in the task

abbrev pub Turn : Type 0
Turn = StepResult (Result (Unit {0}) DeployRefusal)

-- the task goes on in this phase
abbrev pub GoesTo : Phase → Deploying → Turn → Deploying → Type 0
GoesTo ph old turn new = (turn ≡ More) × (new ≡ in_phase ph old)

-- it is refused, and stays as it is
abbrev pub IsRefused : DeployRefusal → Deploying → Turn → Deploying → Type 0
IsRefused why old turn new = (turn ≡ Done (Err why)) × (new ≡ old)

-- What the list doesn't name was removed a step further, and after the last one it is chosen what follows:
abbrev pub cleaned_to : StepResult (Unit {0}) → Cleaning → Phase
cleaned_to More c = Clean c
cleaned_to (Done x) c = Choose

pub record Cleans (c : Cleaning) (old : Deploying) (turn : Turn) (new : Deploying) : Type 0 where
  pub part : Cleaning
  pub inner : StepResult (Unit {0})
  pub step : clean.IsStepped c (Ok inner) part
  pub goes : GoesTo (cleaned_to inner part) old turn new

-- too many members are refused; else the first deployment of the stateroot is looked at, where there is one, and the new one built;
abbrev pub Chooses : Deploying → Turn → Deploying → Type 0
Chooses old turn new =
    ((8 ≤ length old.kept) × IsRefused refusal.TooManyDeps old turn new)
    ⊎ (HasPlace old × (((source : DepId) × IsSourceOf old.plan source × GoesTo (Source (walk.unread source.commit old.plan.limits)) old turn new)
    ⊎ (NoneOf (items_of old.plan) old.plan.os × GoesTo BeginBuild old turn new)))

-- its tree is walked a step further, then its `etc` is read, where the tree is whole;
abbrev pub BeginsReading : Nodes → Deploying → Turn → Deploying → Type 0
BeginsReading tree old turn new =
    (source : DepId) × (defaults : Nodes) × IsSourceOf old.plan source × IsPathMap tree × IsPathMap defaults × AreDefaults tree defaults × GoesTo (Etc defaults (scan.begun (etc_of source) old.plan.limits)) old turn new

abbrev pub walked_to : StepResult (Result (Unit {0}) TreeFault) → Reading → Deploying → Turn → Deploying → Type 0
walked_to More u old turn new = GoesTo (Source u) old turn new
walked_to (Done (Ok x)) u old turn new = BeginsReading u.found old turn new
walked_to (Done (Err fault)) u old turn new = IsRefused (refusal.Source fault) old turn new

pub record Walks (w : Reading) (old : Deploying) (turn : Turn) (new : Deploying) : Type 0 where
  pub part : Reading
  pub inner : StepResult (Result (Unit {0}) TreeFault)
  pub step : walk.IsStepped w (Ok inner) part
  pub goes : walked_to inner part old turn new

-- so is that `etc`, and where it is what it was at first the new one is built;
abbrev pub compared_to : Nodes → Nodes → Deploying → Turn → Deploying → Type 0
compared_to defaults etc old turn new = ((etc ≡ defaults) × GoesTo BeginBuild old turn new) ⊎ ((etc ≢ defaults) × IsRefused refusal.EtcChanged old turn new)

abbrev pub read_to : StepResult (Result (Unit {0}) ScanFault) → Nodes → Scanning → Deploying → Turn → Deploying → Type 0
read_to More defaults u old turn new = GoesTo (Etc defaults u) old turn new
read_to (Done (Ok x)) defaults u old turn new = compared_to defaults u.found old turn new
read_to (Done (Err fault)) defaults u old turn new = IsRefused (refusal.Etc fault) old turn new

pub record Scans (defaults : Nodes) (s : Scanning) (old : Deploying) (turn : Turn) (new : Deploying) : Type 0 where
  pub part : Scanning
  pub inner : StepResult (Result (Unit {0}) ScanFault)
  pub step : scan.IsStepped {E = FsErr} s (Ok inner) part
  pub goes : read_to inner defaults part old turn new

-- that begins, with what its tree has at `/usr/etc` as its `etc`,
abbrev pub BeginsBuild : Deploying → Turn → Deploying → Type 0
BeginsBuild old turn new = (etc : Nodes) × AreDefaults old.plan.tree etc × GoesTo (Build (build.begun old.plan.stage (new_of old.plan old.id etc))) old turn new

-- and goes a step further, and after the last one comes the swap;
abbrev pub built_to : StepResult Answer → Building → Deploying → Turn → Deploying → Type 0
built_to More b old turn new = GoesTo (Build b) old turn new
built_to (Done (Ok x)) b old turn new = GoesTo BeginSwap old turn new
built_to (Done (Err e)) b old turn new = (turn ≡ Done (Err refusal.DestExists)) × (new ≡ in_phase (Build b) old)

pub record BuildsOn (b : Building) (old : Deploying) (turn : Turn) (new : Deploying) : Type 0 where
  pub part : Building
  pub inner : StepResult Answer
  pub step : build.IsStepped b (Ok inner) part
  pub goes : built_to inner part old turn new

-- that begins with the new list,
abbrev pub BeginsSwap : Deploying → Turn → Deploying → Type 0
BeginsSwap old turn new = (s : Swapping) × swap.IsBegun (new_items old.plan old.id old.kept) s × GoesTo (Swap s) old turn new

-- and with its last step the task is done.
abbrev pub swapped_to : StepResult (Unit {0}) → Swapping → Deploying → Turn → Deploying → Type 0
swapped_to More s old turn new = GoesTo (Swap s) old turn new
swapped_to (Done x) s old turn new = (turn ≡ Done (Ok tt)) × (new ≡ in_phase Ended old)

pub record Swaps (s : Swapping) (old : Deploying) (turn : Turn) (new : Deploying) : Type 0 where
  pub part : Swapping
  pub inner : StepResult (Unit {0})
  pub step : swap.IsStepped s (Ok inner) part
  pub goes : swapped_to inner part old turn new

abbrev pub steps_in : Phase → Deploying → Turn → Deploying → Type 0
steps_in (Clean c) old turn new = Cleans c old turn new
steps_in Choose old turn new = Chooses old turn new
steps_in (Source w) old turn new = Walks w old turn new
steps_in (Etc defaults s) old turn new = Scans defaults s old turn new
steps_in BeginBuild old turn new = BeginsBuild old turn new
steps_in (Build b) old turn new = BuildsOn b old turn new
steps_in BeginSwap old turn new = BeginsSwap old turn new
steps_in (Swap s) old turn new = Swaps s old turn new
steps_in Ended old turn new = (turn ≡ Done (Ok tt)) × (new ≡ old)

-- One that wasn't done leaves the task as it was.
abbrev pub IsStepped : Deploying → Result Turn FsErr → Deploying → Type 0
IsStepped old (Ok turn) new = steps_in old.phase old turn new
IsStepped old (Err e) new = new ≡ old

-- the tree of the source was walked: its `etc` is read next
abbrev pub begins_from : {E : Type 0} → Phase → Deploying → Result Turn E → Deploying → Type 0
begins_from (Source w) old (Ok turn) new = BeginsReading w.found old turn new
begins_from ph old (Ok turn) new = ⊥
begins_from ph old (Err e) new = new ≡ old

abbrev pub BeginsEtc : {E : Type 0} → Deploying → Result Turn E → Deploying → Type 0
BeginsEtc old = begins_from old.phase old

-- ---- what is left

-- so many parts are left
abbrev pub parts : Phase → ℕ
parts (Clean c) = 8
parts Choose = 7
parts (Source w) = 6
parts (Etc defaults s) = 5
parts BeginBuild = 4
parts (Build b) = 3
parts BeginSwap = 2
parts (Swap s) = 1
parts Ended = 0

-- there is less to do: less of the same part, or fewer parts
abbrev pub Falls : Phase → Phase → Type 0
Falls (Clean d) (Clean c) = clean.left d < clean.left c
Falls (Source u) (Source w) = walk.left_of u < walk.left_of w
Falls (Etc more u) (Etc defaults s) = scan.left u < scan.left s
Falls (Build d) (Build b) = build.left d < build.left b
Falls (Swap u) (Swap s) = swap.Falls u.phase s.phase
Falls new old = parts new < parts old

-- how a step moves the clock: as that of the part does
pub record TakesAsBuild (b : Building) (before now : ℕ) : Type 0 where
  pub part : Building
  pub inner : StepResult Answer
  pub step : build.IsStepped b (Ok inner) part
  pub takes : build.Takes b inner part before now

abbrev pub Takes : Phase → ℕ → ℕ → Type 0
Takes (Clean c) before now = clean.Takes c.phase before now
Takes (Build b) before now = TakesAsBuild b before now
Takes (Swap s) before now = swap.Takes s.phase before now
Takes ph before now = now ≡ before

-- what room a step leaves: one takes the room of at most one call, and the rename that shows the list leaves that of the sync behind it
abbrev pub KeepsRoom : {T : Type 0} → Phase → ℕ → ℕ → Result T FsErr → Type 0
KeepsRoom (Swap s) before now result = swap.KeepsRoom s.phase before now result
KeepsRoom ph before now result = before ≤ now + 1

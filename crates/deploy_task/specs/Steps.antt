-- What each step needs, writes, tells and is refused for.
use Rattle.std.specs.Prelude.{◌≡◌, Option, Some, Result, Ok, Err, OnOk, IfOk, IfErr, IsErrOf}
use Rattle.ost_types.specs.Path.{Path}
use Rattle.ost_types.specs.PathMap.{Nodes}
use Rattle.fs_trait.specs.declared.types.FsErr.{FsErr}
use Rattle.fs_trait.specs.declared.types.FsErr.TheVariants.{NoMemory}
use Rattle.fs_trait.specs.declared.task.StepResult.TheVariants.{More, Done}
use Rattle.fs_trait.specs.View.{Disk, View}
use Rattle.fs_trait.specs.Image.{EachImage, Told}
use Rattle.fs_trait.specs.Effect.{OfNone}
use Rattle.fs_trait.specs.Seen.{Seen, Vacant, shows}
use Rattle.fs_trait.specs.Change.{Writes}
use Rattle.boot_model.specs.declared.item.DepId.{DepId}
use Rattle.boot_model.specs.Listing.{Boots}
use Rattle.checkout.specs.declared.checkout_phase.CheckoutPhase.{CheckoutPhase}
use Rattle.checkout.specs.declared.checkout_phase.CheckoutPhase.TheVariants as out
use Rattle.checkout.specs.CheckoutFolder.{HasLeaves}
use Rattle.tree_copy.specs.TreeFolder.{HasSources}
use Rattle.deploy_etc.specs.Defaults.{AreDefaults}
use Rattle.deploy_clean.specs.Unlisted.{IsClean}
use Rattle.deploy_clean.specs.Steps as clean
use Rattle.deployment_check.specs.Deployments.{IsWholeTree}
use Rattle.tree_walk.specs.Standing.{Standing}
use Rattle.tree_read.specs.Reading as walk
use Rattle.tree_scan.specs.Scan.{IsScan}
use Rattle.tree_scan.specs.Faults.{IsFault}
use Rattle.tree_scan.specs.SoFar as scan
use Rattle.deployment_build.specs.declared.phase.BuildPhase.{BuildPhase}
use Rattle.deployment_build.specs.declared.phase.BuildPhase.TheVariants as building
use Rattle.deployment_build.specs.Deployment.{IsBuilt, folder_of}
use Rattle.deployment_build.specs.Work.{Building}
use Rattle.deployment_build.specs.Steps as build
use Rattle.deployment_build.specs.Steps.{HasGround, HasWay}
use Rattle.boot_swap.specs.Steps as swap
use Rattle.boot_swap.specs.Steps.{HasPlaces, IsSettled}
use Rattle.deploy_task.specs.declared.deploy.Deploy.{Deploy}
use Rattle.deploy_task.specs.declared.refusal.DeployRefusal.{DeployRefusal}
use Rattle.deploy_task.specs.declared.refusal.DeployRefusal.TheVariants as refusal
use Rattle.deploy_task.specs.declared.phase.Phase.{Phase}
use Rattle.deploy_task.specs.declared.phase.Phase.TheVariants.{Clean, Choose, Source, Etc, BeginBuild, Build, BeginSwap, Swap, Ended}
use Rattle.deploy_task.specs.Listed.{ids_in}
use Rattle.deploy_task.specs.Deploying.{Deploying, IsMade, IsSourceOf, Turn, items_of, new_items, new_of}
use Rattle.deploy_task.specs.Lists.{Leaves}

-- what the next step may write: what that of its part may
abbrev pub writes_in : Phase → View → Path → Seen → Type 0
writes_in (Clean c) v p s = clean.WritesOf c v p s
writes_in (Build b) v p s = build.WritesOf b v p s
writes_in (Swap s) v p seen = swap.WritesOf s v p seen
writes_in ph v p s = ⊥

abbrev pub WritesOf : Deploying → View → Path → Seen → Type 0
WritesOf t = writes_in t.phase

-- ---- what the next step needs

-- What boots is known, and the folders of its list and of the boot loader are there.
pub record IsKnown (plan : Deploy) (v : View) : Type 0 where
  pub settled : IsSettled v
  pub places : HasPlaces (items_of plan) v.now

-- What the new deployment will need: whatever a crash leaves, folders lead to those of its stateroot; the objects of its leaves are there, and
-- what its kernel's copies need.
pub record IsReady (plan : Deploy) (v : View) : Type 0 where
  pub known : IsKnown plan v
  pub way : HasWay plan.os v
  pub leaves : HasLeaves v.now plan.tree
  pub sources : HasSources v.now plan.tree
  pub ground : HasGround plan.stage plan.os plan.kernel v.now

-- All that the list doesn't name is gone.
pub record IsCleaned (plan : Deploy) (v : View) : Type 0 where
  pub ready : IsReady plan v
  pub clean : IsClean v.now (ids_in (items_of plan))

-- these are the defaults of the deployment from which the configuration is taken over: what its commit's tree has at `/usr/etc`
pub record HasSource (plan : Deploy) (v : View) (defaults : Nodes) : Type 0 where
  pub source : DepId
  pub is_source : IsSourceOf plan source
  pub tree : Nodes
  pub has : IsWholeTree plan.limits v.now source.commit tree
  pub are : AreDefaults tree defaults

-- nothing stands where the first step of a build looks
abbrev pub free_in : BuildPhase → CheckoutPhase → Seen → Type 0
free_in building.Checkout out.Begin s = s ≡ Vacant
free_in building.Refused ph s = ⊥
free_in part ph s = Unit {0}

abbrev pub IsFree : Building → View → Type 0
IsFree b v = free_in b.phase b.checkout.phase (shows v.now (folder_of b.id))

-- The new deployment is built, with the defaults of its tree as its `etc`.
abbrev pub HasNew : Deploying → Disk → Type 0
HasNew t d = (etc : Nodes) × AreDefaults t.plan.tree etc × IsBuilt d (new_of t.plan t.id etc)

-- it is, and each crash leaves the new list
pub record IsDeployed (t : Deploying) (v : View) : Type 0 where
  pub built : HasNew t v.now
  pub boots : EachImage v (λ d. Boots d (new_items t.plan t.id t.kept))

abbrev pub needs_in : Phase → Deploying → View → Type 0
needs_in (Clean c) t v = clean.Needs c v × IsReady t.plan v
needs_in Choose t v = IsCleaned t.plan v
needs_in (Source w) t v = walk.IsSoFar (Standing v.now) w × IsCleaned t.plan v
needs_in (Etc defaults s) t v = HasSource t.plan v defaults × scan.IsSoFar v.now s × IsCleaned t.plan v
needs_in BeginBuild t v = IsCleaned t.plan v
needs_in (Build b) t v = build.Needs b v × IsFree b v × IsKnown t.plan v
needs_in BeginSwap t v = HasNew t v.now × IsKnown t.plan v
needs_in (Swap s) t v = swap.Needs s v × HasNew t v.now
needs_in Ended t v = IsDeployed t v

pub record Needs (t : Deploying) (v : View) : Type 0 where
  pub made : IsMade t
  pub meets : needs_in t.phase t v

-- ---- what a step tells

-- the tree of the source was walked: this is its first object that is missing or damaged
abbrev pub walks_source : Phase → View → Turn → Type 0
walks_source (Source w) v (Done (Err (refusal.Source fault))) = walk.TellsIn (Standing v.now) v.now w (Ok (Done (Err fault))) w
walks_source ph v turn = Unit {0}

-- its `etc` was read: something is wrong with it, it isn't what these defaults are, or it is
abbrev pub reads_etc : Phase → Phase → View → Turn → Type 0
reads_etc (Etc defaults s) next v (Done (Err (refusal.Etc fault))) = IsFault v.now s.at s.limits s.found fault
reads_etc (Etc defaults s) next v (Done (Err refusal.EtcChanged)) = ¬ (IsScan v.now s.at defaults)
reads_etc (Etc defaults s) BeginBuild v More = IsScan v.now s.at defaults
reads_etc ph next v turn = Unit {0}

-- Why the task is refused: for want of a place, or what the source's tree or `etc` lacks. That nothing stands where the new one is to be is
-- known.
abbrev pub tells_in : Phase → Phase → Deploying → View → Turn → Type 0
tells_in (Source w) next t v turn = walks_source (Source w) v turn
tells_in (Etc defaults s) next t v turn = reads_etc (Etc defaults s) next v turn
tells_in (Build b) next t v (Done (Err why)) = ⊥
tells_in ph next t v turn = Unit {0}

abbrev pub Tells : Deploying → Deploying → View → Turn → Type 0
Tells old new = tells_in old.phase new.phase old

-- Why a step isn't done: the call failed or wanted for memory, or for the reason of its part.
abbrev pub refuses_in : Phase → View → FsErr → Type 0
refuses_in (Clean c) v e = clean.refuses_in c.phase v e
refuses_in (Build b) v e = build.Refuses b v e
refuses_in (Swap s) v e = swap.Refuses s v e
refuses_in ph v e = OfNone e

-- once the new list boots
abbrev pub OnDone : Result Turn FsErr → Type 0 → Type 0
OnDone (Ok (Done (Ok x))) P = P
OnDone r P = Unit {0}

-- What a step says of a view that is told: what it wrote, what each crash leaves of the list, what the next one has, what its answer tells, that the
-- new list boots once the task is done, why it wasn't done, and that one which wanted for memory changed nothing.
pub record IsToldStep (old new : Deploying) (v : View) (r : Result Turn FsErr) (view : Option View) : Type 0 where
  pub writes : Told view (λ w. Writes (WritesOf old v) v w)
  pub leaves : Told view (λ w. EachImage w (Leaves (items_of old.plan) (new_items old.plan old.id old.kept) v))
  pub after : OnOk r (Told view (λ w. Needs new w))
  pub tells : IfOk r (Tells old new v)
  pub done : OnDone r (Told view (IsDeployed old))
  pub fails : IfErr r (refuses_in old.phase v)
  pub unchanged : IsErrOf r NoMemory → view ≡ Some v

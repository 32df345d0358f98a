-- A deployment that is being built, and which step comes next.
use Rattle.std.specs.Prelude.{◌≡◌, ◌<◌, ◌+◌, ◌^◌, false, ℕ, List, length, Result, Ok, Err}
use Rattle.ost_types.specs.Path.{Path}
use Rattle.fs_trait.specs.declared.types.FsErr.{FsErr}
use Rattle.fs_trait.specs.declared.task.StepResult.{StepResult}
use Rattle.fs_trait.specs.declared.task.StepResult.TheVariants.{More, Done}
use Rattle.fs_trait.specs.declared.task.Need.TheVariants.{Sysroot}
use Rattle.repo_layout.specs.Paths.{stage_path}
use Rattle.boot_model.specs.declared.item.DepId.{DepId}
use Rattle.deploy_list.specs.Kernels.{has_etc}
use Rattle.folder_build.specs.Node.{file_meta}
use Rattle.checkout.specs.CheckoutFolder.{IsTreeMap}
use Rattle.checkout.specs.CheckoutWork as checkout
use Rattle.checkout.specs.CheckoutWork.{Answer}
use Rattle.tree_copy.specs.TreeWork as tree
use Rattle.tree_copy.specs.TreeWork.{TreeCopying}
use Rattle.staged_file.specs.declared.phase.Phase.TheVariants as staged
use Rattle.staged_file.specs.Staged as staging
use Rattle.staged_file.specs.Staged.{Staged}
use Rattle.kernel_copy.specs.Work as kernel
use Rattle.kernel_copy.specs.Work.{KernelCopying}
use Rattle.deployment_build.specs.declared.deployment.NewDeployment.{NewDeployment}
use Rattle.deployment_build.specs.declared.phase.BuildPhase.{BuildPhase}
use Rattle.deployment_build.specs.declared.places.Places.{Places}
use Rattle.deployment_build.specs.declared.phase.BuildPhase.TheVariants.{Checkout, Etc, Origin, Kernel, Ended, Refused}
use Rattle.deployment_build.specs.Deployment.{deployments, etc_of, folder_of, origin_of}

-- which deployment it is, how far each of its parts is, and which of them is being made
pub record Building : Type 0 where
  pub id : DepId
  pub checkout : checkout.Checkout
  pub etc : TreeCopying
  pub origin : Staged
  pub kernel : KernelCopying
  pub phase : BuildPhase

-- what is built, and where it is staged
abbrev pub plan_of : Building → NewDeployment
plan_of t = record { id = t.id; tree = t.checkout.tree; etc = t.etc.tree; origin = t.origin.bytes; kernel = t.kernel.files }

abbrev pub stage_of : Building → Path
stage_of t = t.origin.stage

-- where it is built
abbrev pub places_of : Path → DepId → Places
places_of stage id = record { files = folder_of id; etc = etc_of id; folder = deployments id.os; origin = origin_of id; stage = stage }

-- an origin file that isn't begun
abbrev pub origin_begun : Path → DepId → List ℕ → Staged
origin_begun stage id text = record {
  stage = stage;
  folder = deployments id.os;
  at = origin_of id;
  meta = file_meta;
  bytes = text;
  lock = Sysroot;
  phase = staged.Clear;
  written = 0;
}

-- at its beginning
abbrev pub begun : Path → NewDeployment → Building
begun stage new = record {
  id = new.id;
  checkout = checkout.beginning (folder_of new.id) new.tree;
  etc = tree.begun (etc_of new.id) new.etc;
  origin = origin_begun stage new.id new.origin;
  kernel = kernel.begun stage new.id.os new.kernel;
  phase = Checkout;
}

-- the parts that aren't begun
abbrev pub EtcWaits : Building → Type 0
EtcWaits t = t.etc ≡ tree.begun (etc_of t.id) t.etc.tree

abbrev pub OriginWaits : Building → Type 0
OriginWaits t = t.origin.phase ≡ staged.Clear

abbrev pub KernelWaits : Building → Type 0
KernelWaits t = t.kernel ≡ kernel.begun (stage_of t) t.id.os t.kernel.files

abbrev pub IsWithin : BuildPhase → Building → Type 0
IsWithin Checkout t = EtcWaits t × OriginWaits t × KernelWaits t
IsWithin Etc t = OriginWaits t × KernelWaits t
IsWithin Origin t = KernelWaits t
IsWithin ph t = Unit {0}

-- where its files go, and which tree they are
pub record AreFiles (c : checkout.Checkout) (id : DepId) : Type 0 where
  pub into : c.into ≡ folder_of id
  pub shape : IsTreeMap c.tree
  pub no_etc : has_etc c.tree ≡ false

-- where its origin file goes, and with which attributes
pub record IsOrigin (o : Staged) (id : DepId) : Type 0 where
  pub folder : o.folder ≡ deployments id.os
  pub at : o.at ≡ origin_of id
  pub meta : o.meta ≡ file_meta
  pub short : length o.bytes < 2 ^ 63

-- what each such task keeps
pub record IsMade (t : Building) : Type 0 where
  pub stage : (actor : ℕ) × (stage_of t ≡ stage_path actor)
  pub files : AreFiles t.checkout t.id
  pub etc : t.etc.into ≡ etc_of t.id
  pub origin : IsOrigin t.origin t.id
  pub os : t.kernel.os ≡ t.id.os
  pub stages : kernel.stage_of t.kernel ≡ stage_of t
  pub within : IsWithin t.phase t

-- what follows a step of the phase that may be refused, which the other one follows
abbrev pub goes : BuildPhase → BuildPhase → StepResult Answer → BuildPhase
goes this next More = this
goes this next (Done (Ok x)) = next
goes this next (Done (Err e)) = Refused

abbrev pub goes_turn : StepResult Answer → StepResult Answer
goes_turn More = More
goes_turn (Done (Ok x)) = More
goes_turn (Done (Err e)) = Done (Err e)

-- and one that isn't refused
abbrev pub puts : BuildPhase → BuildPhase → StepResult (Unit {0}) → BuildPhase
puts this next More = this
puts this next (Done x) = next

abbrev pub puts_turn : StepResult (Unit {0}) → StepResult Answer
puts_turn More = More
puts_turn (Done x) = Done (Ok tt)

-- Which step it was, and what changed in the task: its files were checked out a step further, and after the last one `etc` follows;
pub record ChecksOut (old : Building) (turn : StepResult Answer) (new : Building) : Type 0 where
  pub files : checkout.Checkout
  pub inner : StepResult Answer
  pub step : checkout.IsStepped old.checkout (Ok inner) files
  pub turns : turn ≡ goes_turn inner
  pub is : new ≡ record old { checkout = files; phase = goes Checkout Etc inner }

-- so `etc`, which the origin file follows;
pub record CopiesEtc (old : Building) (turn : StepResult Answer) (new : Building) : Type 0 where
  pub copy : TreeCopying
  pub inner : StepResult Answer
  pub step : tree.IsStepped old.etc (Ok inner) copy
  pub turns : turn ≡ goes_turn inner
  pub is : new ≡ record old { etc = copy; phase = goes Etc Origin inner }

-- so that file, which the copies of the kernel follow;
pub record PutsOrigin (old : Building) (turn : StepResult Answer) (new : Building) : Type 0 where
  pub file : Staged
  pub inner : StepResult (Unit {0})
  pub step : staging.IsStepped old.origin (Ok inner) file
  pub turns : turn ≡ More
  pub is : new ≡ record old { origin = file; phase = puts Origin Kernel inner }

-- and so they, with which the task is done.
pub record PutsKernel (old : Building) (turn : StepResult Answer) (new : Building) : Type 0 where
  pub copies : KernelCopying
  pub inner : StepResult (Unit {0})
  pub step : kernel.IsStepped old.kernel (Ok inner) copies
  pub turns : turn ≡ puts_turn inner
  pub is : new ≡ record old { kernel = copies; phase = puts Kernel Ended inner }

abbrev pub steps_in : BuildPhase → Building → StepResult Answer → Building → Type 0
steps_in Checkout old turn new = ChecksOut old turn new
steps_in Etc old turn new = CopiesEtc old turn new
steps_in Origin old turn new = PutsOrigin old turn new
steps_in Kernel old turn new = PutsKernel old turn new
steps_in Ended old turn new = (turn ≡ Done (Ok tt)) × (new ≡ old)
steps_in Refused old (Done (Err e)) new = new ≡ old
steps_in Refused old turn new = ⊥

-- One that wasn't done leaves the task as it was.
abbrev pub IsStepped : Building → Result (StepResult Answer) FsErr → Building → Type 0
IsStepped old (Ok turn) new = steps_in old.phase old turn new
IsStepped old (Err e) new = new ≡ old

-- once all is there
abbrev pub OnBuilt : Result (StepResult Answer) FsErr → Type 0 → Type 0
OnBuilt (Ok (Done (Ok x))) P = P
OnBuilt r P = Unit {0}

-- no more steps than this are left: those of each part
abbrev pub left_in : BuildPhase → Building → ℕ
left_in Checkout t = checkout.left t.checkout + tree.left t.etc + staging.left t.origin + kernel.left t.kernel + 3
left_in Etc t = tree.left t.etc + staging.left t.origin + kernel.left t.kernel + 2
left_in Origin t = staging.left t.origin + kernel.left t.kernel + 1
left_in Kernel t = kernel.left t.kernel
left_in Ended t = 0
left_in Refused t = 0

abbrev pub left : Building → ℕ
left t = left_in t.phase t

-- how a step moves the clock: as that of the part does
abbrev pub takes_in : BuildPhase → Building → StepResult Answer → Building → ℕ → ℕ → Type 0
takes_in Checkout old turn new before now = checkout.Takes old.checkout.phase turn before now
takes_in Etc old turn new before now = tree.Takes old.etc new.etc before now
takes_in Origin old turn new before now = staging.Takes old.origin.phase before now
takes_in Kernel old turn new before now = kernel.Takes old.kernel before now
takes_in ph old turn new before now = now ≡ before

abbrev pub Takes : Building → StepResult Answer → Building → ℕ → ℕ → Type 0
Takes old turn new = takes_in old.phase old turn new

-- What each step of a build needs, writes and tells.
use Rattle.std.specs.Prelude.{◌≡◌, ◌≢◌, Option, Some, Result, Err, OnOk, IfOk, IfErr, IfSome, IsErrOf}
use Rattle.ost_types.specs.Path.{Name, Path}
use Rattle.fs_trait.specs.declared.types.FsErr.{FsErr}
use Rattle.fs_trait.specs.declared.types.FsErr.TheVariants.{Failed, NoMemory}
use Rattle.fs_trait.specs.declared.task.StepResult.{StepResult}
use Rattle.fs_trait.specs.declared.task.StepResult.TheVariants.{Done}
use Rattle.fs_trait.specs.View.{Disk, View}
use Rattle.fs_trait.specs.Image.{Told}
use Rattle.fs_trait.specs.Seen.{Seen, Vacant, MayBe, NotDirectory, shows}
use Rattle.fs_trait.specs.Change.{LeadsTo, Writes}
use Rattle.repo_layout.specs.BootPaths.{kernel_path}
use Rattle.checkout.specs.declared.checkout_phase.CheckoutPhase.{CheckoutPhase}
use Rattle.checkout.specs.declared.checkout_phase.CheckoutPhase.TheVariants as out
use Rattle.checkout.specs.CheckoutWork.{Answer}
use Rattle.checkout.specs.CheckoutSteps as checkout
use Rattle.checkout.specs.CheckoutSteps.{HasHome}
use Rattle.checkout_compare.specs.Compare.{IsCheckoutOutsideEtc}
use Rattle.tree_copy.specs.declared.phase.TreePhase.{TreePhase}
use Rattle.tree_copy.specs.declared.phase.TreePhase.TheVariants as tree_phase
use Rattle.tree_copy.specs.TreeFolder.{HasSources, IsCopy}
use Rattle.tree_copy.specs.TreeSteps as tree
use Rattle.staged_file.specs.Steps as staging
use Rattle.kernel_copy.specs.declared.files.KernelFiles.{KernelFiles}
use Rattle.kernel_copy.specs.Steps as kernel
use Rattle.kernel_copy.specs.Steps.{HasObject, NotLeaf}
use Rattle.deployment_build.specs.declared.phase.BuildPhase.{BuildPhase}
use Rattle.deployment_build.specs.declared.phase.BuildPhase.TheVariants.{Checkout, Etc, Origin, Kernel, Ended, Refused}
use Rattle.deployment_build.specs.Deployment.{HasOrigin, IsBuilt, deployments, etc_of, folder_of}
use Rattle.deployment_build.specs.Work.{Building, IsMade, OnBuilt, plan_of, stage_of}

-- what the next step may write: what that of its part may
abbrev pub writes_in : BuildPhase → Building → View → Path → Seen → Type 0
writes_in Checkout t v p s = checkout.WritesOf t.checkout v p s
writes_in Etc t v p s = tree.WritesOf t.etc v p s
writes_in Origin t v p s = staging.WritesOf t.origin v p s
writes_in Kernel t v p s = kernel.WritesOf t.kernel v p s
writes_in ph t v p s = ⊥

abbrev pub WritesOf : Building → View → Path → Seen → Type 0
WritesOf t v = writes_in t.phase t v

-- Each crash leaves folders down to the one in which the origin file is to be.
abbrev pub HasWay : Name → View → Type 0
HasWay os v = (p : Path) (s : Seen) → MayBe v p s → LeadsTo (deployments os) p s

-- What the copies of the kernel will need: folders above theirs and above the staging path, no leaf at the one and no folder at the
-- other, and the objects.
pub record HasGround (stage : Path) (os : Name) (files : KernelFiles) (d : Disk) : Type 0 where
  pub above : HasHome (kernel_path os files.bootcsum) d
  pub folder : NotLeaf (shows d (kernel_path os files.bootcsum))
  pub stages : HasHome stage d
  pub free : NotDirectory (shows d stage)
  pub kernel : HasObject d files.kernel
  pub initramfs : IfSome files.initramfs (HasObject d)

abbrev pub Ground : Building → Disk → Type 0
Ground t d = HasGround (stage_of t) t.id.os t.kernel.files d

-- the files are there, but for `etc`
abbrev pub HasFiles : Building → Disk → Type 0
HasFiles t d = IsCheckoutOutsideEtc d (folder_of t.id) t.checkout.tree

-- the checkout is neither ended nor refused
abbrev pub IsGoing : CheckoutPhase → Type 0
IsGoing out.Ended = ⊥
IsGoing out.Refused = ⊥
IsGoing ph = Unit {0}

-- nothing stands at `etc` before its copy is begun, which isn't refused
abbrev pub etc_free : TreePhase → Seen → Type 0
etc_free tree_phase.Begin s = s ≡ Vacant
etc_free tree_phase.Refused s = ⊥
etc_free ph s = Unit {0}

-- What the next step needs, by the part that is being made: what its own step does, the parts that are made, and what those behind
-- it will need.
pub record InCheckout (t : Building) (v : View) : Type 0 where
  pub part : checkout.Needs t.checkout v.now
  pub going : IsGoing t.checkout.phase
  pub sources : HasSources v.now t.etc.tree
  pub way : HasWay t.id.os v
  pub ground : Ground t v.now

pub record InEtc (t : Building) (v : View) : Type 0 where
  pub files : HasFiles t v.now
  pub part : tree.Needs t.etc v
  pub free : etc_free t.etc.phase (shows v.now (etc_of t.id))
  pub way : HasWay t.id.os v
  pub ground : Ground t v.now

pub record InOrigin (t : Building) (v : View) : Type 0 where
  pub files : HasFiles t v.now
  pub etc : IsCopy v.now (etc_of t.id) t.etc.tree
  pub part : staging.Needs t.origin v
  pub ground : Ground t v.now

pub record InKernel (t : Building) (v : View) : Type 0 where
  pub files : HasFiles t v.now
  pub etc : IsCopy v.now (etc_of t.id) t.etc.tree
  pub origin : HasOrigin v.now t.id t.origin.bytes
  pub part : kernel.Needs t.kernel v

abbrev pub needs_in : BuildPhase → Building → View → Type 0
needs_in Checkout t v = InCheckout t v
needs_in Etc t v = InEtc t v
needs_in Origin t v = InOrigin t v
needs_in Kernel t v = InKernel t v
needs_in Ended t v = IsBuilt v.now (plan_of t)
needs_in Refused t v = Unit {0}

pub record Needs (t : Building) (v : View) : Type 0 where
  pub made : IsMade t
  pub meets : needs_in t.phase t v

-- a turn that isn't a refusal
abbrev pub NotRefused : StepResult Answer → Type 0
NotRefused (Done (Err e)) = ⊥
NotRefused turn = Unit {0}

-- The first step of a checkout is refused exactly where something stands at this path, and then nothing is changed. No later one is.
abbrev pub first_tells : CheckoutPhase → Path → View → View → StepResult Answer → Type 0
first_tells out.Begin into v w (Done (Err e)) = (shows v.now into ≢ Vacant) × (w ≡ v)
first_tells out.Begin into v w turn = shows v.now into ≡ Vacant
first_tells ph into v w turn = NotRefused turn

-- What a step tells of the view before it: the task is refused where the first step of its checkout is, and no other part is refused.
abbrev pub tells_in : BuildPhase → Building → View → View → StepResult Answer → Type 0
tells_in Checkout t v w turn = first_tells t.checkout.phase (folder_of t.id) v w turn
tells_in Etc t v w turn = NotRefused turn
tells_in Origin t v w turn = NotRefused turn
tells_in Kernel t v w turn = NotRefused turn
tells_in ph t v w turn = w ≡ v

abbrev pub Tells : Building → View → View → StepResult Answer → Type 0
Tells t = tells_in t.phase t

-- Why a step isn't done: the call failed or wanted for memory, or a folder stands where the origin file or a copy of the kernel is to
-- go.
abbrev pub refuses_in : BuildPhase → Building → View → FsErr → Type 0
refuses_in ph t v Failed = Unit {0}
refuses_in ph t v NoMemory = Unit {0}
refuses_in Origin t v e = staging.Refuses t.origin v e
refuses_in Kernel t v e = kernel.Refuses t.kernel v e
refuses_in ph t v e = ⊥

abbrev pub Refuses : Building → View → FsErr → Type 0
Refuses t = refuses_in t.phase t

-- What a step says of a view that is told: what it wrote, what the next one has, what was told of the paths, that all is built once
-- the task is done, why it wasn't done, and that one which wanted for memory changed nothing.
pub record IsToldStep (old new : Building) (v : View) (r : Result (StepResult Answer) FsErr) (view : Option View) : Type 0 where
  pub writes : Told view (λ w. Writes (WritesOf old v) v w)
  pub after : OnOk r (Told view (λ w. Needs new w))
  pub tells : IfOk r (λ turn. Told view (λ w. Tells old v w turn))
  pub built : OnBuilt r (Told view (λ w. IsBuilt w.now (plan_of old)))
  pub fails : IfErr r (Refuses old v)
  pub unchanged : IsErrOf r NoMemory → view ≡ Some v

-- The copies of a kernel that are being put, and which step comes next.
use Rattle.std.specs.Prelude.{◌≡◌, ◌≢◌, ◌⊎◌, ◌+◌, ℕ, false, List, Option, Some, None, Result, Ok, Err}
use Rattle.std.specs.Option.{option_map}
use Rattle.ost_types.specs.Path.{Name, Path, is_below, under}
use Rattle.fs_trait.specs.declared.types.FsErr.{FsErr}
use Rattle.fs_trait.specs.declared.task.StepResult.{StepResult}
use Rattle.fs_trait.specs.declared.task.StepResult.TheVariants.{More, Done}
use Rattle.fs_trait.specs.Effect.{Next}
use Rattle.repo_layout.specs.BootPaths.{kernel_path}
use Rattle.file_copy.specs.Putting as put
use Rattle.file_copy.specs.Putting.{Putting}
use Rattle.folder_build.specs.Node.{file_meta}
use Rattle.kernel_copy.specs.declared.files.KernelFiles.{KernelFiles}
use Rattle.kernel_copy.specs.declared.phase.KernelPhase.{KernelPhase}
use Rattle.kernel_copy.specs.declared.phase.KernelPhase.TheVariants.{Folder, Kernel, Initramfs, Ended}
use Rattle.kernel_copy.specs.Copies.{IsFor, file_path, initramfs_path, vmlinuz_path}

-- of which stateroot's kernel, in which folder, and how far each copy is
pub record KernelCopying : Type 0 where
  pub os : Name
  pub files : KernelFiles
  pub folder : Path
  pub kernel : Putting
  pub initramfs : Option Putting
  pub phase : KernelPhase

-- a copy that isn't begun
abbrev pub put_begun : Path → Path → List ℕ → Putting
put_begun stage at sum = put.begun (file_path sum) stage at file_meta

abbrev pub second_begun : Path → Name → KernelFiles → Option Putting
second_begun stage os files = option_map (put_begun stage (initramfs_path os files)) files.initramfs

-- at its beginning
abbrev pub begun : Path → Name → KernelFiles → KernelCopying
begun stage os files = record {
  os = os;
  files = files;
  folder = kernel_path os files.bootcsum;
  kernel = put_begun stage (vmlinuz_path os files) files.kernel;
  initramfs = second_begun stage os files;
  phase = Folder;
}

abbrev pub stage_of : KernelCopying → Path
stage_of t = t.kernel.copying.stage

abbrev pub home_of : KernelCopying → Path
home_of t = kernel_path t.os t.files.bootcsum

-- Where the copies are staged: a name in a folder, apart from the folder of the copies and all in it, and from the objects.
pub record IsPlaced (stage : Path) (os : Name) (files : KernelFiles) : Type 0 where
  pub inside : (f : Path) × (x : Name) × (stage ≡ under f x)
  pub outside : is_below (kernel_path os files.bootcsum) stage ≡ false
  pub objects : (at : Path) (sum : List ℕ) → IsFor os files at sum → file_path sum ≢ stage

-- a copy of that object on its way to that path
pub record IsPut (c : Putting) (staged at : Path) (sum : List ℕ) : Type 0 where
  pub target : c.at ≡ at
  pub source : c.copying.from ≡ file_path sum
  pub stage : c.copying.stage ≡ staged
  pub meta : c.copying.meta ≡ file_meta

-- there is a second one, of what the kernel first mounts
pub record HasSecond (t : KernelCopying) : Type 0 where
  pub putting : Putting
  pub sum : List ℕ
  pub is : t.initramfs ≡ Some putting
  pub has : t.files.initramfs ≡ Some sum
  pub put : IsPut putting (stage_of t) (initramfs_path t.os t.files) sum

-- how far it is
abbrev pub IsWithin : KernelPhase → KernelCopying → Type 0
IsWithin Folder t = (t.kernel ≡ put_begun (stage_of t) (vmlinuz_path t.os t.files) t.files.kernel) × (t.initramfs ≡ second_begun (stage_of t) t.os t.files)
IsWithin Kernel t = t.initramfs ≡ second_begun (stage_of t) t.os t.files
IsWithin Initramfs t = HasSecond t
IsWithin Ended t = Unit {0}

-- what each such task keeps
pub record IsMade (t : KernelCopying) : Type 0 where
  pub home : t.folder ≡ home_of t
  pub placed : IsPlaced (stage_of t) t.os t.files
  pub first : IsPut t.kernel (stage_of t) (vmlinuz_path t.os t.files) t.files.kernel
  pub within : IsWithin t.phase t

-- what comes behind the kernel's copy
abbrev pub then_phase : Option Putting → KernelPhase
then_phase None = Ended
then_phase (Some c) = Initramfs

abbrev pub then_turn : Option Putting → StepResult (Unit {0})
then_turn None = Done tt
then_turn (Some c) = More

-- Which step it was, and what changed in the task: the kernel's copy goes on, or it is there;
pub record FirstGoes (old : KernelCopying) (turn : StepResult (Unit {0})) (new : KernelCopying) : Type 0 where
  pub copy : Putting
  pub step : put.IsStepped old.kernel (Ok More) copy
  pub turns : turn ≡ More
  pub is : new ≡ record old { kernel = copy }

pub record FirstEnds (old : KernelCopying) (turn : StepResult (Unit {0})) (new : KernelCopying) : Type 0 where
  pub copy : Putting
  pub step : put.IsStepped old.kernel (Ok (Done tt)) copy
  pub turns : turn ≡ then_turn old.initramfs
  pub is : new ≡ record old { kernel = copy; phase = then_phase old.initramfs }

-- so the second one.
abbrev pub second_turn : StepResult (Unit {0}) → KernelPhase
second_turn More = Initramfs
second_turn (Done x) = Ended

pub record SecondGoes (old : KernelCopying) (turn : StepResult (Unit {0})) (new : KernelCopying) : Type 0 where
  pub before : Putting
  pub copy : Putting
  pub was : old.initramfs ≡ Some before
  pub step : put.IsStepped before (Ok turn) copy
  pub is : new ≡ record old { initramfs = Some copy; phase = second_turn turn }

abbrev pub steps_in : KernelPhase → KernelCopying → StepResult (Unit {0}) → KernelCopying → Type 0
steps_in Folder old turn new = (turn ≡ More) × (new ≡ record old { phase = Kernel })
steps_in Kernel old turn new = FirstGoes old turn new ⊎ FirstEnds old turn new
steps_in Initramfs old turn new = SecondGoes old turn new
steps_in Ended old turn new = (turn ≡ Done tt) × (new ≡ old)

-- One that wasn't done leaves the task as it was.
abbrev pub IsStepped : KernelCopying → Result (StepResult (Unit {0})) FsErr → KernelCopying → Type 0
IsStepped old (Ok turn) new = steps_in old.phase old turn new
IsStepped old (Err e) new = new ≡ old

-- once it is done
abbrev pub OnDone : Result (StepResult (Unit {0})) FsErr → Type 0 → Type 0
OnDone (Ok (Done x)) P = P
OnDone r P = Unit {0}

-- no more steps than this are left
abbrev pub left_second : Option Putting → ℕ
left_second None = 0
left_second (Some c) = put.left c

abbrev pub left_in : KernelPhase → KernelCopying → ℕ
left_in Folder t = put.left t.kernel + left_second t.initramfs + 2
left_in Kernel t = put.left t.kernel + left_second t.initramfs + 1
left_in Initramfs t = left_second t.initramfs
left_in Ended t = 0

abbrev pub left : KernelCopying → ℕ
left t = left_in t.phase t

-- how a step moves the clock: the folder may be there already
abbrev pub takes_second : Option Putting → ℕ → ℕ → Type 0
takes_second None before now = now ≡ before
takes_second (Some c) before now = put.Takes c before now

abbrev pub takes_in : KernelPhase → KernelCopying → ℕ → ℕ → Type 0
takes_in Folder t before now = Next before now ⊎ (now ≡ before)
takes_in Kernel t before now = put.Takes t.kernel before now
takes_in Initramfs t before now = takes_second t.initramfs before now
takes_in Ended t before now = now ≡ before

abbrev pub Takes : KernelCopying → ℕ → ℕ → Type 0
Takes t = takes_in t.phase t

-- What each step of putting a kernel's copies needs, writes and tells.
use Rattle.std.specs.Prelude.{◌≡◌, ℕ, List, Option, Some, None, Result, OnOk, IfErr, IfSome, IsErrOf}
use Rattle.ost_types.specs.Path.{Path}
use Rattle.fs_trait.specs.declared.types.FsErr.{FsErr}
use Rattle.fs_trait.specs.declared.types.FsErr.TheVariants.{Failed, NoMemory}
use Rattle.fs_trait.specs.declared.task.StepResult.{StepResult}
use Rattle.fs_trait.specs.View.{Disk, View}
use Rattle.fs_trait.specs.Image.{Told, reads}
use Rattle.fs_trait.specs.Seen.{Seen, Vacant, Directory, shows, NotDirectory}
use Rattle.fs_trait.specs.Change.{Writes}
use Rattle.file_copy.specs.Putting.{Differs, Putting}
use Rattle.file_copy.specs.PutSteps as put
use Rattle.folder_build.specs.Node.{folder_meta}
use Rattle.folder_build.specs.Steps.{HasHome}
use Rattle.kernel_copy.specs.declared.phase.KernelPhase.{KernelPhase}
use Rattle.kernel_copy.specs.declared.phase.KernelPhase.TheVariants.{Folder, Kernel, Initramfs, Ended}
use Rattle.kernel_copy.specs.Copies.{AreCopied, IsCopy, file_path, vmlinuz_path}
use Rattle.kernel_copy.specs.Work.{IsMade, KernelCopying, OnDone, home_of, stage_of}

-- what the next step may write: the folder, where nothing stood, or what putting a copy writes
abbrev pub writes_second : Option Putting → View → Path → Seen → Type 0
writes_second None v p s = ⊥
writes_second (Some c) v p s = put.WritesOf c v p s

abbrev pub writes_in : KernelPhase → KernelCopying → View → Path → Seen → Type 0
writes_in Folder t v p s = (p ≡ home_of t) × (shows v.now p ≡ Vacant) × (s ≡ Directory folder_meta)
writes_in Kernel t v p s = put.WritesOf t.kernel v p s
writes_in Initramfs t v p s = writes_second t.initramfs v p s
writes_in Ended t v p s = ⊥

abbrev pub WritesOf : KernelCopying → View → Path → Seen → Type 0
WritesOf t v = writes_in t.phase t v

-- a folder, or nothing
abbrev pub NotLeaf : Seen → Type 0
NotLeaf Vacant = Unit {0}
NotLeaf (Directory m) = Unit {0}
NotLeaf s = ⊥

-- the object is there: a regular file
abbrev pub HasObject : Disk → List ℕ → Type 0
HasObject d sum = (b : List ℕ) × (reads d (file_path sum) ≡ Some b)

-- What the next step needs, by how far it is,
abbrev pub needs_second : Option Putting → View → Type 0
needs_second None v = ⊥
needs_second (Some c) v = put.Needs c v

abbrev pub needs_in : KernelPhase → KernelCopying → View → Type 0
needs_in Folder t v = NotLeaf (shows v.now (home_of t)) × HasObject v.now t.files.kernel × IfSome t.files.initramfs (HasObject v.now)
needs_in Kernel t v = put.Needs t.kernel v × IfSome t.files.initramfs (HasObject v.now)
needs_in Initramfs t v = IsCopy v.now (vmlinuz_path t.os t.files) t.files.kernel × needs_second t.initramfs v
needs_in Ended t v = AreCopied v.now t.os t.files

-- and always: that folders are above the folder of the copies and above the staging path, at which no folder stands.
pub record Needs (t : KernelCopying) (v : View) : Type 0 where
  pub made : IsMade t
  pub above : HasHome (home_of t) v.now
  pub stage : NotDirectory (shows v.now (stage_of t))
  pub stages : HasHome (stage_of t) v.now
  pub meets : needs_in t.phase t v

-- Why a step isn't done: the call failed or wanted for memory, or a folder stands where a copy is to go.
abbrev pub refuses_second : Option Putting → View → FsErr → Type 0
refuses_second None v e = ⊥
refuses_second (Some c) v e = put.Refuses c v e

abbrev pub refuses_in : KernelPhase → KernelCopying → View → FsErr → Type 0
refuses_in ph t v Failed = Unit {0}
refuses_in ph t v NoMemory = Unit {0}
refuses_in Kernel t v e = put.Refuses t.kernel v e
refuses_in Initramfs t v e = refuses_second t.initramfs v e
refuses_in ph t v e = ⊥

abbrev pub Refuses : KernelCopying → View → FsErr → Type 0
Refuses t = refuses_in t.phase t

-- what is copied goes over other bytes
abbrev pub differs_second : Option Putting → Option Putting → Disk → Type 0
differs_second (Some c) (Some new) d = Differs c new d
differs_second c new d = Unit {0}

abbrev pub differs_in : KernelPhase → KernelCopying → KernelCopying → Disk → Type 0
differs_in Kernel old new d = Differs old.kernel new.kernel d
differs_in Initramfs old new d = differs_second old.initramfs new.initramfs d
differs_in ph old new d = Unit {0}

-- What a step says of a view that is told: what it wrote, what the next one has, that the copies are there once the task is done, that
-- none is written where there is one, why it wasn't done, and that one which wanted for memory changed nothing.
pub record IsToldStep (old new : KernelCopying) (v : View) (r : Result (StepResult (Unit {0})) FsErr) (view : Option View) : Type 0 where
  pub writes : Told view (λ w. Writes (WritesOf old v) v w)
  pub after : OnOk r (Told view (λ w. Needs new w))
  pub copied : OnDone r (Told view (λ w. AreCopied w.now old.os old.files))
  pub spares : OnOk r (differs_in old.phase old new v.now)
  pub fails : IfErr r (Refuses old v)
  pub unchanged : IsErrOf r NoMemory → view ≡ Some v

-- What the steps that make the tree need, write, tell and do.
use Rattle.std.specs.Prelude.{◌≡◌, ◌≢◌, ◌<◌, ◌+◌, ◌++◌, ◌∷◌, ℕ, Option, Some, None, Ok, Err}
use Rattle.ost_types.specs.Path.{Name, Path}
use Rattle.ost_types.specs.declared.meta.Meta.{Meta}
use Rattle.fs_trait.specs.declared.task.StepResult.{StepResult}
use Rattle.fs_trait.specs.declared.task.StepResult.TheVariants as turn
use Rattle.fs_trait.specs.Change.{Writes}
use Rattle.fs_trait.specs.Seen.{Seen, Vacant, Directory, shows}
use Rattle.fs_trait.specs.View.{Disk, View}
use Rattle.repo_layout.specs.BootPaths.{checkout_path}
use Rattle.rely_guarantee.specs.Laws.{Kind, Quiet, Claim}
use Rattle.checkout.specs.declared.checkout_phase.CheckoutPhase.{CheckoutPhase}
use Rattle.checkout.specs.declared.checkout_phase.CheckoutPhase.TheVariants as phase
use Rattle.checkout.specs.CheckoutWork.{Answer, Checkout, beginning, left, steps_in}
use Rattle.checkout.specs.CheckoutSteps.{Needs, Tells, WritesOf}
use Rattle.checkout_command.specs.declared.answer.CheckoutAnswer.{CheckoutAnswer}
use Rattle.checkout_command.specs.declared.answer.CheckoutAnswer.TheVariants as answer
use Rattle.checkout_command.specs.declared.made.Made.{Made}
use Rattle.checkout_command.specs.declared.made.Made.TheVariants as made
use Rattle.checkout_command.specs.declared.make.Make.{Make}
use Rattle.checkout_command.specs.Fits.{Fits}

-- who makes the folder claims it
abbrev pub make_kind : Made → Name → Kind
make_kind made.Nothing name = Claim name
make_kind m name = Quiet

-- at most so many steps go on
abbrev pub make_left : Made → Checkout → ℕ
make_left made.All t = 0
make_left m t = left t + 1

-- something is left to be made
abbrev pub IsGoing : Made → Type 0
IsGoing made.All = ⊥
IsGoing m = Unit {0}

-- a pair of the map comes next
abbrev pub IsMaking : CheckoutPhase → Type 0
IsMaking (phase.Make n) = Unit {0}
IsMaking ph = ⊥

-- how far the task is
abbrev pub IsFar : Made → Checkout → Disk → Type 0
IsFar made.Nothing t d = t ≡ beginning t.into t.tree
IsFar made.Part t d = IsMaking t.phase × (shows d t.into ≢ Vacant)
IsFar made.All t d = (t.phase ≡ phase.Ended) × (shows d t.into ≢ Vacant)

-- What such a step needs of what reads see.
pub record MakeNeeds (m : Make) (d : Disk) : Type 0 where
  pub at : m.task.into ≡ checkout_path m.request.name
  pub far : IsFar m.made m.task d
  pub needs : Needs m.task d

-- The folder itself, where nothing stood.
pub record MakesFolder (name : Name) (v : View) (p : Path) (s : Seen) : Type 0 where
  pub is : p ≡ checkout_path name
  pub vacant : shows v.now p ≡ Vacant
  pub meta : Meta
  pub shown : s ≡ Directory meta

-- A node below it, where nothing stood.
pub record MakesBelow (m : Make) (v : View) (p : Path) (s : Seen) : Type 0 where
  pub first : Name
  pub rest : Path
  pub is : p ≡ checkout_path m.request.name ++ first ∷ rest
  pub vacant : shows v.now p ≡ Vacant
  pub writes : WritesOf m.task v p s

-- what it may write
abbrev pub writes_by : Made → Make → View → Path → Seen → Type 0
writes_by made.Nothing m v p s = MakesFolder m.request.name v p s
writes_by made.Part m v p s = MakesBelow m v p s
writes_by made.All m v p s = ⊥

abbrev pub make_writes : Make → View → Path → Seen → Type 0
make_writes m v = writes_by m.made m v

-- how much is made behind a step
abbrev pub IsMadeBy : StepResult Answer → Made → Type 0
IsMadeBy turn.More m = m ≡ made.Part
IsMadeBy (turn.Done (Ok x)) m = m ≡ made.All
IsMadeBy (turn.Done (Err e)) m = ⊥

-- The next node is made.
pub record Makes (old new : Make) (v w : View) : Type 0 where
  pub going : IsGoing old.made
  pub request : new.request ≡ old.request
  pub turn : StepResult Answer
  pub steps : steps_in old.task.phase old.task turn new.task
  pub made : IsMadeBy turn new.made
  pub tells : Tells old.task v w turn
  pub after : Needs new.task w.now
  pub writes : Writes (make_writes old v) v w

-- all is made; or the first step found something in the folder's place
abbrev pub MakeSays : Make → Disk → CheckoutAnswer → Type 0
MakeSays m d answer.Done = m.made ≡ made.All
MakeSays m d (answer.DestExists p) = (m.made ≡ made.Nothing) × (p ≡ checkout_path m.request.name) × (shows d p ≢ Vacant)
MakeSays m d a = ⊥

abbrev pub MakeTells : Make → Make → View → View → Option CheckoutAnswer → Type 0
MakeTells old new v w None = Makes old new v w
MakeTells old new v w (Some a) = (w ≡ v) × MakeSays old v.now a

-- told or not
abbrev pub IsMakeStepped : Make → Make → Option CheckoutAnswer → Type 0
IsMakeStepped old new None = (new.request ≡ old.request) × (make_left new.made new.task < make_left old.made old.task)
IsMakeStepped old new (Some a) = Fits old.request.commit old.request.name a

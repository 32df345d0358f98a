-- The commands that read a commit, as tasks.
use Rattle.std.specs.Prelude.{◌≡◌, ◌<◌, ℕ, [], length, Option, Some, None}
use Rattle.std.specs.List.{AllByRecursion}
use Rattle.ost_types.specs.Path.{Path}
use Rattle.fs_trait.specs.declared.task.StepResult.{StepResult}
use Rattle.fs_trait.specs.declared.task.StepResult.TheVariants as turn
use Rattle.fs_trait.specs.declared.types.FsErr.{FsErr}
use Rattle.fs_trait.specs.Effect.{OfNone}
use Rattle.fs_trait.specs.Image.{IsTree}
use Rattle.fs_trait.specs.View.{Disk, View}
use Rattle.fs_trait.specs.Seen.{Seen}
use Rattle.fs_trait.specs.Change.{Nothing}
use Rattle.repo_layout.specs.RefFile.{IsSum}
use Rattle.repo_model.specs.Objects.{Store, Stores}
use Rattle.tree_read.specs.Reading.{left_of}
use Rattle.rely_guarantee.specs.Books.{Books}
use Rattle.rely_guarantee.specs.Laws.{Kind, Quiet, Take}
use Rattle.ref_command.specs.declared.look_up.Found.TheVariants.{Whole}
use Rattle.ref_command.specs.Commands.{pin_wants}
use Rattle.ref_command.specs.Found.{IsFound}
use Rattle.script.specs.declared.rows.LogRow.{LogRow}
use Rattle.ref_command.specs.Pins.{IsPinned}
use Rattle.read_command.specs.declared.answer.ReadAnswer.{ReadAnswer}
use Rattle.read_command.specs.declared.command.ReadCommand.{ReadCommand}
use Rattle.read_command.specs.declared.command.ReadCommand.TheVariants.{Look, Cat, Ls, Log, Ended}
use Rattle.read_command.specs.Answers.{SaysCat, SaysLog, SaysLs, SaysStopped}
use Rattle.read_command.specs.Asked.{Asked, asked}
use Rattle.read_command.specs.Fits.{IsFitting}
use Rattle.read_command.specs.Founded.{IsFounded}
use Rattle.read_command.specs.CatSteps.{CatKnows, cat_left}
use Rattle.read_command.specs.LsSteps.{LsKnows}
use Rattle.read_command.specs.LogSteps.{EndsAtOnce, IsLonger, LogKnows, log_kind, log_left}
use Rattle.read_command.specs.LookSteps.{look_left}

-- the look pins the commit; `log` pins each other one when it reads it
abbrev pub read_kind : ReadCommand → Kind
read_kind (Look l) = Take (pin_wants l.commit)
read_kind (Cat c) = Quiet
read_kind (Ls s) = Quiet
read_kind (Log g) = log_kind g.rows.items g.next
read_kind (Ended a) = Quiet

-- it reads the commit
abbrev pub IsReading : ReadCommand → Type 0
IsReading (Look l) = ⊥
IsReading (Ended a) = ⊥
IsReading t = Unit {0}

-- what it knows of a disk; after its end nothing is asked of it
abbrev pub Knows : Store → ReadCommand → Type 0
Knows S (Look l) = Unit {0}
Knows S (Cat c) = CatKnows S c
Knows S (Ls s) = LsKnows S s
Knows S (Log g) = LogKnows S g
Knows S (Ended a) = ⊥

abbrev pub read_needs : ℕ → ReadCommand → View → Type 0
read_needs actor t v = Knows (Stores v.now) t

-- nothing is ever written
abbrev pub read_writes : ℕ → ReadCommand → View → Path → Seen → Type 0
read_writes actor t v = Nothing

-- at most so many steps go on
abbrev pub read_left : ReadCommand → ℕ
read_left (Look l) = look_left l
read_left (Cat c) = cat_left c.place (length c.path)
read_left (Ls s) = left_of s.task
read_left (Log g) = log_left g.rows.items
read_left (Ended a) = 0

-- it goes on as what it was asked, with fewer steps; or it has an answer of its own
abbrev pub read_stepped : ReadCommand → StepResult (Unit {0}) → ReadCommand → Type 0
read_stepped t turn.More new = (asked new ≡ asked t) × (read_left new < read_left t)
read_stepped t (turn.Done x) new = (a : ReadAnswer) × (new ≡ Ended a) × IsFitting (asked t) a

-- a look goes on where it finds the commit whole, on a disk that is a tree; else it tells why not
abbrev pub Goes : ReadCommand → Disk → Type 0
Goes (Look l) d = IsFound d l.commit Whole × IsTree d
Goes t d = Unit {0}

abbrev pub Tells : ReadCommand → Disk → ReadAnswer → Type 0
Tells (Look l) d a = SaysStopped d l.commit a
Tells (Cat c) d a = SaysCat d c.limits.content c.commit c.path a
Tells (Ls s) d a = SaysLs d s.task.limits s.task.commit s.path a
Tells (Log g) d a = SaysLog d g.limits.content g.commit a × EndsAtOnce d g.commit g.rows.items a
Tells (Ended x) d a = ⊥

-- a log has one row more at each step, and none at its beginning
abbrev pub IsOnward : ReadCommand → ReadCommand → Type 0
IsOnward (Look l) (Log g) = g.rows.items ≡ []
IsOnward (Log g) (Log n) = IsLonger g n
IsOnward t (Log g) = ⊥
IsOnward t new = Unit {0}

abbrev pub read_leaves : ReadCommand → StepResult (Unit {0}) → ReadCommand → View → View → Type 0
read_leaves t turn.More new v w = (w ≡ v) × (asked new ≡ asked t) × Knows (Stores w.now) new × IsReading new × Goes t v.now × IsOnward t new
read_leaves t (turn.Done x) new v w = (w ≡ v) × (a : ReadAnswer) × (new ≡ Ended a) × Tells t v.now a

abbrev pub read_refuses : ReadCommand → View → FsErr → Type 0
read_refuses t v e = OfNone e

-- behind the look the commit is pinned, and each one that a log has read
abbrev pub IsPinnedOf : Option Asked → ℕ → Books → Type 0
IsPinnedOf None lane b = Unit {0}
IsPinnedOf (Some q) lane b = IsPinned lane b q.commit

abbrev pub ArePinned : ReadCommand → ℕ → Books → Type 0
ArePinned (Look l) lane b = Unit {0}
ArePinned (Log g) lane b = IsPinned lane b g.commit × AllByRecursion (λ (r : LogRow). IsPinned lane b r.commit) g.rows.items
ArePinned t lane b = IsPinnedOf (asked t) lane b

abbrev pub read_facts : ℕ → ReadCommand → View → Books → Type 0
read_facts lane t v b = Knows (Stores v.now) t × IsFounded t v × ArePinned t lane b

-- what it answers, once it is done
abbrev pub answer_of : ReadCommand → Option ReadAnswer
answer_of (Ended a) = Some a
answer_of t = None

abbrev pub IsNew : ReadCommand → Type 0
IsNew (Look l) = IsSum l.commit
IsNew t = ⊥

abbrev pub turn_of : ReadCommand → StepResult (Unit {0})
turn_of (Ended a) = turn.Done tt
turn_of t = turn.More

-- it ends with the answer, if there is one
abbrev pub ends : Option ReadAnswer → ReadCommand → StepResult (Unit {0}) → ReadCommand → Type 0
ends None old u new = (u ≡ turn.More) × (new ≡ old)
ends (Some a) old u new = (u ≡ turn.Done tt) × (new ≡ Ended a)

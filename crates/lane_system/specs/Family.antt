-- What a system is said by: the ghost members of its file system, and those of its family of commands, each as one value.
use Rattle.std.specs.Prelude.{ℕ, List, Option}
use Rattle.ost_types.specs.Path.{Path}
use Rattle.fs_trait.specs.declared.task.StepResult.{StepResult}
use Rattle.fs_trait.specs.declared.task.StepResult.TheVariants as turn
use Rattle.fs_trait.specs.View.{View}
use Rattle.boot_model.specs.declared.item.DepId.{DepId}
use Rattle.rely_guarantee.specs.declared.books.Pin.{Pin}
use Rattle.ref_book.specs.declared.book.RefBook.{RefBook}
use Rattle.command.specs.Doing.{Doing}
use Rattle.command.specs.Meaning.{Meaning}
use Rattle.command.specs.Tasks.{TaskSpec, task_spec}

pub record FsSpec (F : Type 0) : Type 1 where
  pub view : F → Option View
  pub clock : F → ℕ
  pub spare : F → ℕ
  pub was : F → ℕ → View → Type 0
  pub faults : F → ℕ
  pub refused : F → Option Path

abbrev pub fs_spec : {F : Type 0} → (F → Option View) → (F → ℕ) → (F → ℕ) → (F → ℕ → View → Type 0) → (F → ℕ) → (F → Option Path) → FsSpec F
fs_spec view clock spare was faults refused = record { view = view; clock = clock; spare = spare; was = was; faults = faults; refused = refused }

-- A step that goes on, with what the task is told behind it: what refs name then, and what is pinned.
abbrev pub learns_in : {T W A : Type 0} → Doing T W A → T → T → Type 0
learns_in d t new = (refs : RefBook) × (ids : List DepId) × (pins : List Pin) × d.learns refs ids pins t new

abbrev pub stepped_on : {T W A : Type 0} → TaskSpec T → Doing T W A → T → StepResult (Unit {0}) → T → Type 0
stepped_on {T} k d t turn.More new = (mid : T) × k.stepped t turn.More mid × learns_in d mid new
stepped_on k d t (turn.Done x) new = k.stepped t (turn.Done x) new

abbrev pub leaves_on : {T W A : Type 0} → TaskSpec T → Doing T W A → T → StepResult (Unit {0}) → T → View → View → Type 0
leaves_on {T} k d t turn.More new v w = (mid : T) × k.leaves t turn.More mid v w × learns_in d mid new × k.stepped t turn.More mid
leaves_on k d t (turn.Done x) new v w = k.leaves t (turn.Done x) new v w

abbrev pub learning : {T W A : Type 0} → TaskSpec T → Doing T W A → TaskSpec T
learning k d = task_spec k.kind k.writes (stepped_on k d) (leaves_on k d) k.refuses k.facts

-- T are the tasks, W the words, A the answers.
pub record Family (T W A : Type 0) : Type 1 where
  pub tasks : TaskSpec T
  pub means : Meaning W A
  pub doing : Doing T W A

abbrev pub family : {T W A : Type 0} → TaskSpec T → Meaning W A → Doing T W A → Family T W A
family tasks means doing = record { tasks = learning tasks doing; means = means; doing = doing }

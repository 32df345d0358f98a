-- What a kind of task says of itself, as one value.
use Rattle.std.specs.Prelude.{ℕ}
use Rattle.ost_types.specs.Path.{Path}
use Rattle.fs_trait.specs.declared.task.StepResult.{StepResult}
use Rattle.fs_trait.specs.declared.types.FsErr.{FsErr}
use Rattle.fs_trait.specs.View.{View}
use Rattle.fs_trait.specs.Seen.{Seen}
use Rattle.rely_guarantee.specs.Books.{Books}
use Rattle.rely_guarantee.specs.Laws.{Kind}

pub record TaskSpec (T : Type 0) : Type 1 where
  pub kind : T → Kind
  pub writes : ℕ → T → View → Path → Seen → Type 0
  pub stepped : T → StepResult (Unit {0}) → T → Type 0
  pub leaves : T → StepResult (Unit {0}) → T → View → View → Type 0
  pub refuses : T → View → FsErr → Type 0
  pub facts : ℕ → T → View → Books → Type 0

abbrev pub task_spec : {T : Type 0} → (T → Kind) → (ℕ → T → View → Path → Seen → Type 0) → (T → StepResult (Unit {0}) → T → Type 0) → (T → StepResult (Unit {0}) → T → View → View → Type 0) → (T → View → FsErr → Type 0) → (ℕ → T → View → Books → Type 0) → TaskSpec T
task_spec kind writes stepped leaves refuses facts = record { kind = kind; writes = writes; stepped = stepped; leaves = leaves; refuses = refuses; facts = facts }

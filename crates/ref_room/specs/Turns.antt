-- Steps that aren't a task's last.
use Rattle.std.specs.Prelude.{Result, Ok, Err}
use Rattle.fs_trait.specs.declared.types.FsErr.{FsErr}
use Rattle.fs_trait.specs.declared.task.StepResult.{StepResult}
use Rattle.fs_trait.specs.declared.task.StepResult.TheVariants.{More, Done}

-- where there is more to do
abbrev pub OnMore : {T : Type 0} → Result (StepResult T) FsErr → Type 0 → Type 0
OnMore (Ok More) P = P
OnMore (Ok (Done x)) P = Unit {0}
OnMore (Err e) P = Unit {0}

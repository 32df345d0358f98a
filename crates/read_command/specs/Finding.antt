-- What was found of a commit, by what `rev-parse` answers.
use Rattle.std.specs.Prelude.{Option, Some}
use Rattle.ref_command.specs.declared.answer.RefAnswer.{RefAnswer}
use Rattle.ref_command.specs.declared.answer.RefAnswer.TheVariants as answer
use Rattle.ref_command.specs.declared.look_up.Found.{Found}
use Rattle.ref_command.specs.declared.look_up.Found.TheVariants.{Missing, Partial, Whole}

abbrev pub found_in : Option RefAnswer → Found
found_in (Some (answer.NoCommit commit)) = Missing
found_in (Some (answer.Partial commit)) = Partial
found_in a = Whole

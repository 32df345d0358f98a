use Rattle.prune_mark.proofs.Lasting.{known_last, marks_last, names_last}
use Rattle.prune_mark.proofs.laws.markings_last.Goals as goal

pub returns-clause-names : goal.returns-clause-names
returns-clause-names c = λ d e names same are. names_last d e same names are

pub returns-clause-known : goal.returns-clause-known
returns-clause-known c = λ d e roots m same known. known_last d e same roots m known

pub returns-clause-marked : goal.returns-clause-marked
returns-clause-marked c = λ d e roots m same all. marks_last d e same roots m all

use Rattle.clean_command.proofs.Ends.{begins_of, learn_facts, learn_kind}
use Rattle.clean_command.proofs.laws.lanes_that_clean.Goals as goal

pub returns-clause-begins : goal.returns-clause-begins
returns-clause-begins c = λ lane t v b new mine. begins_of lane t v b new mine

pub returns-clause-learns : goal.returns-clause-learns
returns-clause-learns c = λ refs ids pins lane t new v b listed bounded f learns. learn_facts ids t new learns lane v b listed bounded f

pub returns-clause-kind : goal.returns-clause-kind
returns-clause-kind c = λ refs ids pins t new learns. learn_kind ids t new learns

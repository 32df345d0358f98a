use Rattle.layout_rules.proofs.RulePlaces.{no_ref, no_stage}
use Rattle.layout_rules.proofs.laws.rules_of_places.Goals as goal

pub returns-clause-refs : goal.returns-clause-refs
returns-clause-refs c = no_ref

pub returns-clause-stages : goal.returns-clause-stages
returns-clause-stages c = no_stage

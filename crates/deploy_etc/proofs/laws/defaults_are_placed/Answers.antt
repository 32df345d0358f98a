use Rattle.std.proofs.Common.{sym, ◌∙◌}
use Rattle.deploy_etc.proofs.DefaultLemmas.{defaults_placed, defaults_tree, has_folder, no_defaults, one_map}
use Rattle.deploy_etc.proofs.laws.defaults_are_placed.Goals as goal

pub returns-clause-found : goal.returns-clause-found
returns-clause-found c = λ tree kver ascending finds. has_folder tree ascending finds.1

pub returns-clause-tree : goal.returns-clause-tree
returns-clause-tree c = defaults_tree

pub returns-clause-placed : goal.returns-clause-placed
returns-clause-placed c = defaults_placed

pub returns-clause-none : goal.returns-clause-none
returns-clause-none c = no_defaults

pub returns-clause-once : goal.returns-clause-once
returns-clause-once c = λ tree one other h g are are'. one_map one other h g (λ p. are p ∙ sym (are' p))

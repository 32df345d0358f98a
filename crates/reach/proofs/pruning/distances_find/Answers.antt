use Rattle.std.specs.Prelude.{Contains}
use Rattle.repo_model.specs.Objects.{Stores}
use Rattle.reach.specs.Marking.{Listed}
use Rattle.reach.proofs.Marked.{line_found, nears_begin, nears_step}
use Rattle.reach.proofs.pruning.distances_find.Goals as goal

pub returns-clause-begins : goal.returns-clause-begins
returns-clause-begins c = λ d roots depth found waiting. nears_begin (Stores d) (Contains roots) depth (Listed found) (Listed waiting)

pub returns-clause-step : goal.returns-clause-step
returns-clause-step c = λ d roots depth k commit found waiting found' waiting'. nears_step (Stores d) (Contains roots) depth k commit (Listed found) (Listed waiting) (Listed found') (Listed waiting')

pub returns-clause-ends : goal.returns-clause-ends
returns-clause-ends c = λ d roots depth found waiting. line_found (Stores d) (Contains roots) depth (Listed found) (Listed waiting)

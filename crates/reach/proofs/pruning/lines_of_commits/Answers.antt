use Rattle.std.specs.Prelude.{Contains}
use Rattle.repo_model.specs.Objects.{Stores}
use Rattle.reach.proofs.Lining.{line_depth, line_reachable, reachable_line, reachable_roots, reachable_up, reachable_zero}
use Rattle.reach.proofs.pruning.lines_of_commits.Goals as goal

pub returns-clause-near : goal.returns-clause-near
returns-clause-near c = λ d roots. line_depth (Stores d) (Contains roots)

pub returns-clause-commits : goal.returns-clause-commits
returns-clause-commits c = λ d roots depth commit. (reachable_line (Stores d) (Contains roots) depth commit, λ l. line_reachable (Stores d) (Contains roots) depth l.0 commit l.1)

pub returns-clause-zero : goal.returns-clause-zero
returns-clause-zero c = λ d roots o. (reachable_zero (Stores d) (Contains roots) o, reachable_roots (Stores d) (Contains roots) 0 o)

pub returns-clause-more : goal.returns-clause-more
returns-clause-more c = λ d e roots more. reachable_up (Stores d) (Stores e) (Contains roots) (Contains more)

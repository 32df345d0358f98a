use Rattle.std.specs.Prelude.{Contains}
use Rattle.repo_model.specs.Objects.{Stores}
use Rattle.reach.proofs.Exact.{exact, left_reachable, none_removed, reachable_left, same_down, same_up}
use Rattle.reach.proofs.pruning.pruned_is_exact.Goals as goal

pub returns-clause-same : goal.returns-clause-same
returns-clause-same c = λ before now roots removed depth p o. (
  same_up (Stores before) (Stores now) (Contains roots) depth (Contains removed) p o,
  same_down (Stores before) (Stores now) (Contains roots) depth (Contains removed) p o,
)

pub returns-clause-left : goal.returns-clause-left
returns-clause-left c = λ before now roots removed depth p o b. (
  λ has. (p.split.stays o b has, left_reachable (Stores before) (Stores now) (Contains roots) depth (Contains removed) p o (b, has)),
  λ was. reachable_left (Stores before) (Stores now) (Contains roots) depth (Contains removed) p o b was.0 was.1,
)

pub returns-clause-exact : goal.returns-clause-exact
returns-clause-exact c = λ before now roots removed depth. exact (Stores before) (Stores now) (Contains roots) depth (Contains removed)

pub returns-clause-none : goal.returns-clause-none
returns-clause-none c = λ before now roots removed depth. none_removed (Stores before) (Stores now) (Contains roots) depth (Contains removed)

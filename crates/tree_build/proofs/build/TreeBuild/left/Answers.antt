use Rattle.std.proofs.Common.{arith}
use Rattle.tree_build.proofs.Dones.{done_within}
use Rattle.tree_build.proofs.build.TreeBuild.left.Goals as goal

pub overflow_sub-result : goal.overflow_sub-result
overflow_sub-result c =
    let d = done_within c.self.inside.items.items c.self.inside.progress c.self.invariant.progress in
    omega (arith, d, c.self.invariant.counted)

pub returns-clause-within : goal.returns-clause-within
returns-clause-within c = rw (← c.self.view_is) (done_within c.self.inside.items.items c.self.inside.progress c.self.invariant.progress)

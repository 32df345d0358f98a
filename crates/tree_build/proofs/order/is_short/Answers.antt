use Rattle.std.proofs.Common.{◌≤◌, subst, length}
use Rattle.tree_build.proofs.Orderly.{short_by}
use Rattle.tree_build.proofs.order.is_short.Goals as goal

pub returns-then-names-le64 : goal.returns-then-names-le64
returns-then-names-le64 c = short_by c.args.path.now c.after_path.result c.is_some.result c.is_some.ensures c.after_path.ensures (subst (λ p. length p ≤ 64) c.names.ensures.value c.if-names-le64.true)

use Rattle.std.proofs.Common.{refl, subst, arith}
use Rattle.std.specs.Prelude.{Contains}
use Rattle.prune_mark.specs.Flags.{Begins}
use Rattle.prune_mark.proofs.Beginning.{begins_known}
use Rattle.prune_mark.proofs.marking.Marking.new.Goals as goal

pub returns-clause-fresh : goal.returns-clause-fresh
returns-clause-fresh c =
    let b = subst (λ n. Begins n (Contains c.args.roots.now) c.in_ok-begun.begun.flags.items c.in_ok-begun.begun.found.items c.in_ok-begun.begun.pending.items) c.as_slice.ensures.value c.in_ok-begun.ensures in
    record { names_are = refl; depth_is = refl; few = omega (arith, b.few) }

pub returns-clause-begun : goal.returns-clause-begun
returns-clause-begun c = λ d are.
    let b = subst (λ n. Begins n (Contains c.args.roots.now) c.in_ok-begun.begun.flags.items c.in_ok-begun.begun.found.items c.in_ok-begun.begun.pending.items) c.as_slice.ensures.value c.in_ok-begun.ensures in
    begins_known d c.args.names.items c.args.roots.now c.args.depth c.in_ok-begun.begun.flags.items c.in_ok-begun.begun.found.items c.in_ok-begun.begun.pending.items b are

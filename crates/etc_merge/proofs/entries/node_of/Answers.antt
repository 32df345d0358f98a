use Rattle.std.proofs.Common.{Some, None, sym, ◌∙◌, ap, subst}
use Rattle.ost_types.specs.PathMap.{IsAscending, node_at, paths_of}
use Rattle.ost_types.proofs.Paths.{same_path-Decides}
use Rattle.etc_merge.specs.Entries.{StartsFrom}
use Rattle.etc_merge.proofs.Finds.{node_first, same_by, apart_by, starts_apart}
use Rattle.etc_merge.proofs.entries.node_of.Goals as goal

pub returns-then-eq : goal.returns-then-eq
returns-then-eq c =
    let is = c.in_ok-first.ensures.cases.0 in
    sym (ap (λ m. node_at m c.args.path.now) is ∙ node_first c.in_ok-first.first.now c.in_ok-first.field-0-1.now c.args.path.now (same_by c.in_ok-first.first.now.0 c.args.path.now _ c.eq.ensures c.if-eq.true))

pub returns-else-eq : goal.returns-else-eq
returns-else-eq c =
    let is = c.in_ok-first.ensures.cases.0 in
    sym (ap (λ m. node_at m c.args.path.now) is ∙ starts_apart c.in_ok-first.first.now c.in_ok-first.field-0-1.now c.args.path.now
    (subst (λ m. IsAscending (paths_of m)) is c.requires.ascending) (subst (StartsFrom c.args.path.now) is c.requires.starts) (apart_by c.in_ok-first.first.now.0 c.args.path.now _ c.eq.ensures c.if-eq.false))

use Rattle.std.proofs.Common.{Some, sym, ◌∙◌, ap}
use Rattle.etc_merge.proofs.Finds.{apart_by, same_by}
use Rattle.merge_runner.proofs.Trees.{passed_here, passed_more}
use Rattle.merge_runner.proofs.tree.has_folder.Goals as goal

pub returns-then-eq : goal.returns-then-eq
returns-then-eq c = λ told.
    let folder = c.is_folder.ensures told in
    let same = sym c.names.ensures.value ∙ same_by c.names.result.now c.args.names.now _ c.eq.ensures c.if-eq.true in
    (folder.0, passed_here c.args.entries.now c.loop-first.left.now c.in-Some.first.now c.in-Some.rest.now c.args.names.now c.loop-first.invariant c.in-Some.ensures.cases.0 same ∙ ap Some folder.1)

pub loop-first-preserved : goal.loop-first-preserved
loop-first-preserved c =
    passed_more c.args.entries.now c.loop-first.left.now c.in-Some.first.now c.in-Some.rest.now c.args.names.now c.loop-first.invariant c.in-Some.ensures.cases.0
    (λ same. apart_by c.names.result.now c.args.names.now _ c.eq.ensures c.if-eq.false (c.names.ensures.value ∙ same))

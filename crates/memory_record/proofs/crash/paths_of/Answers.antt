use Rattle.std.proofs.Common.{◌≡◌, length, take, ◌∙◌, ap, arith}
use Rattle.std.specs.List.{flat_map}
use Rattle.std.proofs.Math.Seq.{take-length}
use Rattle.memory_record.specs.Traces.{named_by}
use Rattle.memory_record.proofs.Sorting.{sorted_paths, same_paths}
use Rattle.memory_record.proofs.crash.paths_of.Goals as goal

pub returns-clause-ascending : goal.returns-clause-ascending
returns-clause-ascending c = sorted_paths _ _ c.sort_unstable.ensures.sorted c.dedup.ensures.filtered

pub returns-clause-each : goal.returns-clause-each
returns-clause-each c = λ p.
    let low = c.loop-change.auto.change-index-end in
    let high = c.loop-change-test.false in
    let e : c.loop-change.change-index ≡ length c.args.changes.now = omega (arith, low, high) in
    same_paths _ _ _ p c.sort_unstable.ensures.permutation c.dedup.ensures.filtered _
    (c.loop-change.invariant ∙ ap (λ k. flat_map named_by (take k c.args.changes.now)) e ∙ ap (flat_map named_by) (take-length c.args.changes.now))

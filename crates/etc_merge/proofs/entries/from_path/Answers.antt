use Rattle.std.proofs.Common.{sym, ◌∙◌, ap}
use Rattle.std.specs.Ordering.{is_lt}
use Rattle.etc_merge.proofs.Finds.{from_more, less_of}
use Rattle.etc_merge.proofs.entries.from_path.Goals as goal

pub loop-first-preserved : goal.loop-first-preserved
loop-first-preserved c =
    let found = c.loop-first.invariant in
    from_more c.args.entries.now found.0 c.loop-first.left.now c.in-Some.first.now c.in-Some.rest.now c.args.path.now found.1 c.in-Some.ensures.cases.0 found.2
    (less_of _ (sym (c.is_lt.ensures ∙ ap is_lt c.cmp.ensures) ∙ c.if-not-is_lt.false))

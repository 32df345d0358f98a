use Rattle.std.proofs.Common.{rules}
use Rattle.ost_types.proofs.Splitting.{HasNoNames-here, IsCounted-more, HasNames-end}
use Rattle.ost_types.proofs.path.split.count_names.Goals as goal

pub returns-then-not-is_name : goal.returns-then-not-is_name
returns-then-not-is_name c =
    HasNoNames-here _ _ _ _ _ _ _ c.loop-after.invariant c.in-Some.ensures.cases.0 c.split_name.ensures.whole c.split_name.ensures.name c.split_name.ensures.rest (search rules)

pub loop-after-preserved : goal.loop-after-preserved
loop-after-preserved c =
    IsCounted-more _ _ _ _ _ _ _ c.loop-after.invariant c.in-Some.ensures.cases.0 c.split_name.ensures.whole c.split_name.ensures.name c.split_name.ensures.rest (search rules)

pub returns : goal.returns
returns c = HasNames-end _ _ _ c.requires c.loop-after.invariant c.in_default.ensures.cases

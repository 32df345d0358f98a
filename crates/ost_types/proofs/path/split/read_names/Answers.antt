use Rattle.std.proofs.Common.{arith}
use Rattle.ost_types.proofs.Splitting.{IsRead-name, IsRead-more, IsRead-end}
use Rattle.ost_types.proofs.path.split.read_names.Goals as goal

pub unreachable-requires : goal.unreachable-requires
unreachable-requires c =
    let is = IsRead-name _ _ _ _ _ _ _ c.loop-after.invariant c.in-Some.ensures.cases.0 c.split_name.ensures.whole c.split_name.ensures.name c.split_name.ensures.rest c.requires.names in
    let some = c.in_ok-name.ensures.exact.1 is in
    grind (arith, some, c.in_default-2.is)

pub loop-after-preserved : goal.loop-after-preserved
loop-after-preserved c =
    let more = IsRead-more _ _ _ _ _ _ _ c.loop-after.invariant c.in-Some.ensures.cases.0 c.split_name.ensures.whole c.split_name.ensures.name c.split_name.ensures.rest in
    let same = rw c.in-Some-2.is at c.in_ok-name.ensures.value in
    rw (c.in_ok-push.ensures.items, same) more

pub returns : goal.returns
returns c = IsRead-end _ _ _ c.requires.starts c.requires.names c.loop-after.invariant c.in_default.ensures.cases

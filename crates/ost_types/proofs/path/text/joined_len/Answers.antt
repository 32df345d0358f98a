use Rattle.std.proofs.Common.{rules, arith, ap, length, ◌∷◌, length-append, ◌+◌, take}
use Rattle.ost_types.specs.Path.{joined}
use Rattle.ost_types.proofs.Joined.{joined-take_more, joined-take, IsPath-joined}
use Rattle.ost_types.proofs.path.text.joined_len.Goals as goal

pub loop-name-init : goal.loop-name-init
unfolding joined
loop-name-init c = search rules

pub overflow_add-bytes-in-loop-name : goal.overflow_add-bytes-in-loop-name
overflow_add-bytes-in-loop-name c =
    let more = ap length (joined-take_more c.args.names.now c.loop-name.name-index c.name-item.result c.loop-name-test.true c.name-item.is) in
    let all = joined-take c.args.names.now (c.loop-name.name-index + 1) in
    let bound = IsPath-joined c.args.names.now c.requires in
    let one = length-append (joined (take c.loop-name.name-index c.args.names.now)) (47 ∷ c.name-item.result) in
    let same = ap length c.as_slice.ensures.value in
    omega (arith, more, all, bound, one, same, c.loop-name.invariant)

pub loop-name-preserved : goal.loop-name-preserved
loop-name-preserved c =
    let more = ap length (joined-take_more c.args.names.now c.loop-name.name-index c.name-item.result c.loop-name-test.true c.name-item.is) in
    let one = length-append (joined (take c.loop-name.name-index c.args.names.now)) (47 ∷ c.name-item.result) in
    let same = ap length c.as_slice.ensures.value in
    omega (arith, more, one, same, c.loop-name.invariant)

pub returns-clause-bound : goal.returns-clause-bound
returns-clause-bound c =
    let all = joined-take c.args.names.now c.loop-name.name-index in
    let bound = IsPath-joined c.args.names.now c.requires in
    omega (arith, all, bound, c.loop-name.invariant)

use Rattle.std.proofs.Common.{◌≡◌, ◌+◌, ◌≤◌, ◌∷◌, length, take, refl, ◌∙◌, ap, arith, length-append}
use Rattle.std.proofs.lemmas.List.{take_all}
use Rattle.ost_types.specs.Path.{joined}
use Rattle.ost_types.proofs.Joined.{joined-take_more, joined-take, IsPath-joined}
use Rattle.tree_read.proofs.Shorts.{text_short}
use Rattle.tree_read.proofs.children.is_short.Goals as goal

pub loop-name-init : goal.loop-name-init
unfolding joined
loop-name-init c = refl

pub overflow_add-bytes-in-loop-name : goal.overflow_add-bytes-in-loop-name
overflow_add-bytes-in-loop-name c =
    let more = ap length (joined-take_more c.names-names.result.now c.loop-name.name-index c.name-item.result c.loop-name-test.true c.name-item.is) in
    let all = joined-take c.names-names.result.now (c.loop-name.name-index + 1) in
    let bound = IsPath-joined c.names-names.result.now c.names-names.ensures.path in
    let one = length-append (joined (take c.loop-name.name-index c.names-names.result.now)) (47 ∷ c.name-item.result) in
    let same = ap length c.as_slice.ensures.value in
    omega (arith, more, all, bound, one, same, c.loop-name.invariant)

pub loop-name-preserved : goal.loop-name-preserved
loop-name-preserved c =
    let more = ap length (joined-take_more c.names-names.result.now c.loop-name.name-index c.name-item.result c.loop-name-test.true c.name-item.is) in
    let one = length-append (joined (take c.loop-name.name-index c.names-names.result.now)) (47 ∷ c.name-item.result) in
    let same = ap length c.as_slice.ensures.value in
    omega (arith, more, one, same, c.loop-name.invariant)

pub returns : goal.returns
returns c =
    let names = c.names-names.ensures.value in
    let all : c.loop-name.bytes ≡ length (joined c.args.path.now) =
    c.loop-name.invariant ∙ ap (λ p. length (joined p)) (take_all c.loop-name.name-index c.names-names.result.now (omega (arith, c.loop-name-test.false)) ∙ names) in
    let few : length c.names-names.result.now ≡ length c.args.path.now = ap length names in (
      λ t. let less : c.loop-name.bytes ≤ 1024 = grind (arith, t) in (omega (arith, few, c.if-names-gt64.false), (text_short c.args.path.now).1 (omega (arith, all, less))),
      λ s. let less = (text_short c.args.path.now).0 s.1 in grind (arith, all, less),
    )

use Rattle.std.proofs.Common.{◌≡◌, suc, ◌++◌, length, sym, ap, ◌∙◌, arith}
use Rattle.std.specs.Option.{is_some}
use Rattle.gv_core.specs.Node.{kinds_of}
use Rattle.gv_core.specs.Reading.{inner}
use Rattle.gv_core.proofs.Steps.{inner_more, size_unknown}
use Rattle.gv_core.proofs.reading.inner_count.Goals as goal

pub loop-member-preserved-then-is_none : goal.loop-member-preserved-then-is_none
loop-member-preserved-then-is_none c =
    let none = size_unknown _ (ap is_some (sym c.size.ensures) ∙ c.if-is_none.ensures) in
    let rest = c.in-Some.front_rest.now ++ c.in-Some.back_rest.now in
    let more : inner (kinds_of (c.loop-member.front_left.now ++ c.loop-member.back_left.now)) ≡ suc (inner (kinds_of rest)) = ap (λ x. inner (kinds_of x)) c.in-Some.ensures ∙ inner_more c.in-Some.member.now rest none (sym c.if-not-is_end.ensures) in
    let len : length (c.loop-member.front_left.now ++ c.loop-member.back_left.now) ≡ suc (length rest) = ap length c.in-Some.ensures in
    record { counted = omega arith; room = omega arith }

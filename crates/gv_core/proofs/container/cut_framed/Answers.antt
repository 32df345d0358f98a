use Rattle.std.proofs.Common.{◌≡◌, ◌+◌, ◌-◌, ◌/◌, suc, true, false, [], ◌∷◌, ◌++◌, length, map, Some, refl, sym, ap, ◌∙◌, arith, rules}
use Rattle.gv_core.specs.Measure.{alignment, up}
use Rattle.gv_core.specs.Reading.{between}
use Rattle.gv_core.proofs.Steps.{framed_step, framed_bad, framed_next, framed_end}
use Rattle.gv_core.proofs.Raws.{raw_tree, raws_are, pieces_push}
use Rattle.gv_core.proofs.container.cut_framed.Goals as goal

pub returns-then-not-is_piece : goal.returns-then-not-is_piece
returns-then-not-is_piece c =
    let start : c.round_up-start.result ≡ up (alignment c.args.kind.now) c.loop.pos = c.round_up-start.ensures ∙ ap (λ a. up a c.loop.pos) c.align.ensures.value in
    let n = (length c.args.bytes.now - c.number-limit.result) / c.width_for-width.result in
    let more : n - c.loop.counter ≡ suc (n - (c.loop.counter + 1)) = omega arith in
    let s = framed_step _ _ _ _ _ _ (n - (c.loop.counter + 1)) _ _ c.round_up-start.result c.number-end.result _ c.split_at.result.0.now c.split_at.result.1.now _ c.loop.invariant more start c.split_at.ensures.front c.split_at.ensures.back c.number-end.ensures in
    let bad : c.is_piece.result ≡ false = search rules in
    framed_bad _ _ _ _ _ _ _ _ _ _ _ s (sym c.is_piece.ensures ∙ bad)

pub loop-preserved : goal.loop-preserved
loop-preserved c =
    let start : c.round_up-start.result ≡ up (alignment c.args.kind.now) c.loop.pos = c.round_up-start.ensures ∙ ap (λ a. up a c.loop.pos) c.align.ensures.value in
    let n = (length c.args.bytes.now - c.number-limit.result) / c.width_for-width.result in
    let more : n - c.loop.counter ≡ suc (n - (c.loop.counter + 1)) = omega arith in
    let s = framed_step _ _ _ _ _ _ (n - (c.loop.counter + 1)) _ _ c.round_up-start.result c.number-end.result _ c.split_at.result.0.now c.split_at.result.1.now _ c.loop.invariant more start c.split_at.ensures.front c.split_at.ensures.back c.number-end.ensures in
    let good : c.is_piece.result ≡ true = search rules in
    let pieces = c.loop.pieces.items in
    let r = between c.args.bytes.now c.round_up-start.result c.number-end.result in
    let e : map raw_tree (map (λ b. b.now) c.push.new.self.items) ≡ map raw_tree (map (λ b. b.now) pieces) ++ raw_tree r ∷ [] =
    ap (λ x. map raw_tree (map (λ b. b.now) x)) c.in_ok-push.ensures.items ∙ pieces_push pieces _ in
    framed_next _ _ _ _ (raw_tree r) _ _ _ _ _ _ _ _ _ _ _ c.loop.invariant more c.split_at.ensures.back s (sym c.is_piece.ensures ∙ good) refl e

pub returns : goal.returns
returns c = framed_end _ _ _ _ _ _ _ _ _ _ c.loop.invariant (omega arith) ∙ ap Some (raws_are _)

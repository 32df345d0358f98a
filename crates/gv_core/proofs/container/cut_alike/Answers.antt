use Rattle.std.proofs.Common.{◌≡◌, ◌+◌, ◌-◌, ◌<◌, ◌≤◌, true, false, [], ◌∷◌, ◌++◌, length, map, Some, refl, sym, ap, ◌∙◌, arith, rules}
use Rattle.std.proofs.lemmas.Bool.{leb-true}
use Rattle.gv_core.specs.Measure.{alignment, up}
use Rattle.gv_core.specs.Reading.{between}
use Rattle.gv_core.proofs.Steps.{alike_init, alike_bad, alike_positive, alike_placed, alike_next, alike_end}
use Rattle.gv_core.proofs.Raws.{raw_tree, raws_are, pieces_push}
use Rattle.gv_core.proofs.container.cut_alike.Goals as goal

pub loop-pos-init : goal.loop-pos-init
loop-pos-init c = alike_init _ _ _ _ _ (ap (λ x. map raw_tree (map (λ b. b.now) x)) c.new-pieces.ensures.items) c.requires

pub returns-then-not-has_room : goal.returns-then-not-has_room
returns-then-not-has_room c =
    let start : c.round_up-start.result ≡ up (alignment c.args.kind.now) c.loop-pos.pos = c.round_up-start.ensures ∙ ap (λ a. up a c.loop-pos.pos) c.align.ensures.value in
    let bad : c.has_room.result ≡ false = search rules in
    alike_bad _ _ _ _ _ _ _ _ c.loop-pos.invariant c.loop-pos-test.true start (sym c.has_room.ensures ∙ bad)

pub loop-pos-smaller : goal.loop-pos-smaller
loop-pos-smaller c =
    let some : 0 < c.args.size = alike_positive _ _ _ _ _ _ _ c.loop-pos.invariant in
    let good : c.has_room.result ≡ true = search rules in
    let room : c.round_up-start.result + c.args.size ≤ length c.args.bytes.now = leb-true _ _ (sym c.has_room.ensures ∙ good) in
    let later = c.round_up-start.ensures in
    let less : length c.args.bytes.now - (c.round_up-start.result + c.args.size) < length c.args.bytes.now - c.loop-pos.pos = omega arith in
    less

pub loop-pos-preserved : goal.loop-pos-preserved
loop-pos-preserved c =
    let start : c.round_up-start.result ≡ up (alignment c.args.kind.now) c.loop-pos.pos = c.round_up-start.ensures ∙ ap (λ a. up a c.loop-pos.pos) c.align.ensures.value in
    let good : c.has_room.result ≡ true = search rules in
    let room : c.round_up-start.result + c.args.size ≤ length c.args.bytes.now = leb-true _ _ (sym c.has_room.ensures ∙ good) in
    let pl = alike_placed _ _ _ _ _ _ _ _ c.loop-pos.invariant c.loop-pos-test.true (omega arith) start room in
    let pieces = c.loop-pos.pieces.items in
    let r = between c.args.bytes.now c.round_up-start.result (c.round_up-start.result + c.args.size) in
    let e : map raw_tree (map (λ b. b.now) c.push.new.self.items) ≡ map raw_tree (map (λ b. b.now) pieces) ++ raw_tree r ∷ [] =
    ap (λ x. map raw_tree (map (λ b. b.now) x)) c.in_ok-push.ensures.items ∙ pieces_push pieces _ in
    alike_next _ _ _ _ (raw_tree r) _ _ _ _ _ pl (omega arith) room refl e

pub returns : goal.returns
returns c = alike_end _ _ _ _ _ _ _ c.loop-pos.invariant c.loop-pos-test.false ∙ ap Some (raws_are _)

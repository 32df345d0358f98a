use Rattle.std.proofs.Common.{◌≡◌, ℕ, [], ◌∷◌, ◌++◌, map, Some, refl, sym, ap, ◌∙◌}
use Rattle.gv_core.specs.Measure.{alignment, up}
use Rattle.gv_core.specs.Reading.{between}
use Rattle.gv_core.proofs.Steps.{members_room, members_placed, members_next, members_bad_at, members_end}
use Rattle.gv_core.proofs.Raws.{raw_tree, raws_are, pieces_push}
use Rattle.gv_core.proofs.container.cut_members.Goals as goal

pub member_end-requires-clause-room : goal.member_end-requires-clause-room
member_end-requires-clause-room c = members_room _ _ _ _ _ _ _ _ _ _ _ _ c.loop-member.invariant c.in-Some.ensures c.is_end.ensures

pub returns-in_default-member_end : goal.returns-in_default-member_end
returns-in_default-member_end c =
    let start : c.round_up-start.result ≡ up (alignment c.in-Some.member.now) c.loop-member.pos = c.round_up-start.ensures ∙ ap (λ a. up a c.loop-member.pos) c.align.ensures.value in
    members_bad_at _ _ _ _ _ _ _ _ _ _ _ _ _ c.loop-member.invariant c.in-Some.ensures c.is_end.ensures start (sym c.in_default-member_end.is ∙ c.member_end.ensures)

pub loop-member-preserved : goal.loop-member-preserved
loop-member-preserved c =
    let start : c.round_up-start.result ≡ up (alignment c.in-Some.member.now) c.loop-member.pos = c.round_up-start.ensures ∙ ap (λ a. up a c.loop-member.pos) c.align.ensures.value in
    let q : ℕ × ℕ = (c.in-Some-member_end.end, c.in-Some-member_end.used) in
    let pl = members_placed _ _ _ _ _ _ _ _ _ _ _ _ _ q c.loop-member.invariant c.in-Some.ensures c.is_end.ensures start (sym c.in-Some-member_end.is ∙ c.member_end.ensures) in
    let pieces = c.loop-member.pieces.items in
    let r = between c.args.bytes.now c.round_up-start.result c.in-Some-member_end.end in
    let e : map raw_tree (map (λ b. b.now) c.push.new.self.items) ≡ map raw_tree (map (λ b. b.now) pieces) ++ raw_tree r ∷ [] =
    ap (λ x. map raw_tree (map (λ b. b.now) x)) c.in_ok-push.ensures.items ∙ pieces_push pieces _ in
    members_next _ _ _ _ (raw_tree r) _ _ _ _ _ q _ pl c.loop-member.invariant.width refl e

pub returns : goal.returns
returns c = members_end _ _ _ _ _ _ _ _ _ c.loop-member.invariant c.in_default.ensures ∙ ap Some (raws_are _)

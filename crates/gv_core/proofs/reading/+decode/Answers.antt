use Rattle.std.proofs.Common.{◌≡◌, ℕ, ◌+◌, ◌-◌, ◌/◌, ◌<◌, ◌≤◌, suc, true, false, cond, leb, [], ◌∷◌, ◌++◌, length, map, Some, refl, sym, ap, subst, ◌∙◌, arith, rules}
use Rattle.std.specs.Prelude.{option_map}
use Rattle.std.specs.Option.{is_some}
use Rattle.std.proofs.lemmas.Result.{err_from_is_err_and}
use Rattle.std.proofs.lemmas.Bool.{leb-true, eqb-false, and_parts}
use Rattle.std.proofs.lemmas.List.{map_push, append-nil}
use Rattle.gv_core.specs.declared.value.Value.{Array, Tuple, Maybe, the_lemmas}
use Rattle.gv_core.specs.Tree.{view, trees_of}
use Rattle.gv_core.specs.Tree as tr
use Rattle.gv_core.specs.Kind.{array, maybe, tuple, entry}
use Rattle.gv_core.specs.Node.{seen, kinds_of}
use Rattle.gv_core.specs.Measure.{alignment, fixed, up}
use Rattle.gv_core.specs.Reading.{parse, front}
use Rattle.gv_core.specs.Gives.{views}
use Rattle.gv_core.proofs.Steps.{fails_all, fails_map, fails_same, gives_same, at_more, at_basic, at_array, at_tuple, at_maybe, at_variant, at_entry, members_room, members_placed, members_next, members_bad_at, members_end, alike_init, alike_positive, alike_bad, alike_placed, alike_next, alike_end, framed_step, framed_bad, framed_fails, framed_next, framed_end, maybe_is, bytes_read, variant_unkind}
use Rattle.gv_core.specs.Stack.{ParsedAs}
use Rattle.gv_core.proofs.Stacks.{deep_kind, bad_kind}
use Rattle.gv_core.proofs.reading.+decode.Goals as goal

-- ---- decode_at

pub decode_at-returns-else-depth-eq0 : goal.decode_at-returns-else-depth-eq0
decode_at-returns-else-depth-eq0 t c = gives_same view c.decode_deep.result _ _ (at_more _ _ _ c.if-depth-eq0.false) c.decode_deep.ensures

pub decode_deep-returns-in-Basic : goal.decode_deep-returns-in-Basic
decode_deep-returns-in-Basic t c = gives_same view c.decode_basic.result _ _ (at_basic _ _ _ _ (sym c.shape.ensures ∙ ap seen c.in-Basic.is)) c.decode_basic.ensures

pub decode_deep-returns-in-Variant : goal.decode_deep-returns-in-Variant
decode_deep-returns-in-Variant t c = gives_same view c.decode_variant.result _ _ (at_variant _ _ _ (sym (ap seen c.in-Variant.is) ∙ c.shape.ensures)) c.decode_variant.ensures

pub decode_deep-returns-in-Maybe : goal.decode_deep-returns-in-Maybe
decode_deep-returns-in-Maybe t c = gives_same view c.decode_maybe.result _ _ (at_maybe _ _ _ _ (ap maybe c.deref-in-Maybe.ensures ∙ sym (ap seen c.in-Maybe.is) ∙ c.shape.ensures)) c.decode_maybe.ensures

pub decode_deep-returns-in-Entry : goal.decode_deep-returns-in-Entry
decode_deep-returns-in-Entry t c = gives_same view c.decode_entry.result _ _ (at_entry _ _ _ _ _ (ap (entry c.in-Entry.key) c.deref-in-Entry.ensures ∙ sym (ap seen c.in-Entry.is) ∙ c.shape.ensures)) c.decode_entry.ensures

pub decode_deep-returns-in-Ok : goal.decode_deep-returns-in-Ok
decode_deep-returns-in-Ok t c =
    let seen_as : view (Array c.in-Ok.values) ≡ tr.array (views c.in-Ok.values.items) = search (rules, the_lemmas) in
    at_array _ _ _ _ (ap array c.deref.ensures ∙ sym (ap seen c.in-Array.is) ∙ c.shape.ensures) ∙ ap (option_map tr.array) c.in-Ok.ensures ∙ ap Some (sym seen_as)

pub decode_deep-returns-in-Err : goal.decode_deep-returns-in-Err
decode_deep-returns-in-Err t c = fails_same c.in-Err.fault _ _ (at_array _ _ _ _ (ap array c.deref.ensures ∙ sym (ap seen c.in-Array.is) ∙ c.shape.ensures)) (fails_map c.in-Err.fault tr.array _ c.in-Err.ensures)

pub decode_deep-returns-in-Ok-decode_members : goal.decode_deep-returns-in-Ok-decode_members
decode_deep-returns-in-Ok-decode_members t c =
    let vs = c.in-Ok-decode_members.values in
    let ks = c.deref-in-Tuple.result.now in
    let seen_as : view (Tuple vs) ≡ tr.tuple (views vs.items) = search (rules, the_lemmas) in
    let all : tuple (kinds_of (ks ++ [])) ≡ tuple (kinds_of ks) = ap (λ x. tuple (kinds_of x)) (append-nil ks) in
    at_tuple _ _ _ _ (all ∙ ap (λ ks. tuple (kinds_of ks)) c.deref-in-Tuple.ensures.value ∙ sym (ap seen c.in-Tuple.is) ∙ c.shape.ensures) ∙ ap (option_map tr.tuple) c.in-Ok-decode_members.ensures ∙ ap Some (sym seen_as)

pub decode_deep-returns-in-Err-decode_members : goal.decode_deep-returns-in-Err-decode_members
decode_deep-returns-in-Err-decode_members t c =
    let fault = c.in-Err-decode_members.fault in
    let ks = c.deref-in-Tuple.result.now in
    let all : tuple (kinds_of (ks ++ [])) ≡ tuple (kinds_of ks) = ap (λ x. tuple (kinds_of x)) (append-nil ks) in
    fails_same fault _ _ (at_tuple _ _ _ _ (all ∙ ap (λ ks. tuple (kinds_of ks)) c.deref-in-Tuple.ensures.value ∙ sym (ap seen c.in-Tuple.is) ∙ c.shape.ensures)) (fails_map fault tr.tuple _ c.in-Err-decode_members.ensures)

-- ---- decode_members

pub decode_members-member_end-requires-clause-room : goal.decode_members-member_end-requires-clause-room
decode_members-member_end-requires-clause-room t c =
    members_room _ _ _ _ _ _ _ _ _ _ _ _ c.loop-member.invariant c.in-Some.ensures c.is_end.ensures

pub decode_members-returns-in_default-member_end : goal.decode_members-returns-in_default-member_end
decode_members-returns-in_default-member_end t c =
    let start : c.round_up-start.result ≡ up (alignment c.in-Some.member.now) c.loop-member.pos = c.round_up-start.ensures ∙ ap (λ a. up a c.loop-member.pos) c.align.ensures.value in
    members_bad_at _ _ _ _ _ _ _ _ _ _ _ _ _ c.loop-member.invariant c.in-Some.ensures c.is_end.ensures start (sym c.in_default-member_end.is ∙ c.member_end.ensures)

pub decode_members-returns-in_err-value : goal.decode_members-returns-in_err-value
decode_members-returns-in_err-value t c =
    let start : c.round_up-start.result ≡ up (alignment c.in-Some.member.now) c.loop-member.pos = c.round_up-start.ensures ∙ ap (λ a. up a c.loop-member.pos) c.align.ensures.value in
    let r : ℕ × ℕ = (c.in-Some-member_end.end, c.in-Some-member_end.used) in
    let pl = members_placed _ _ _ _ _ _ _ _ _ _ _ _ _ r c.loop-member.invariant c.in-Some.ensures c.is_end.ensures start (sym c.in-Some-member_end.is ∙ c.member_end.ensures) in
    let p = err_from_is_err_and c.from_residual.result c.from_residual.ensures.1 in
    rw (p.1, p.2) (fails_all c.in_err-value.field-0.0 _ _ _ _ c.in_err-value.ensures pl.so_far)

pub decode_members-loop-member-preserved : goal.decode_members-loop-member-preserved
decode_members-loop-member-preserved t c =
    let start : c.round_up-start.result ≡ up (alignment c.in-Some.member.now) c.loop-member.pos = c.round_up-start.ensures ∙ ap (λ a. up a c.loop-member.pos) c.align.ensures.value in
    let r : ℕ × ℕ = (c.in-Some-member_end.end, c.in-Some-member_end.used) in
    let pl = members_placed _ _ _ _ _ _ _ _ _ _ _ _ _ r c.loop-member.invariant c.in-Some.ensures c.is_end.ensures start (sym c.in-Some-member_end.is ∙ c.member_end.ensures) in
    let v = c.in_ok-value.value in
    let e : map view c.push.new.self.items ≡ map view c.loop-member.values.items ++ view v ∷ [] = ap (map view) c.in_ok-push.ensures.items ∙ map_push view c.loop-member.values.items v in
    members_next _ _ _ _ (view v) _ _ _ _ _ r _ pl c.loop-member.invariant.width c.in_ok-value.ensures e

pub decode_members-returns : goal.decode_members-returns
decode_members-returns t c = members_end _ _ _ _ _ _ _ _ _ c.loop-member.invariant c.in_default.ensures

-- ---- decode_alike

pub decode_alike-loop-pos-init : goal.decode_alike-loop-pos-init
decode_alike-loop-pos-init t c = alike_init _ _ _ _ _ (ap (map view) c.new-values.ensures.items) c.requires

pub decode_alike-returns-then-not-has_room : goal.decode_alike-returns-then-not-has_room
decode_alike-returns-then-not-has_room t c =
    let start : c.round_up-start.result ≡ up (alignment c.args.kind.now) c.loop-pos.pos = c.round_up-start.ensures ∙ ap (λ a. up a c.loop-pos.pos) c.align.ensures.value in
    let bad : c.has_room.result ≡ false = search rules in
    alike_bad _ _ _ _ _ _ _ _ c.loop-pos.invariant c.loop-pos-test.true start (sym c.has_room.ensures ∙ bad)

pub decode_alike-returns-in_err-value : goal.decode_alike-returns-in_err-value
decode_alike-returns-in_err-value t c =
    let start : c.round_up-start.result ≡ up (alignment c.args.kind.now) c.loop-pos.pos = c.round_up-start.ensures ∙ ap (λ a. up a c.loop-pos.pos) c.align.ensures.value in
    let good : c.has_room.result ≡ true = search rules in
    let room : c.round_up-start.result + c.args.size ≤ length c.args.bytes.now = leb-true _ _ (sym c.has_room.ensures ∙ good) in
    let pl = alike_placed _ _ _ _ _ _ _ _ c.loop-pos.invariant c.loop-pos-test.true (omega arith) start room in
    let p = err_from_is_err_and c.from_residual.result c.from_residual.ensures.1 in
    rw (p.1, p.2) (fails_all c.in_err-value.field-0.0 _ _ _ _ c.in_err-value.ensures pl.so_far)

pub decode_alike-loop-pos-smaller : goal.decode_alike-loop-pos-smaller
decode_alike-loop-pos-smaller t c =
    let some : 0 < c.args.size = alike_positive _ _ _ _ _ _ _ c.loop-pos.invariant in
    let good : c.has_room.result ≡ true = search rules in
    let room : c.round_up-start.result + c.args.size ≤ length c.args.bytes.now = leb-true _ _ (sym c.has_room.ensures ∙ good) in
    let later = c.round_up-start.ensures in
    let less : length c.args.bytes.now - (c.round_up-start.result + c.args.size) < length c.args.bytes.now - c.loop-pos.pos = omega arith in
    less

pub decode_alike-loop-pos-preserved : goal.decode_alike-loop-pos-preserved
decode_alike-loop-pos-preserved t c =
    let start : c.round_up-start.result ≡ up (alignment c.args.kind.now) c.loop-pos.pos = c.round_up-start.ensures ∙ ap (λ a. up a c.loop-pos.pos) c.align.ensures.value in
    let good : c.has_room.result ≡ true = search rules in
    let room : c.round_up-start.result + c.args.size ≤ length c.args.bytes.now = leb-true _ _ (sym c.has_room.ensures ∙ good) in
    let pl = alike_placed _ _ _ _ _ _ _ _ c.loop-pos.invariant c.loop-pos-test.true (omega arith) start room in
    let v = c.in_ok-value.value in
    let e : map view c.push.new.self.items ≡ map view c.loop-pos.values.items ++ view v ∷ [] = ap (map view) c.in_ok-push.ensures.items ∙ map_push view c.loop-pos.values.items v in
    alike_next _ _ _ _ (view v) _ _ _ _ _ pl (omega arith) room c.in_ok-value.ensures e

pub decode_alike-returns : goal.decode_alike-returns
decode_alike-returns t c = alike_end _ _ _ _ _ _ _ c.loop-pos.invariant c.loop-pos-test.false

-- ---- decode_framed

pub decode_framed-returns-then-not-is_piece : goal.decode_framed-returns-then-not-is_piece
decode_framed-returns-then-not-is_piece t c =
    let start : c.round_up-start.result ≡ up (alignment c.args.kind.now) c.loop.pos = c.round_up-start.ensures ∙ ap (λ a. up a c.loop.pos) c.align.ensures.value in
    let n = (length c.args.bytes.now - c.number-limit.result) / c.width_for-width.result in
    let more : n - c.loop.counter ≡ suc (n - (c.loop.counter + 1)) = omega arith in
    let s = framed_step _ _ _ _ _ _ (n - (c.loop.counter + 1)) _ _ c.round_up-start.result c.number-end.result _ c.split_at.result.0.now c.split_at.result.1.now _ c.loop.invariant more start c.split_at.ensures.front c.split_at.ensures.back c.number-end.ensures in
    let bad : c.is_piece.result ≡ false = search rules in
    framed_bad _ _ _ _ _ _ _ _ _ _ _ s (sym c.is_piece.ensures ∙ bad)

pub decode_framed-slice_bounds-decode_at-end : goal.decode_framed-slice_bounds-decode_at-end
decode_framed-slice_bounds-decode_at-end t c =
    let good : c.is_piece.result ≡ true = search rules in
    let q = and_parts (leb c.round_up-start.result c.number-end.result) (leb c.number-end.result c.number-limit.result) (sym c.is_piece.ensures ∙ good) in
    let le : c.number-end.result ≤ c.number-limit.result = leb-true _ _ q.1 in
    let lim = c.loop.invariant.within in
    omega arith

pub decode_framed-returns-in_err-value : goal.decode_framed-returns-in_err-value
decode_framed-returns-in_err-value t c =
    let start : c.round_up-start.result ≡ up (alignment c.args.kind.now) c.loop.pos = c.round_up-start.ensures ∙ ap (λ a. up a c.loop.pos) c.align.ensures.value in
    let n = (length c.args.bytes.now - c.number-limit.result) / c.width_for-width.result in
    let more : n - c.loop.counter ≡ suc (n - (c.loop.counter + 1)) = omega arith in
    let s = framed_step _ _ _ _ _ _ (n - (c.loop.counter + 1)) _ _ c.round_up-start.result c.number-end.result _ c.split_at.result.0.now c.split_at.result.1.now _ c.loop.invariant more start c.split_at.ensures.front c.split_at.ensures.back c.number-end.ensures in
    let good : c.is_piece.result ≡ true = search rules in
    let p = err_from_is_err_and c.from_residual.result c.from_residual.ensures.1 in
    rw (p.1, p.2) (framed_fails c.in_err-value.field-0.0 _ _ _ _ _ _ _ _ _ _ _ s (sym c.is_piece.ensures ∙ good) c.in_err-value.ensures)

pub decode_framed-loop-preserved : goal.decode_framed-loop-preserved
decode_framed-loop-preserved t c =
    let start : c.round_up-start.result ≡ up (alignment c.args.kind.now) c.loop.pos = c.round_up-start.ensures ∙ ap (λ a. up a c.loop.pos) c.align.ensures.value in
    let n = (length c.args.bytes.now - c.number-limit.result) / c.width_for-width.result in
    let more : n - c.loop.counter ≡ suc (n - (c.loop.counter + 1)) = omega arith in
    let s = framed_step _ _ _ _ _ _ (n - (c.loop.counter + 1)) _ _ c.round_up-start.result c.number-end.result _ c.split_at.result.0.now c.split_at.result.1.now _ c.loop.invariant more start c.split_at.ensures.front c.split_at.ensures.back c.number-end.ensures in
    let good : c.is_piece.result ≡ true = search rules in
    let v = c.in_ok-value.value in
    let e : map view c.push.new.self.items ≡ map view c.loop.values.items ++ view v ∷ [] = ap (map view) c.in_ok-push.ensures.items ∙ map_push view c.loop.values.items v in
    framed_next _ _ _ _ (view v) _ _ _ _ _ _ _ _ _ _ _ c.loop.invariant more c.split_at.ensures.back s (sym c.is_piece.ensures ∙ good) c.in_ok-value.ensures e

pub decode_framed-returns : goal.decode_framed-returns
decode_framed-returns t c = framed_end _ _ _ _ _ _ _ _ _ _ c.loop.invariant (omega arith)

-- ---- decode_maybe

pub decode_maybe-returns-in_ok-new-in-Ok : goal.decode_maybe-returns-in_ok-new-in-Ok
decode_maybe-returns-in_ok-new-in-Ok t c =
    let b = c.in_ok-new-in-Ok.field-0 in
    let seen_as : view (Maybe (Some b)) ≡ tr.just (view b.value) = search (rules, the_lemmas) in
    let same : view b.value ≡ view c.in-Ok.value = ap view c.in_ok-new-in-Ok.ensures.ok in
    let read : parse c.args.depth c.args.kind.now (cond (is_some (fixed c.args.kind.now)) c.args.bytes.now (front c.args.bytes.now)) ≡ Some (view c.in-Ok.value) = ap (parse c.args.depth c.args.kind.now) (sym c.content.ensures) ∙ c.in-Ok.ensures in
    let full : c.is_empty.result ≡ false = search rules in
    let some : length c.args.bytes.now ≡ 0 → ⊥ = eqb-false _ _ (sym c.is_empty.ensures ∙ full) in
    maybe_is (parse c.args.depth) c.args.kind.now (is_some (fixed c.args.kind.now)) c.args.bytes.now (view c.in-Ok.value) some read ∙ ap (λ v. Some (tr.just v)) (sym same) ∙ ap Some (sym seen_as)

-- ---- decode_elements

pub decode_elements-returns-then-is_byte : goal.decode_elements-returns-then-is_byte
decode_elements-returns-then-is_byte t c = gives_same (λ v. views v.items) c.decode_bytes.result _ _ (bytes_read c.args.depth c.args.kind.now c.args.bytes.now (c.if-is_byte.ensures refl)) c.decode_bytes.ensures

-- ---- decode_variant

pub decode_variant-returns-in-TooDeep : goal.decode_variant-returns-in-TooDeep
decode_variant-returns-in-TooDeep t c =
    let h = subst (λ p. ParsedAs p c.in-Some.text.now) c.in-TooDeep.is c.in_ok-kind.ensures in
    variant_unkind (parse c.args.depth) c.args.bytes.now c.in-Some.content.now c.in-Some.text.now (sym c.in-Some.ensures) (deep_kind c.in-Some.text.now h.0 h.1.0 h.1.1)

pub decode_variant-returns-in-Bad : goal.decode_variant-returns-in-Bad
decode_variant-returns-in-Bad t c =
    let h = subst (λ p. ParsedAs p c.in-Some.text.now) c.in-Bad.is c.in_ok-kind.ensures in
    variant_unkind (parse c.args.depth) c.args.bytes.now c.in-Some.content.now c.in-Some.text.now (sym c.in-Some.ensures) (bad_kind c.in-Some.text.now h)

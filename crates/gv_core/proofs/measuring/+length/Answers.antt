use Rattle.std.proofs.Common.{◌≡◌, ◌+◌, ◌*◌, ◌<◌, suc, max, eqb, true, false, cond, [], ◌∷◌, ◌++◌, length, Some, None, refl, sym, ap, ap₂, subst, ◌∙◌, arith, rules}
use Rattle.std.specs.Prelude.{option_map, option_and_then, ◌||◌}
use Rattle.std.specs.Option.{is_some}
use Rattle.std.proofs.lemmas.List.{nil_from_length, append-nil}
use Rattle.gv_core.specs.declared.value.Value.{Array, Tuple, Entry, Maybe, Variant, the_lemmas}
use Rattle.gv_core.specs.Kind.{array, tuple, maybe, entry, kind, basic, no_kinds}
use Rattle.gv_core.specs.Tree.{view, trees_of}
use Rattle.gv_core.specs.Tree as tr
use Rattle.gv_core.specs.Node.{seen, kinds_of}
use Rattle.gv_core.specs.Measure.{fixed, up, alignment}
use Rattle.gv_core.specs.Layout.{layout, nests, nest, part, tuple_of, rows, members}
use Rattle.gv_core.specs.Gives.{views, short}
use Rattle.gv_core.proofs.Nodes.{entry_alignment, entry_fixed}
use Rattle.gv_core.proofs.Steps.{longer}
use Rattle.gv_core.proofs.Pushing.{rows_first, rows_first_none, rows_nil, with_first, put_array_is, tuple_is, entry_is, nothing_is, just_is, variant_is, not_array, not_tuple, not_entry, not_maybe, not_variant, still_some}
use Rattle.gv_core.proofs.Cells.{members_first, members_first_none, members_short, left_over, none_over}
use Rattle.gv_core.proofs.Lengths.{spans_next, spans_long, spans_none, spans_end, array_span, CellSpans, cell_spans_next, cell_spans_long, cell_spans_none, cell_spans_end_of, tuple_span, length_some, length_none, short_some, short_small, offset_small}
use Rattle.gv_core.proofs.measuring.+length.Goals as goal

pub length_of-members_length-requires-in-Entry-shape : goal.length_of-members_length-requires-in-Entry-shape
length_of-members_length-requires-in-Entry-shape t c =
    let x = c.in-Entry-shape.basic in
    let k = c.deref-in-Entry-shape-3.result.now in
    let pair : kinds_of (c.from_ref-in-Entry-shape-2.result.now ++ c.from_ref-in-Entry-shape-3.result.now) ≡ kind (basic x) (kind k no_kinds) =
    ap₂ (λ a b. kinds_of (a ++ b)) c.from_ref-in-Entry-shape-2.ensures.value c.from_ref-in-Entry-shape-3.ensures.value ∙ ap (λ b. kind b (kind k no_kinds)) c.basic-basic.ensures in
    let whole : c.args.kind.now ≡ entry x k = sym c.shape-in-Entry.ensures ∙ ap seen c.in-Entry-shape.is ∙ ap (entry x) (sym c.deref-in-Entry-shape-3.ensures) in
    let a = c.in-Entry.key.value in
    let b = c.in-Entry.item.value in
    let items : views (c.from_ref.result.now ++ c.from_ref-in-Entry-shape.result.now) ≡ tr.tree (view a) (tr.tree (view b) tr.no_trees) =
    ap₂ (λ x y. views (x ++ y)) (c.from_ref.ensures.value ∙ ap (λ z. z ∷ []) c.deref-in-Entry-shape.ensures) (c.from_ref-in-Entry-shape.ensures.value ∙ ap (λ z. z ∷ []) c.deref-in-Entry-shape-2.ensures) in
    let seen_as : view (Entry c.in-Entry.key c.in-Entry.item) ≡ tr.entry (view a) (view b) = search (rules, the_lemmas) in
    let deep : nests (view c.args.value.now) ≡ suc (max (nests (view a)) (nests (view b))) = ap nests (ap view c.in-Entry.is ∙ seen_as) in
    let flat : nest (views (c.from_ref.result.now ++ c.from_ref-in-Entry-shape.result.now)) ≡ max (nests (view a)) (max (nests (view b)) 0) = ap nest items in
    let less : 2 * nest (views (c.from_ref.result.now ++ c.from_ref-in-Entry-shape.result.now)) + 1 < 2 * nests (view c.args.value.now) = omega arith in
    (search rules, (ap alignment whole ∙ entry_alignment x k ∙ ap (λ ks. alignment (tuple ks)) (sym pair), ap fixed whole ∙ entry_fixed x k ∙ ap (λ ks. fixed (tuple ks)) (sym pair)))

pub length_of-returns-in-Array-shape : goal.length_of-returns-in-Array-shape
length_of-returns-in-Array-shape t c =
    let seen_as : view (Array c.in-Array.items) ≡ tr.array (views c.in-Array.items.items) = search (rules, the_lemmas) in
    let v : view c.args.value.now ≡ tr.array (views c.deref.result.now) = ap view c.in-Array.is ∙ seen_as ∙ ap (λ xs. tr.array (views xs)) (sym c.deref.ensures.value) in
    let k : c.args.kind.now ≡ array c.deref-in-Array-shape.result.now = sym c.shape.ensures ∙ ap seen c.in-Array-shape.is ∙ ap array (sym c.deref-in-Array-shape.ensures) in
    c.array_length.ensures ∙ ap (option_map length) (sym (put_array_is _ _ _ _ v k))

pub length_of-returns-in_default : goal.length_of-returns-in_default
length_of-returns-in_default t c =
    let seen_as : view (Array c.in-Array.items) ≡ tr.array (views c.in-Array.items.items) = search (rules, the_lemmas) in
    sym (ap (option_map length) (not_array _ _ c.shape.result.now _ (ap view c.in-Array.is ∙ seen_as) c.shape.ensures c.in_default.not-Array))

pub length_of-returns-in-Tuple-shape : goal.length_of-returns-in-Tuple-shape
length_of-returns-in-Tuple-shape t c =
    let vs = c.deref-in-Tuple-shape.result.now in
    let ks = c.deref-in-Tuple-shape-2.result.now in
    let seen_as : view (Tuple c.in-Tuple.items) ≡ tr.tuple (views c.in-Tuple.items.items) = search (rules, the_lemmas) in
    let v : view c.args.value.now ≡ tr.tuple (views (vs ++ [])) = ap view c.in-Tuple.is ∙ seen_as ∙ ap (λ xs. tr.tuple (views xs)) (sym c.deref-in-Tuple-shape.ensures.value ∙ sym (append-nil vs)) in
    let k : c.args.kind.now ≡ tuple (kinds_of (ks ++ [])) = sym c.shape-in-Tuple.ensures ∙ ap seen c.in-Tuple-shape.is ∙ ap (λ xs. tuple (kinds_of xs)) (sym c.deref-in-Tuple-shape-2.ensures.value ∙ sym (append-nil ks)) in
    c.members_length.ensures ∙ ap (option_map length) (sym (tuple_is _ _ _ _ v k))

pub length_of-returns-in_default-shape : goal.length_of-returns-in_default-shape
length_of-returns-in_default-shape t c =
    let seen_as : view (Tuple c.in-Tuple.items) ≡ tr.tuple (views c.in-Tuple.items.items) = search (rules, the_lemmas) in
    sym (ap (option_map length) (not_tuple _ _ c.shape-in-Tuple.result.now _ (ap view c.in-Tuple.is ∙ seen_as) c.shape-in-Tuple.ensures c.in_default-shape.not-Tuple))

pub length_of-returns-in-Entry-shape : goal.length_of-returns-in-Entry-shape
length_of-returns-in-Entry-shape t c =
    let x = c.in-Entry-shape.basic in
    let k = c.deref-in-Entry-shape-3.result.now in
    let a = c.in-Entry.key.value in
    let b = c.in-Entry.item.value in
    let pair : kinds_of (c.from_ref-in-Entry-shape-2.result.now ++ c.from_ref-in-Entry-shape-3.result.now) ≡ kind (basic x) (kind k no_kinds) =
    ap₂ (λ a b. kinds_of (a ++ b)) c.from_ref-in-Entry-shape-2.ensures.value c.from_ref-in-Entry-shape-3.ensures.value ∙ ap (λ b. kind b (kind k no_kinds)) c.basic-basic.ensures in
    let whole : c.args.kind.now ≡ entry x k = sym c.shape-in-Entry.ensures ∙ ap seen c.in-Entry-shape.is ∙ ap (entry x) (sym c.deref-in-Entry-shape-3.ensures) in
    let items : views (c.from_ref.result.now ++ c.from_ref-in-Entry-shape.result.now) ≡ tr.tree (view a) (tr.tree (view b) tr.no_trees) =
    ap₂ (λ x y. views (x ++ y)) (c.from_ref.ensures.value ∙ ap (λ z. z ∷ []) c.deref-in-Entry-shape.ensures) (c.from_ref-in-Entry-shape.ensures.value ∙ ap (λ z. z ∷ []) c.deref-in-Entry-shape-2.ensures) in
    let seen_as : view (Entry c.in-Entry.key c.in-Entry.item) ≡ tr.entry (view a) (view b) = search (rules, the_lemmas) in
    let is : layout (view c.args.value.now) c.args.kind.now ≡ option_and_then tuple_of (members (views (c.from_ref.result.now ++ c.from_ref-in-Entry-shape.result.now)) (kinds_of (c.from_ref-in-Entry-shape-2.result.now ++ c.from_ref-in-Entry-shape-3.result.now))) =
    entry_is _ _ _ _ _ _ (ap view c.in-Entry.is ∙ seen_as) whole ∙ ap₂ (λ ts ks. option_and_then tuple_of (members ts ks)) (sym items) (sym pair) in
    c.members_length-in-Entry-shape.ensures ∙ ap (option_map length) (sym is)

pub length_of-returns-in_default-shape-2 : goal.length_of-returns-in_default-shape-2
length_of-returns-in_default-shape-2 t c =
    let seen_as : view (Entry c.in-Entry.key c.in-Entry.item) ≡ tr.entry (view c.in-Entry.key.value) (view c.in-Entry.item.value) = search (rules, the_lemmas) in
    sym (ap (option_map length) (not_entry _ _ _ c.shape-in-Entry.result.now _ (ap view c.in-Entry.is ∙ seen_as) c.shape-in-Entry.ensures c.in_default-shape-2.not-Entry))

pub length_of-returns-in-None : goal.length_of-returns-in-None
length_of-returns-in-None t c =
    let seen_as : view (Maybe None) ≡ tr.nothing = search (rules, the_lemmas) in
    let v : view c.args.value.now ≡ tr.nothing = ap view c.in-Maybe.is ∙ ap (λ o. view (Maybe o)) c.in-None.is ∙ seen_as in
    let k : c.args.kind.now ≡ maybe c.in-Maybe-shape.of.value = sym c.shape-in-Maybe.ensures ∙ ap seen c.in-Maybe-shape.is in
    sym (ap (option_map length) (nothing_is _ _ _ v k))

pub length_of-returns-in-Some : goal.length_of-returns-in-Some
length_of-returns-in-Some t c =
    let item = c.in-Some.item in
    let seen_as : view (Maybe (Some item)) ≡ tr.just (view item.value) = search (rules, the_lemmas) in
    let v : view c.args.value.now ≡ tr.just (view c.deref-in-Some.result.now) = ap view c.in-Maybe.is ∙ ap (λ o. view (Maybe o)) c.in-Some.is ∙ seen_as ∙ ap (λ x. tr.just (view x)) (sym c.deref-in-Some.ensures) in
    let k : c.args.kind.now ≡ maybe c.deref-in-Some-2.result.now = sym c.shape-in-Maybe.ensures ∙ ap seen c.in-Maybe-shape.is ∙ ap maybe (sym c.deref-in-Some-2.ensures) in
    c.just_length.ensures ∙ ap (option_map length) (sym (just_is _ _ _ _ v k))

pub length_of-returns-in_default-shape-3 : goal.length_of-returns-in_default-shape-3
length_of-returns-in_default-shape-3 t c =
    sym (ap (option_map length) (ap (λ v. layout v c.args.kind.now) (ap view c.in-Maybe.is) ∙ not_maybe c.in-Maybe.content c.shape-in-Maybe.result.now _ c.shape-in-Maybe.ensures c.in_default-shape-3.not-Maybe))

pub length_of-returns-in-Variant-shape : goal.length_of-returns-in-Variant-shape
length_of-returns-in-Variant-shape t c =
    let seen_as : view (Variant c.in-Variant.of c.in-Variant.item) ≡ tr.variant c.in-Variant.of (view c.in-Variant.item.value) = search (rules, the_lemmas) in
    let v : view c.args.value.now ≡ tr.variant c.in-Variant.of (view c.deref-in-Variant-shape.result.now) = ap view c.in-Variant.is ∙ seen_as ∙ ap (λ x. tr.variant c.in-Variant.of (view x)) (sym c.deref-in-Variant-shape.ensures) in
    c.variant_length.ensures ∙ ap (option_map length) (sym (variant_is _ _ _ _ v (sym c.shape-in-Variant.ensures ∙ ap seen c.in-Variant-shape.is)))

pub length_of-returns-in_default-shape-4 : goal.length_of-returns-in_default-shape-4
length_of-returns-in_default-shape-4 t c =
    let seen_as : view (Variant c.in-Variant.of c.in-Variant.item) ≡ tr.variant c.in-Variant.of (view c.in-Variant.item.value) = search (rules, the_lemmas) in
    sym (ap (option_map length) (not_variant _ _ _ c.shape-in-Variant.result.now _ (ap view c.in-Variant.is ∙ seen_as) c.shape-in-Variant.ensures c.in_default-shape-4.not-Variant))

-- ---- array_length

pub array_length-returns-in_err-len : goal.array_length-returns-in_err-len
array_length-returns-in_err-len t c =
    let k = c.args.kind.now in
    let none : rows (views c.loop-item.left.now) k ≡ None = ap (λ x. rows (views x) k) c.in-Some.ensures.cases.0 ∙ rows_first_none (view c.in-Some.item.now) (views c.in-Some.rest.now) k (length_none _ c.in_err-len.ensures) in
    rw c.from_residual.ensures (spans_none k _ _ _ _ _ _ c.loop-item.invariant.kept none)

pub array_length-returns-in_err-end : goal.array_length-returns-in_err-end
array_length-returns-in_err-end t c =
    let k = c.args.kind.now in
    let q = length_some _ _ c.in_ok-len.ensures in
    let first = ap (λ x. rows (views x) k) c.in-Some.ensures.cases.0 ∙ rows_first (view c.in-Some.item.now) (views c.in-Some.rest.now) k q.0 q.1 in
    let over : None ≡ short (up (alignment k) c.loop-item.end + c.in_ok-len.len) = c.in_err-end.ensures ∙ ap (λ a. short (up a c.loop-item.end + c.in_ok-len.len)) c.align.ensures.value in
    rw c.from_residual-in_err-end.ensures (spans_long k _ _ _ _ _ _ _ q.0 c.loop-item.invariant.kept first q.2 over)

pub array_length-loop-item-preserved : goal.array_length-loop-item-preserved
array_length-loop-item-preserved t c =
    let k = c.args.kind.now in
    let q = length_some _ _ c.in_ok-len.ensures in
    let first = ap (λ x. rows (views x) k) c.in-Some.ensures.cases.0 ∙ rows_first (view c.in-Some.item.now) (views c.in-Some.rest.now) k q.0 q.1 in
    let end : c.in_ok-end.end ≡ up (alignment k) c.loop-item.end + c.in_ok-len.len = short_some _ _ (c.in_ok-end.ensures ∙ ap (λ a. short (up a c.loop-item.end + c.in_ok-len.len)) c.align.ensures.value) in
    let more : views c.loop-item.left.now ≡ tr.tree (view c.in-Some.item.now) (views c.in-Some.rest.now) = ap views c.in-Some.ensures.cases.0 in
    let one : length c.loop-item.left.now ≡ suc (length c.in-Some.rest.now) = ap length c.in-Some.ensures.cases.0 in
    let depth = ap nest more in
    let far = c.loop-item.invariant.deep in
    record {
      deep = omega arith;
      small = short_small _ _ c.in_ok-end.ensures;
      kept = spans_next k _ _ _ _ _ _ _ _ _ _ q.0 c.loop-item.invariant.kept first one q.2 end;
    }

pub array_length-returns-then-is_some : goal.array_length-returns-then-is_some
array_length-returns-then-is_some t c =
    let k = c.args.kind.now in
    let none : c.loop-item.left.now ≡ [] = nil_from_length _ c.in_default.ensures.cases in
    let f : is_some (fixed k) ≡ true = sym (still_some (fixed k)) ∙ ap is_some (sym c.size.ensures) ∙ sym c.if-is_some.ensures in
    ap (λ b. array_span b c.loop-item.end (length c.args.items.now)) (sym f)
    ∙ spans_end k _ _ _ _ _ c.loop-item.invariant.kept (ap (λ x. rows (views x) k) none ∙ rows_nil k) (ap length none) c.loop-item.invariant.small

pub array_length-returns-else-is_some : goal.array_length-returns-else-is_some
array_length-returns-else-is_some t c =
    let k = c.args.kind.now in
    let none : c.loop-item.left.now ≡ [] = nil_from_length _ c.in_default.ensures.cases in
    let f : is_some (fixed k) ≡ false = sym (still_some (fixed k)) ∙ ap is_some (sym c.size.ensures) ∙ sym c.if-is_some.ensures in
    c.with_offsets.ensures ∙ ap (λ b. array_span b c.loop-item.end (length c.args.items.now)) (sym f)
    ∙ spans_end k _ _ _ _ _ c.loop-item.invariant.kept (ap (λ x. rows (views x) k) none ∙ rows_nil k) (ap length none) c.loop-item.invariant.small

-- ---- members_length

pub members_length-returns-in_default-next_member : goal.members_length-returns-in_default-next_member
members_length-returns-in_default-next_member t c =
    let ks = c.in-Some.kinds_rest.now ++ c.in-Some.more_kinds_rest.now in
    let none : members (views (c.loop-kind.items_left.now ++ c.loop-kind.more_items_left.now)) (kinds_of (c.loop-kind.kinds_left.now ++ c.loop-kind.more_kinds_left.now)) ≡ None =
    ap₂ (λ xs ks. members (views xs) (kinds_of ks)) c.in_default-next_member.ensures c.in-Some.ensures ∙ members_short c.in-Some.kind.now (kinds_of ks) in
    cell_spans_none _ _ _ _ _ c.loop-kind.invariant.kept none

pub members_length-returns-in_err-len : goal.members_length-returns-in_err-len
members_length-returns-in_err-len t c =
    let vs = c.in-Some-next_member.items_rest.now ++ c.in-Some-next_member.more_items_rest.now in
    let ks = c.in-Some.kinds_rest.now ++ c.in-Some.more_kinds_rest.now in
    let none : members (views (c.loop-kind.items_left.now ++ c.loop-kind.more_items_left.now)) (kinds_of (c.loop-kind.kinds_left.now ++ c.loop-kind.more_kinds_left.now)) ≡ None =
    ap₂ (λ xs ks. members (views xs) (kinds_of ks)) c.in-Some-next_member.ensures c.in-Some.ensures
    ∙ members_first_none (view c.in-Some-next_member.item.now) (views vs) c.in-Some.kind.now (kinds_of ks) (length_none _ c.in_err-len.ensures) in
    rw c.from_residual.ensures (cell_spans_none _ _ _ _ _ c.loop-kind.invariant.kept none)

pub members_length-returns-in_err-end : goal.members_length-returns-in_err-end
members_length-returns-in_err-end t c =
    let vs = c.in-Some-next_member.items_rest.now ++ c.in-Some-next_member.more_items_rest.now in
    let k = c.in-Some.kind.now in
    let ks = c.in-Some.kinds_rest.now ++ c.in-Some.more_kinds_rest.now in
    let q = length_some _ _ c.in_ok-len.ensures in
    let first : members (views (c.loop-kind.items_left.now ++ c.loop-kind.more_items_left.now)) (kinds_of (c.loop-kind.kinds_left.now ++ c.loop-kind.more_kinds_left.now)) ≡ with_first (part k q.0) (members (views vs) (kinds_of ks)) =
    ap₂ (λ xs ks. members (views xs) (kinds_of ks)) c.in-Some-next_member.ensures c.in-Some.ensures ∙ members_first (view c.in-Some-next_member.item.now) (views vs) k (kinds_of ks) q.0 q.1 in
    let over : None ≡ short (up (alignment k) c.loop-kind.end + c.in_ok-len.len) = c.in_err-end.ensures ∙ ap (λ a. short (up a c.loop-kind.end + c.in_ok-len.len)) c.align.ensures.value in
    rw c.from_residual-in_err-end.ensures (cell_spans_long _ _ _ _ (part k q.0) _ _ _ c.loop-kind.invariant.kept first q.2 over)

pub members_length-loop-kind-preserved : goal.members_length-loop-kind-preserved
members_length-loop-kind-preserved t c =
    let vs = c.in-Some-next_member.items_rest.now ++ c.in-Some-next_member.more_items_rest.now in
    let k = c.in-Some.kind.now in
    let ks = c.in-Some.kinds_rest.now ++ c.in-Some.more_kinds_rest.now in
    let last = eqb (length ks) 0 in
    let f = is_some (fixed k) in
    let q = length_some _ _ c.in_ok-len.ensures in
    let total = members (views (c.args.items.now ++ c.args.more_items.now)) (kinds_of (c.args.kinds.now ++ c.args.more_kinds.now)) in
    let left = members (views (c.loop-kind.items_left.now ++ c.loop-kind.more_items_left.now)) (kinds_of (c.loop-kind.kinds_left.now ++ c.loop-kind.more_kinds_left.now)) in
    let head : eqb (length (c.loop-kind.kinds_left.now ++ c.loop-kind.more_kinds_left.now)) 0 ≡ false = ap (λ x. eqb (length x) 0) c.in-Some.ensures ∙ longer (length ks) in
    let inv : CellSpans c.loop-kind.end c.loop-kind.count false left total = subst (λ b. CellSpans c.loop-kind.end c.loop-kind.count b left total) head c.loop-kind.invariant.kept in
    let first : left ≡ with_first (part k q.0) (members (views vs) (kinds_of ks)) =
    ap₂ (λ xs ks. members (views xs) (kinds_of ks)) c.in-Some-next_member.ensures c.in-Some.ensures ∙ members_first (view c.in-Some-next_member.item.now) (views vs) k (kinds_of ks) q.0 q.1 in
    let end : c.in_ok-end.end ≡ up (alignment k) c.loop-kind.end + c.in_ok-len.len = short_some _ _ (c.in_ok-end.ensures ∙ ap (λ a. short (up a c.loop-kind.end + c.in_ok-len.len)) c.align.ensures.value) in
    let known : c.is_known.result ≡ (f || last) = c.is_known.ensures ∙ ap (λ b. f || b) c.is_end-in-Some.ensures in
    let counted : c.offsets_of-count.result ≡ cond (f || last) 0 1 = c.offsets_of-count.ensures ∙ ap (λ b. cond b 0 1) known in
    let small = offset_small (f || last) in
    let one : length (c.loop-kind.kinds_left.now ++ c.loop-kind.more_kinds_left.now) ≡ suc (length ks) = ap length c.in-Some.ensures in
    let depth = ap (λ xs. nest (views xs)) c.in-Some-next_member.ensures in
    let far = c.loop-kind.invariant.deep in
    let rm = c.loop-kind.invariant.room in
    record {
      deep = omega arith;
      room = omega arith;
      kept = cell_spans_next last f _ _ _ _ _ (part k q.0) left _ total inv first refl q.2 end (ap (λ x. c.loop-kind.count + x) counted);
    }

pub members_length-returns-then-not-is_end : goal.members_length-returns-then-not-is_end
members_length-returns-then-not-is_end t c =
    let vs = c.loop-kind.items_left.now ++ c.loop-kind.more_items_left.now in
    let none : members (views vs) (kinds_of (c.loop-kind.kinds_left.now ++ c.loop-kind.more_kinds_left.now)) ≡ None =
    ap (λ ks. members (views vs) (kinds_of ks)) c.in_default.ensures ∙ left_over vs (sym c.if-not-is_end.ensures) in
    cell_spans_none _ _ _ _ _ c.loop-kind.invariant.kept none

pub members_length-returns-then-is_some : goal.members_length-returns-then-is_some
members_length-returns-then-is_some t c =
    let vs = c.loop-kind.items_left.now ++ c.loop-kind.more_items_left.now in
    let kl = c.loop-kind.kinds_left.now ++ c.loop-kind.more_kinds_left.now in
    let ks = c.args.kinds.now ++ c.args.more_kinds.now in
    let ts = views (c.args.items.now ++ c.args.more_items.now) in
    let end = c.loop-kind.end in
    let count = c.loop-kind.count in
    let left = members (views vs) (kinds_of kl) in
    let total = members ts (kinds_of ks) in
    let at_end : eqb (length kl) 0 ≡ true = ap (λ x. eqb (length x) 0) c.in_default.ensures in
    let inv : CellSpans end count true left total = subst (λ b. CellSpans end count b left total) at_end c.loop-kind.invariant.kept in
    let nil : left ≡ Some [] = ap (λ ks. members (views vs) (kinds_of ks)) c.in_default.ensures ∙ none_over vs (sym c.if-not-is_end.ensures) in
    let f : is_some (fixed (tuple (kinds_of ks))) ≡ true = ap is_some (sym c.requires.size) ∙ sym (still_some (fixed c.args.whole.now)) ∙ ap is_some (sym c.size.ensures) ∙ sym c.if-is_some.ensures in
    let a : c.align-then-is_some.result ≡ alignment (tuple (kinds_of ks)) = c.align-then-is_some.ensures.value ∙ c.requires.align in
    c.end_behind-then-is_some.ensures ∙ ap (λ a. short (up a end + 0)) a ∙ ap (λ b. tuple_span b (alignment (tuple (kinds_of ks))) end count) (sym f) ∙ cell_spans_end_of ks ts end count left inv (sym c.if-is_end.ensures) nil

pub members_length-returns-else-is_some : goal.members_length-returns-else-is_some
members_length-returns-else-is_some t c =
    let vs = c.loop-kind.items_left.now ++ c.loop-kind.more_items_left.now in
    let kl = c.loop-kind.kinds_left.now ++ c.loop-kind.more_kinds_left.now in
    let ks = c.args.kinds.now ++ c.args.more_kinds.now in
    let ts = views (c.args.items.now ++ c.args.more_items.now) in
    let end = c.loop-kind.end in
    let count = c.loop-kind.count in
    let left = members (views vs) (kinds_of kl) in
    let total = members ts (kinds_of ks) in
    let at_end : eqb (length kl) 0 ≡ true = ap (λ x. eqb (length x) 0) c.in_default.ensures in
    let inv : CellSpans end count true left total = subst (λ b. CellSpans end count b left total) at_end c.loop-kind.invariant.kept in
    let nil : left ≡ Some [] = ap (λ ks. members (views vs) (kinds_of ks)) c.in_default.ensures ∙ none_over vs (sym c.if-not-is_end.ensures) in
    let f : is_some (fixed (tuple (kinds_of ks))) ≡ false = ap is_some (sym c.requires.size) ∙ sym (still_some (fixed c.args.whole.now)) ∙ ap is_some (sym c.size.ensures) ∙ sym c.if-is_some.ensures in
    c.with_offsets.ensures ∙ ap (λ b. tuple_span b (alignment (tuple (kinds_of ks))) end count) (sym f) ∙ cell_spans_end_of ks ts end count left inv (sym c.if-is_end.ensures) nil

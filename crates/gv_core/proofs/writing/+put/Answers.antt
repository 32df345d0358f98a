use Rattle.std.proofs.Common.{◌≡◌, ℕ, ◌+◌, ◌-◌, ◌*◌, ◌<◌, suc, max, eqb, true, false, cond, List, [], ◌∷◌, ◌++◌, length, Some, None, refl, sym, ap, ap₂, subst, ◌∙◌, append_assoc, arith, rules, replicate}
use Rattle.std.specs.Prelude.{option_and_then, ◌||◌}
use Rattle.std.specs.Option.{is_some}
use Rattle.std.proofs.lemmas.List.{nil_from_length, append-nil}
use Rattle.gv_core.specs.declared.value.Value.{Array, Tuple, Entry, Maybe, Variant, the_lemmas}
use Rattle.gv_core.specs.Kind.{array, tuple, maybe, entry, kind, basic, no_kinds}
use Rattle.gv_core.specs.Tree.{view, trees_of}
use Rattle.gv_core.specs.Tree as tr
use Rattle.gv_core.specs.Node.{seen, kinds_of}
use Rattle.gv_core.specs.Measure.{fixed, gap, alignment}
use Rattle.gv_core.specs.Layout.{layout, nests, nest, body, parts, part, sized, array_of, tuple_of, rows, members}
use Rattle.gv_core.specs.Gives.{views, Puts, with_table, with_table_back, padded_to}
use Rattle.gv_core.proofs.Nodes.{entry_alignment, entry_fixed}
use Rattle.gv_core.proofs.Pushing.{rows_next, rows_first, rows_first_none, rows_nil, rows_end, with_first, total_none, ends_fix, put_array_is, tuple_is, entry_is, nothing_is, just_is, variant_is, not_array, not_tuple, not_entry, not_maybe, not_variant, puts_true, puts_false, still_some}
use Rattle.gv_core.proofs.Cells.{Cells, cells_next, cells_end_of, members_first, members_first_none, members_short, left_over, none_over}
use Rattle.gv_core.proofs.Steps.{longer}
use Rattle.gv_core.proofs.writing.+put.Goals as goal

-- ---- put

pub put-put_members-requires-in-Entry-shape : goal.put-put_members-requires-in-Entry-shape
put-put_members-requires-in-Entry-shape t c =
    let x = c.in-Entry-shape.basic in
    let k = c.deref-in-Entry-shape-3.result.now in
    let pair : kinds_of (c.from_ref-in-Entry-shape-2.result.now ++ c.from_ref-in-Entry-shape-3.result.now) ≡ kind (basic x) (kind k no_kinds) =
    ap₂ (λ a b. kinds_of (a ++ b)) c.from_ref-in-Entry-shape-2.ensures.value c.from_ref-in-Entry-shape-3.ensures.value ∙ ap (λ b. kind b (kind k no_kinds)) c.basic-basic.ensures in
    let whole : c.args.kind.now ≡ entry x k = sym c.shape-in-Entry.ensures ∙ ap seen c.in-Entry-shape.is ∙ ap (entry x) (sym c.deref-in-Entry-shape-3.ensures) in
    let a = c.in-Entry.key.value in
    let b = c.in-Entry.item.value in
    let items : views (c.from_ref.result.now ++ c.from_ref-in-Entry-shape.result.now) ≡ tr.tree (view a) (tr.tree (view b) tr.no_trees) =
    ap₂ (λ x y. views (x ++ y)) (c.from_ref.ensures.value ∙ ap (λ z. z ∷ []) c.deref-in-Entry-shape.ensures) (c.from_ref-in-Entry-shape.ensures.value ∙ ap (λ z. z ∷ []) c.deref-in-Entry-shape-2.ensures) in
    let seen_as : view (Entry c.in-Entry.key c.in-Entry.item) ≡ tr.entry (view a) (view b) = search (rules, the_lemmas) in
    let deep : nests (view c.args.value.now) ≡ suc (max (nests (view a)) (nests (view b))) = ap nests (ap view c.in-Entry.is ∙ seen_as) in
    let flat : nest (views (c.from_ref.result.now ++ c.from_ref-in-Entry-shape.result.now)) ≡ max (nests (view a)) (max (nests (view b)) 0) = ap nest items in
    let less : 2 * nest (views (c.from_ref.result.now ++ c.from_ref-in-Entry-shape.result.now)) + 1 < 2 * nests (view c.args.value.now) = omega arith in
    (search rules, (ap alignment whole ∙ entry_alignment x k ∙ ap (λ ks. alignment (tuple ks)) (sym pair), ap fixed whole ∙ entry_fixed x k ∙ ap (λ ks. fixed (tuple ks)) (sym pair)))

pub put-returns-in-Array-shape : goal.put-returns-in-Array-shape
put-returns-in-Array-shape t c =
    let seen_as : view (Array c.in-Array.items) ≡ tr.array (views c.in-Array.items.items) = search (rules, the_lemmas) in
    let v : view c.args.value.now ≡ tr.array (views c.deref.result.now) = ap view c.in-Array.is ∙ seen_as ∙ ap (λ xs. tr.array (views xs)) (sym c.deref.ensures.value) in
    let k : c.args.kind.now ≡ array c.deref-in-Array-shape.result.now = sym c.shape.ensures ∙ ap seen c.in-Array-shape.is ∙ ap array (sym c.deref-in-Array-shape.ensures) in
    subst (Puts c.args.out.now.items c.put_array.new.out.items c.put_array.result) (sym (put_array_is _ _ _ _ v k)) c.put_array.ensures

pub put-returns-in_default : goal.put-returns-in_default
put-returns-in_default t c =
    let seen_as : view (Array c.in-Array.items) ≡ tr.array (views c.in-Array.items.items) = search (rules, the_lemmas) in
    not_array _ _ c.shape.result.now _ (ap view c.in-Array.is ∙ seen_as) c.shape.ensures c.in_default.not-Array

pub put-returns-in-Tuple-shape : goal.put-returns-in-Tuple-shape
put-returns-in-Tuple-shape t c =
    let vs = c.deref-in-Tuple-shape.result.now in
    let ks = c.deref-in-Tuple-shape-2.result.now in
    let seen_as : view (Tuple c.in-Tuple.items) ≡ tr.tuple (views c.in-Tuple.items.items) = search (rules, the_lemmas) in
    let v : view c.args.value.now ≡ tr.tuple (views (vs ++ [])) = ap view c.in-Tuple.is ∙ seen_as ∙ ap (λ xs. tr.tuple (views xs)) (sym c.deref-in-Tuple-shape.ensures.value ∙ sym (append-nil vs)) in
    let k : c.args.kind.now ≡ tuple (kinds_of (ks ++ [])) = sym c.shape-in-Tuple.ensures ∙ ap seen c.in-Tuple-shape.is ∙ ap (λ xs. tuple (kinds_of xs)) (sym c.deref-in-Tuple-shape-2.ensures.value ∙ sym (append-nil ks)) in
    subst (Puts c.args.out.now.items c.put_members.new.out.items c.put_members.result) (sym (tuple_is _ _ _ _ v k)) c.put_members.ensures

pub put-returns-in_default-shape : goal.put-returns-in_default-shape
put-returns-in_default-shape t c =
    let seen_as : view (Tuple c.in-Tuple.items) ≡ tr.tuple (views c.in-Tuple.items.items) = search (rules, the_lemmas) in
    not_tuple _ _ c.shape-in-Tuple.result.now _ (ap view c.in-Tuple.is ∙ seen_as) c.shape-in-Tuple.ensures c.in_default-shape.not-Tuple

pub put-returns-in-Entry-shape : goal.put-returns-in-Entry-shape
put-returns-in-Entry-shape t c =
    let x = c.in-Entry-shape.basic in
    let k = c.deref-in-Entry-shape-3.result.now in
    let a = c.in-Entry.key.value in
    let b = c.in-Entry.item.value in
    let pair : kinds_of (c.from_ref-in-Entry-shape-2.result.now ++ c.from_ref-in-Entry-shape-3.result.now) ≡ kind (basic x) (kind k no_kinds) =
    ap₂ (λ a b. kinds_of (a ++ b)) c.from_ref-in-Entry-shape-2.ensures.value c.from_ref-in-Entry-shape-3.ensures.value ∙ ap (λ b. kind b (kind k no_kinds)) c.basic-basic.ensures in
    let whole : c.args.kind.now ≡ entry x k = sym c.shape-in-Entry.ensures ∙ ap seen c.in-Entry-shape.is ∙ ap (entry x) (sym c.deref-in-Entry-shape-3.ensures) in
    let items : views (c.from_ref.result.now ++ c.from_ref-in-Entry-shape.result.now) ≡ tr.tree (view a) (tr.tree (view b) tr.no_trees) =
    ap₂ (λ x y. views (x ++ y)) (c.from_ref.ensures.value ∙ ap (λ z. z ∷ []) c.deref-in-Entry-shape.ensures) (c.from_ref-in-Entry-shape.ensures.value ∙ ap (λ z. z ∷ []) c.deref-in-Entry-shape-2.ensures) in
    let seen_as : view (Entry c.in-Entry.key c.in-Entry.item) ≡ tr.entry (view a) (view b) = search (rules, the_lemmas) in
    let is : layout (view c.args.value.now) c.args.kind.now ≡ option_and_then tuple_of (members (views (c.from_ref.result.now ++ c.from_ref-in-Entry-shape.result.now)) (kinds_of (c.from_ref-in-Entry-shape-2.result.now ++ c.from_ref-in-Entry-shape-3.result.now))) =
    entry_is _ _ _ _ _ _ (ap view c.in-Entry.is ∙ seen_as) whole ∙ ap₂ (λ ts ks. option_and_then tuple_of (members ts ks)) (sym items) (sym pair) in
    subst (Puts c.args.out.now.items c.put_members-in-Entry-shape.new.out.items c.put_members-in-Entry-shape.result) (sym is) c.put_members-in-Entry-shape.ensures

pub put-returns-in_default-shape-2 : goal.put-returns-in_default-shape-2
put-returns-in_default-shape-2 t c =
    let seen_as : view (Entry c.in-Entry.key c.in-Entry.item) ≡ tr.entry (view c.in-Entry.key.value) (view c.in-Entry.item.value) = search (rules, the_lemmas) in
    not_entry _ _ _ c.shape-in-Entry.result.now _ (ap view c.in-Entry.is ∙ seen_as) c.shape-in-Entry.ensures c.in_default-shape-2.not-Entry

pub put-returns-in-None : goal.put-returns-in-None
put-returns-in-None t c =
    let seen_as : view (Maybe None) ≡ tr.nothing = search (rules, the_lemmas) in
    let v : view c.args.value.now ≡ tr.nothing = ap view c.in-Maybe.is ∙ ap (λ o. view (Maybe o)) c.in-None.is ∙ seen_as in
    let k : c.args.kind.now ≡ maybe c.in-Maybe-shape.of.value = sym c.shape-in-Maybe.ensures ∙ ap seen c.in-Maybe-shape.is in
    ([], nothing_is _ _ _ v k, sym (append-nil c.args.out.now.items))

pub put-returns-in-Some : goal.put-returns-in-Some
put-returns-in-Some t c =
    let item = c.in-Some.item in
    let seen_as : view (Maybe (Some item)) ≡ tr.just (view item.value) = search (rules, the_lemmas) in
    let v : view c.args.value.now ≡ tr.just (view c.deref-in-Some.result.now) = ap view c.in-Maybe.is ∙ ap (λ o. view (Maybe o)) c.in-Some.is ∙ seen_as ∙ ap (λ x. tr.just (view x)) (sym c.deref-in-Some.ensures) in
    let k : c.args.kind.now ≡ maybe c.deref-in-Some-2.result.now = sym c.shape-in-Maybe.ensures ∙ ap seen c.in-Maybe-shape.is ∙ ap maybe (sym c.deref-in-Some-2.ensures) in
    subst (Puts c.args.out.now.items c.put_just.new.out.items c.put_just.result) (sym (just_is _ _ _ _ v k)) c.put_just.ensures

pub put-returns-in_default-shape-3 : goal.put-returns-in_default-shape-3
put-returns-in_default-shape-3 t c =
    ap (λ v. layout v c.args.kind.now) (ap view c.in-Maybe.is) ∙ not_maybe c.in-Maybe.content c.shape-in-Maybe.result.now _ c.shape-in-Maybe.ensures c.in_default-shape-3.not-Maybe

pub put-returns-in-Variant-shape : goal.put-returns-in-Variant-shape
put-returns-in-Variant-shape t c =
    let seen_as : view (Variant c.in-Variant.of c.in-Variant.item) ≡ tr.variant c.in-Variant.of (view c.in-Variant.item.value) = search (rules, the_lemmas) in
    let v : view c.args.value.now ≡ tr.variant c.in-Variant.of (view c.deref-in-Variant-shape.result.now) = ap view c.in-Variant.is ∙ seen_as ∙ ap (λ x. tr.variant c.in-Variant.of (view x)) (sym c.deref-in-Variant-shape.ensures) in
    subst (Puts c.args.out.now.items c.put_variant.new.out.items c.put_variant.result) (sym (variant_is _ _ _ _ v (sym c.shape-in-Variant.ensures ∙ ap seen c.in-Variant-shape.is))) c.put_variant.ensures

pub put-returns-in_default-shape-4 : goal.put-returns-in_default-shape-4
put-returns-in_default-shape-4 t c =
    let seen_as : view (Variant c.in-Variant.of c.in-Variant.item) ≡ tr.variant c.in-Variant.of (view c.in-Variant.item.value) = search (rules, the_lemmas) in
    not_variant _ _ _ c.shape-in-Variant.result.now _ (ap view c.in-Variant.is ∙ seen_as) c.shape-in-Variant.ensures c.in_default-shape-4.not-Variant

-- ---- put_array

pub put_array-returns-then-not-branch : goal.put_array-returns-then-not-branch
put_array-returns-then-not-branch t c =
    let k = c.args.kind.now in
    let more : views c.loop-item.left.now ≡ tr.tree (view c.in-Some.item.now) (views c.in-Some.rest.now) = ap views c.in-Some.ensures.cases.0 in
    let bad : c.in_ok-put.field-0 ≡ false = search rules in
    let none : rows (views c.loop-item.left.now) k ≡ None = ap (λ ts. rows ts k) more ∙ rows_first_none _ _ k (puts_false c.in_ok-put.field-0 _ _ _ bad c.in_ok-put.ensures) in
    ap (option_and_then (array_of k)) (total_none c.loop-item.invariant.kept.done _ _ c.loop-item.invariant.kept.total_is none)

pub put_array-loop-item-preserved : goal.put_array-loop-item-preserved
put_array-loop-item-preserved t c =
    let k = c.args.kind.now in
    let more : views c.loop-item.left.now ≡ tr.tree (view c.in-Some.item.now) (views c.in-Some.rest.now) = ap views c.in-Some.ensures.cases.0 in
    let f = is_some (fixed k) in
    let inv = c.loop-item.invariant.kept in
    let good : c.in_ok-put.field-0 ≡ true = search rules in
    let q = puts_true c.in_ok-put.field-0 _ _ _ good c.in_ok-put.ensures in
    let first = ap (λ ts. rows ts k) more ∙ rows_first _ _ k q.0 q.1 in
    let out = c.loop-item.out.items in
    let old = c.args.out.now.items in
    let start : c.len-start.result ≡ length old = search rules in
    let zs : List ℕ = replicate (gap (alignment k) (length out - length old)) 0 in
    let padding : c.pad.new.out.items ≡ out ++ zs = c.in_ok-pad.ensures ∙ ap₂ (λ a s. out ++ replicate (gap a (length out - s)) 0) c.align.ensures.value start in
    let grown : c.put.new.out.items ≡ out ++ (zs ++ q.0) = q.2 ∙ ap (λ x. x ++ q.0) padding ∙ append_assoc out zs q.0 in
    let fixed_is : c.is_some-fixed.result ≡ f = c.is_some-fixed.ensures ∙ ap is_some c.size.ensures ∙ still_some (fixed k) in
    let length_is : c.len.result ≡ length c.put.new.out.items = search rules in
    let ending = c.loop-item.ends.items in
    let noted : c.note_end.new.ends.items ≡ cond f ending (ending ++ (length c.put.new.out.items - length old) ∷ []) =
    c.in_ok-note_end.ensures ∙ ap₂ (λ b m. cond b ending (ending ++ m ∷ [])) fixed_is (ap₂ (λ x y. x - y) length_is start) in
    let depth = ap nest more in
    let far = c.loop-item.invariant.deep in
    record {
      deep = omega arith;
      kept = rows_next _ _ _ _ _ _ _ _ _ _ _ inv first grown (ends_fix f ending _ _ _ inv.ends_are noted);
    }

pub put_array-returns : goal.put_array-returns
put_array-returns t c =
    let none : c.loop-item.left.now ≡ [] = nil_from_length _ c.in_default.ensures.cases in
    let k = c.args.kind.now in
    let f = is_some (fixed k) in
    let laid = option_and_then (array_of k) (rows (views c.args.items.now) k) in
    let inv = c.loop-item.invariant.kept in
    let start : length c.args.out.now.items ≡ c.len-start.result = search rules in
    let fixed_is : c.is_some-fixed.result ≡ f = c.is_some-fixed.ensures ∙ ap is_some c.size.ensures ∙ still_some (fixed k) in
    let elements = body 0 (parts (alignment k) f inv.done) in
    let done = c.finish_array.ensures c.args.out.now.items elements inv.out_is start in
    let is : cond c.is_some-fixed.result (sized elements) (with_table elements c.deref.result.now) ≡ laid =
    ap₂ (λ b es. cond b (sized elements) (with_table elements es)) fixed_is c.deref.ensures.value ∙ rows_end k _ _ _ _ _ inv (ap (λ x. rows (views x) k) none ∙ rows_nil k) in
    subst (Puts c.args.out.now.items c.finish_array.new.out.items c.finish_array.result) is done

-- ---- put_members

pub put_members-returns-in_default-next_member : goal.put_members-returns-in_default-next_member
put_members-returns-in_default-next_member t c =
    let ks = c.in-Some.kinds_rest.now ++ c.in-Some.more_kinds_rest.now in
    let none : members (views (c.loop-kind.items_left.now ++ c.loop-kind.more_items_left.now)) (kinds_of (c.loop-kind.kinds_left.now ++ c.loop-kind.more_kinds_left.now)) ≡ None =
    ap₂ (λ xs ks. members (views xs) (kinds_of ks)) c.in_default-next_member.ensures c.in-Some.ensures ∙ members_short c.in-Some.kind.now (kinds_of ks) in
    ap (option_and_then tuple_of) (total_none c.loop-kind.invariant.kept.done _ _ c.loop-kind.invariant.kept.total_is none)

pub put_members-returns-then-not-branch : goal.put_members-returns-then-not-branch
put_members-returns-then-not-branch t c =
    let vs = c.in-Some-next_member.items_rest.now ++ c.in-Some-next_member.more_items_rest.now in
    let ks = c.in-Some.kinds_rest.now ++ c.in-Some.more_kinds_rest.now in
    let bad : c.in_ok-put.field-0 ≡ false = search rules in
    let none : members (views (c.loop-kind.items_left.now ++ c.loop-kind.more_items_left.now)) (kinds_of (c.loop-kind.kinds_left.now ++ c.loop-kind.more_kinds_left.now)) ≡ None =
    ap₂ (λ xs ks. members (views xs) (kinds_of ks)) c.in-Some-next_member.ensures c.in-Some.ensures
    ∙ members_first_none (view c.in-Some-next_member.item.now) (views vs) c.in-Some.kind.now (kinds_of ks) (puts_false c.in_ok-put.field-0 _ _ _ bad c.in_ok-put.ensures) in
    ap (option_and_then tuple_of) (total_none c.loop-kind.invariant.kept.done _ _ c.loop-kind.invariant.kept.total_is none)

pub put_members-loop-kind-preserved : goal.put_members-loop-kind-preserved
put_members-loop-kind-preserved t c =
    let v = c.in-Some-next_member.item.now in
    let vs = c.in-Some-next_member.items_rest.now ++ c.in-Some-next_member.more_items_rest.now in
    let k = c.in-Some.kind.now in
    let ks = c.in-Some.kinds_rest.now ++ c.in-Some.more_kinds_rest.now in
    let last = eqb (length ks) 0 in
    let f = is_some (fixed k) in
    let old = c.args.out.now.items in
    let out = c.loop-kind.out.items in
    let ending = c.loop-kind.ends.items in
    let total = members (views (c.args.items.now ++ c.args.more_items.now)) (kinds_of (c.args.kinds.now ++ c.args.more_kinds.now)) in
    let left = members (views (c.loop-kind.items_left.now ++ c.loop-kind.more_items_left.now)) (kinds_of (c.loop-kind.kinds_left.now ++ c.loop-kind.more_kinds_left.now)) in
    let head : eqb (length (c.loop-kind.kinds_left.now ++ c.loop-kind.more_kinds_left.now)) 0 ≡ false = ap (λ x. eqb (length x) 0) c.in-Some.ensures ∙ longer (length ks) in
    let inv : Cells old out ending false left total = subst (λ b. Cells old out ending b left total) head c.loop-kind.invariant.kept in
    let good : c.in_ok-put.field-0 ≡ true = search rules in
    let q = puts_true c.in_ok-put.field-0 _ _ _ good c.in_ok-put.ensures in
    let first : left ≡ with_first (part k q.0) (members (views vs) (kinds_of ks)) =
    ap₂ (λ xs ks. members (views xs) (kinds_of ks)) c.in-Some-next_member.ensures c.in-Some.ensures ∙ members_first (view v) (views vs) k (kinds_of ks) q.0 q.1 in
    let start : c.len-start.result ≡ length old = search rules in
    let zs : List ℕ = replicate (gap (alignment k) (length out - length old)) 0 in
    let padding : c.pad.new.out.items ≡ out ++ zs = c.in_ok-pad.ensures ∙ ap₂ (λ a s. out ++ replicate (gap a (length out - s)) 0) c.align.ensures.value start in
    let grown : c.put.new.out.items ≡ out ++ (zs ++ q.0) = q.2 ∙ ap (λ x. x ++ q.0) padding ∙ append_assoc out zs q.0 in
    let known : c.is_known-known.result ≡ (f || last) = c.is_known-known.ensures ∙ ap (λ b. f || b) c.is_end-in-Some.ensures in
    let length_is : c.len.result ≡ length c.put.new.out.items = search rules in
    let noted : c.note_end.new.ends.items ≡ cond (f || last) ending (ending ++ (length c.put.new.out.items - length old) ∷ []) =
    c.in_ok-note_end.ensures ∙ ap₂ (λ b m. cond b ending (ending ++ m ∷ [])) known (ap₂ (λ x y. x - y) length_is start) in
    let depth = ap (λ xs. nest (views xs)) c.in-Some-next_member.ensures in
    let far = c.loop-kind.invariant.deep in
    record {
      deep = omega arith;
      kept = cells_next last f old out _ ending _ (part k q.0) left _ total inv first refl grown noted;
    }

pub put_members-returns-then-not-is_end : goal.put_members-returns-then-not-is_end
put_members-returns-then-not-is_end t c =
    let vs = c.loop-kind.items_left.now ++ c.loop-kind.more_items_left.now in
    let none : members (views vs) (kinds_of (c.loop-kind.kinds_left.now ++ c.loop-kind.more_kinds_left.now)) ≡ None =
    ap (λ ks. members (views vs) (kinds_of ks)) c.in_default.ensures ∙ left_over vs (sym c.if-not-is_end.ensures) in
    ap (option_and_then tuple_of) (total_none c.loop-kind.invariant.kept.done _ _ c.loop-kind.invariant.kept.total_is none)

pub put_members-returns : goal.put_members-returns
put_members-returns t c =
    let vs = c.loop-kind.items_left.now ++ c.loop-kind.more_items_left.now in
    let kl = c.loop-kind.kinds_left.now ++ c.loop-kind.more_kinds_left.now in
    let ks = c.args.kinds.now ++ c.args.more_kinds.now in
    let ts = views (c.args.items.now ++ c.args.more_items.now) in
    let old = c.args.out.now.items in
    let out = c.loop-kind.out.items in
    let ending = c.loop-kind.ends.items in
    let left = members (views vs) (kinds_of kl) in
    let total = members ts (kinds_of ks) in
    let end : eqb (length kl) 0 ≡ true = ap (λ x. eqb (length x) 0) c.in_default.ensures in
    let inv : Cells old out ending true left total = subst (λ b. Cells old out ending b left total) end c.loop-kind.invariant.kept in
    let nil : left ≡ Some [] = ap (λ ks. members (views vs) (kinds_of ks)) c.in_default.ensures ∙ none_over vs (sym c.if-not-is_end.ensures) in
    let start : length old ≡ c.len-start.result = search rules in
    let bytes = body 0 inv.done in
    let done = c.finish_tuple.ensures old bytes inv.out_is start in
    let fixed_is : c.is_some.result ≡ is_some (fixed (tuple (kinds_of ks))) = c.is_some.ensures ∙ ap is_some c.size.ensures ∙ still_some (fixed c.args.whole.now) ∙ ap is_some c.requires.size in
    let align_is : c.align-2.result ≡ alignment (tuple (kinds_of ks)) = c.align-2.ensures.value ∙ c.requires.align in
    let is : cond c.is_some.result (sized (padded_to c.align-2.result bytes)) (with_table_back bytes c.deref.result.now) ≡ option_and_then tuple_of total =
    ap₂ (λ a es. cond c.is_some.result (sized (padded_to a bytes)) (with_table_back bytes es)) align_is c.deref.ensures.value
    ∙ ap (λ b. cond b (sized (padded_to (alignment (tuple (kinds_of ks))) bytes)) (with_table_back bytes ending)) fixed_is
    ∙ cells_end_of ks ts old out ending left inv (sym c.if-is_end.ensures) nil in
    subst (Puts old c.finish_tuple.new.out.items c.finish_tuple.result) is done

use Rattle.std.proofs.Common.{◌≡◌, ℕ, ◌+◌, ◌-◌, ◌<◌, true, false, cond, eqb, List, [], ◌∷◌, ◌++◌, length, replicate, get_or, drop, map, Some, None, refl, sym, ap, ap₂, subst, ◌∙◌, append_assoc, arith, rules, Bor}
use Rattle.std.specs.Prelude.{option_and_then, ◌||◌}
use Rattle.std.specs.Option.{is_some}
use Rattle.gv_core.specs.Kind.{tuple}
use Rattle.gv_core.specs.Node.{kinds_of}
use Rattle.gv_core.specs.Measure.{fixed, gap, alignment}
use Rattle.gv_core.specs.Layout.{body, part, sized, tuple_of}
use Rattle.gv_core.specs.Gives.{Puts, with_table_back, padded_to}
use Rattle.gv_core.specs.Container.{each_part}
use Rattle.gv_core.proofs.Pushing.{with_first, total_none, still_some}
use Rattle.gv_core.proofs.Cells.{Cells, cells_next}
use Rattle.gv_core.proofs.Steps.{longer}
use Rattle.gv_core.proofs.Raws.{step_at, at_end, parts_first, parts_end}
use Rattle.gv_core.proofs.container.join_members.Goals as goal

pub loop-kind-preserved : goal.loop-kind-preserved
loop-kind-preserved c =
    let ms = c.args.members.now in
    let d : Bor (List ℕ) = record { ref_ptr = (0, 0); now = [] } in
    let at = c.loop-kind.at in
    let r = (get_or ms at d).now in
    let k = c.in-Some.kind.now in
    let ks = c.in-Some.kinds_rest.now ++ c.in-Some.more_kinds_rest.now in
    let last = eqb (length ks) 0 in
    let f = is_some (fixed k) in
    let old = c.args.out.now.items in
    let out = c.loop-kind.out.items in
    let ending = c.loop-kind.ends.items in
    let total = each_part (kinds_of (c.args.kinds.now ++ c.args.more_kinds.now)) (map (λ b. b.now) ms) in
    let left = each_part (kinds_of (c.loop-kind.kinds_left.now ++ c.loop-kind.more_kinds_left.now)) (map (λ b. b.now) (drop at ms)) in
    let head : eqb (length (c.loop-kind.kinds_left.now ++ c.loop-kind.more_kinds_left.now)) 0 ≡ false = ap (λ x. eqb (length x) 0) c.in-Some.ensures ∙ longer (length ks) in
    let inv : Cells old out ending false left total = subst (λ b. Cells old out ending b left total) head c.loop-kind.invariant.kept in
    let rm = c.loop-kind.invariant.room in
    let some = c.if-at-members.false in
    let lt : at < length ms = omega arith in
    let first : left ≡ with_first (part k r) (each_part (kinds_of ks) (map (λ b. b.now) (drop (at + 1) ms))) =
    ap₂ (λ ks rs. each_part (kinds_of ks) rs) c.in-Some.ensures (step_at ms at d lt) ∙ parts_first k (kinds_of ks) r (map (λ b. b.now) (drop (at + 1) ms)) (sym c.if-not-is_sized.ensures) in
    let start : c.len-start.result ≡ length old = search rules in
    let zs : List ℕ = replicate (gap (alignment k) (length out - length old)) 0 in
    let padding : c.pad.new.out.items ≡ out ++ zs = c.in_ok-pad.ensures ∙ ap₂ (λ a s. out ++ replicate (gap a (length out - s)) 0) c.align.ensures.value start in
    let grown : c.extend_from_slice.new.self.items ≡ out ++ (zs ++ r) = c.in_ok-extend_from_slice.ensures.items ∙ ap (λ x. x ++ r) padding ∙ append_assoc out zs r in
    let known : c.is_known-known.result ≡ (f || last) = c.is_known-known.ensures ∙ ap (λ b. f || b) c.is_end-in-Some.ensures in
    let length_is : c.len.result ≡ length c.extend_from_slice.new.self.items = search rules in
    let noted : c.note_end.new.ends.items ≡ cond (f || last) ending (ending ++ (length c.extend_from_slice.new.self.items - length old) ∷ []) =
    c.in_ok-note_end.ensures ∙ ap₂ (λ b m. cond b ending (ending ++ m ∷ [])) known (ap₂ (λ x y. x - y) length_is start) in
    record {
      room = omega arith;
      kept = cells_next last f old out _ ending _ (part k r) left _ total inv first refl grown noted;
    }

pub returns-then-at-members-2 : goal.returns-then-at-members-2
returns-then-at-members-2 c =
    let ms = c.args.members.now in
    let d : Bor (List ℕ) = record { ref_ptr = (0, 0); now = [] } in
    let none : each_part (kinds_of (c.loop-kind.kinds_left.now ++ c.loop-kind.more_kinds_left.now)) (map (λ b. b.now) (drop c.loop-kind.at ms)) ≡ None =
    ap₂ (λ ks rs. each_part (kinds_of ks) rs) c.in_default.ensures (step_at ms c.loop-kind.at d c.if-at-members-2.true) in
    ap (option_and_then tuple_of) (total_none c.loop-kind.invariant.kept.done _ _ c.loop-kind.invariant.kept.total_is none)

pub returns : goal.returns
returns c =
    let ms = c.args.members.now in
    let kl = c.loop-kind.kinds_left.now ++ c.loop-kind.more_kinds_left.now in
    let ks = c.args.kinds.now ++ c.args.more_kinds.now in
    let rs = map (λ b. b.now) ms in
    let old = c.args.out.now.items in
    let out = c.loop-kind.out.items in
    let ending = c.loop-kind.ends.items in
    let left = each_part (kinds_of kl) (map (λ b. b.now) (drop c.loop-kind.at ms)) in
    let total = each_part (kinds_of ks) rs in
    let end : eqb (length kl) 0 ≡ true = ap (λ x. eqb (length x) 0) c.in_default.ensures in
    let inv : Cells old out ending true left total = subst (λ b. Cells old out ending b left total) end c.loop-kind.invariant.kept in
    let nil : left ≡ Some [] = ap₂ (λ ks rs. each_part (kinds_of ks) rs) c.in_default.ensures (at_end ms c.loop-kind.at c.if-at-members-2.false) in
    let start : length old ≡ c.len-start.result = search rules in
    let bytes = body 0 inv.done in
    let done = c.finish_tuple.ensures old bytes inv.out_is start in
    let fixed_is : c.is_some.result ≡ is_some (fixed (tuple (kinds_of ks))) = c.is_some.ensures ∙ ap is_some c.size.ensures ∙ still_some (fixed c.args.whole.now) ∙ ap is_some c.requires.size in
    let align_is : c.align-2.result ≡ alignment (tuple (kinds_of ks)) = c.align-2.ensures.value ∙ c.requires.align in
    let is : cond c.is_some.result (sized (padded_to c.align-2.result bytes)) (with_table_back bytes c.deref.result.now) ≡ option_and_then tuple_of total =
    ap₂ (λ a es. cond c.is_some.result (sized (padded_to a bytes)) (with_table_back bytes es)) align_is c.deref.ensures.value
    ∙ ap (λ b. cond b (sized (padded_to (alignment (tuple (kinds_of ks))) bytes)) (with_table_back bytes ending)) fixed_is
    ∙ parts_end ks rs old out ending left inv (sym c.if-is_end.ensures) nil in
    subst (Puts old c.finish_tuple.new.out.items c.finish_tuple.result) is done

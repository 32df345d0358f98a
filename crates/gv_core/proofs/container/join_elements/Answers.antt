use Rattle.std.proofs.Common.{◌≡◌, ℕ, ◌+◌, ◌-◌, cond, List, [], ◌∷◌, ◌++◌, length, replicate, get_or, drop, map, None, sym, ap, ap₂, subst, ◌∙◌, append_assoc, arith, rules, Bor}
use Rattle.std.specs.Prelude.{option_and_then}
use Rattle.std.specs.Option.{is_some}
use Rattle.gv_core.specs.Measure.{fixed, gap, alignment}
use Rattle.gv_core.specs.Layout.{body, parts, sized, array_of}
use Rattle.gv_core.specs.Gives.{Puts, with_table}
use Rattle.gv_core.specs.Container.{container}
use Rattle.gv_core.specs.Kind.{array}
use Rattle.gv_core.proofs.Pushing.{rows_next, rows_end, total_none, ends_fix, still_some}
use Rattle.gv_core.proofs.Raws.{checked, checked_array, checked_first, checked_bad, step_at, at_end}
use Rattle.gv_core.proofs.container.join_elements.Goals as goal

pub returns-then-not-is_sized : goal.returns-then-not-is_sized
returns-then-not-is_sized c =
    let k = c.args.kind.now in
    let ms = c.args.members.now in
    let d : Bor (List ℕ) = record { ref_ptr = (0, 0); now = [] } in
    let none : checked (fixed k) (map (λ b. b.now) (drop c.loop-at.at ms)) ≡ None =
    ap (checked (fixed k)) (step_at ms c.loop-at.at d c.loop-at-test.true) ∙ checked_bad (fixed k) _ _ (sym c.if-not-is_sized.ensures) in
    sym (checked_array k (map (λ b. b.now) ms)) ∙ ap (option_and_then (array_of k)) (total_none c.loop-at.invariant.kept.done _ _ c.loop-at.invariant.kept.total_is none)

pub loop-at-preserved : goal.loop-at-preserved
loop-at-preserved c =
    let k = c.args.kind.now in
    let ms = c.args.members.now in
    let d : Bor (List ℕ) = record { ref_ptr = (0, 0); now = [] } in
    let r = (get_or ms c.loop-at.at d).now in
    let f = is_some (fixed k) in
    let inv = c.loop-at.invariant.kept in
    let first = ap (checked (fixed k)) (step_at ms c.loop-at.at d c.loop-at-test.true) ∙ checked_first (fixed k) r (map (λ b. b.now) (drop (c.loop-at.at + 1) ms)) (sym c.if-not-is_sized.ensures) in
    let out = c.loop-at.out.items in
    let old = c.args.out.now.items in
    let start : c.len-start.result ≡ length old = search rules in
    let zs : List ℕ = replicate (gap (alignment k) (length out - length old)) 0 in
    let padding : c.pad.new.out.items ≡ out ++ zs = c.in_ok-pad.ensures ∙ ap₂ (λ a s. out ++ replicate (gap a (length out - s)) 0) c.align.ensures.value start in
    let grown : c.extend_from_slice.new.self.items ≡ out ++ (zs ++ r) = c.in_ok-extend_from_slice.ensures.items ∙ ap (λ x. x ++ r) padding ∙ append_assoc out zs r in
    let fixed_is : c.is_some-fixed.result ≡ f = c.is_some-fixed.ensures ∙ ap is_some c.size.ensures ∙ still_some (fixed k) in
    let length_is : c.len.result ≡ length c.extend_from_slice.new.self.items = search rules in
    let ending = c.loop-at.ends.items in
    let noted : c.note_end.new.ends.items ≡ cond f ending (ending ++ (length c.extend_from_slice.new.self.items - length old) ∷ []) =
    c.in_ok-note_end.ensures ∙ ap₂ (λ b m. cond b ending (ending ++ m ∷ [])) fixed_is (ap₂ (λ x y. x - y) length_is start) in
    record {
      room = omega arith;
      kept = rows_next _ _ _ _ _ _ _ _ _ _ r inv first grown (ends_fix f ending _ _ _ inv.ends_are noted);
    }

pub returns : goal.returns
returns c =
    let k = c.args.kind.now in
    let ms = c.args.members.now in
    let f = is_some (fixed k) in
    let inv = c.loop-at.invariant.kept in
    let start : length c.args.out.now.items ≡ c.len-start.result = search rules in
    let fixed_is : c.is_some-fixed.result ≡ f = c.is_some-fixed.ensures ∙ ap is_some c.size.ensures ∙ still_some (fixed k) in
    let elements = body 0 (parts (alignment k) f inv.done) in
    let done = c.finish_array.ensures c.args.out.now.items elements inv.out_is start in
    let is : cond c.is_some-fixed.result (sized elements) (with_table elements c.deref.result.now) ≡ container (array k) (map (λ b. b.now) ms) =
    ap₂ (λ b es. cond b (sized elements) (with_table elements es)) fixed_is c.deref.ensures.value
    ∙ rows_end k _ _ _ _ _ inv (ap (checked (fixed k)) (at_end ms c.loop-at.at c.loop-at-test.false)) ∙ checked_array k (map (λ b. b.now) ms) in
    subst (Puts c.args.out.now.items c.finish_array.new.out.items c.finish_array.result) is done

use Rattle.std.proofs.Common.{◌≡◌, ◌≤◌, ◌<◌, ◌-◌, ◌∙◌, length, ℕ, arith, ap, get_or}
use Rattle.ost_types.specs.Flat.{flat}
use Rattle.memory_table.proofs.Splitting.{parts_len, no_zero_behind, zero_before, folder_text, is_zero, not_zero}
use Rattle.memory_table.proofs.parts.folder_of.Goals as goal

pub returns-then-is_empty-clause-value : goal.returns-then-is_empty-clause-value
returns-then-is_empty-clause-value c = λ f x names is. let l = parts_len _ f x names is in let z = is_zero _ _ c.is_empty.ensures c.if-is_empty.true in absurd (omega (arith, l, z))

pub loop-end-init : goal.loop-end-init
loop-end-init c = record {
  low = let n = not_zero _ _ c.is_empty.ensures c.if-is_empty.false in omega (arith, n);
  behind = λ f x names is. let l = parts_len _ f x names is in omega (arith, l);
}

pub returns-then-text-end-eq0-clause-value : goal.returns-then-text-end-eq0-clause-value
returns-then-text-end-eq0-clause-value c = λ f x names is.
    let e = c.loop-end.end in
    let low = c.loop-end.invariant.low in
    let b = c.loop-end.invariant.behind f x names is in
    let l = parts_len _ f x names is in
    folder_text _ f x names is e (only e (length (flat f)) b (λ more. no_zero_behind _ f x names is (e - 1) (omega (arith, more)) (omega (arith, low, more)) c.if-text-end-eq0.true))
  where
    only : (a b : ℕ) → b ≤ a → (b < a → ⊥) → a ≡ b
    only a b le no_more = grind arith

pub loop-end-preserved : goal.loop-end-preserved
loop-end-preserved c = record {
  low = let l = c.loop-end.invariant.low in omega (arith, l);
  behind = λ f x names is.
      let b = c.loop-end.invariant.behind f x names is in
      less c.loop-end.end (length (flat f)) b c.loop-end-test.true (λ some at. c.if-text-end-eq0.false (ap (λ k. get_or c.args.text.now (k - 1) 0) at ∙ zero_before _ f x names is some));
}
  where
    less : (e n : ℕ) → n ≤ e → 0 < e → (0 < n → e ≡ n → ⊥) → n ≤ e - 1
    less e n le pos no_more = grind arith

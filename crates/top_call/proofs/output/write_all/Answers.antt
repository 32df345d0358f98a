use Rattle.std.proofs.Common.{◌≡◌, ◌+◌, ◌-◌, ℕ, List, ◌++◌, length, take, drop, Option, Some, sym, ◌∙◌, ap, append_assoc, length-drop, arith}
use Rattle.std.proofs.Math.Seq.{take-add}
use Rattle.std.proofs.lemmas.Slice.{between_to_end}
use Rattle.top_call.proofs.output.write_all.Goals as goal

-- a front, and a front of what is left, are one front
longer : (at n : ℕ) (bytes : List ℕ) → take at bytes ++ take n (drop at bytes) ≡ take (at + n) bytes
longer at n bytes = sym (take-add at n bytes)

goes_on : (had : List ℕ) (at n : ℕ) (bytes : List ℕ) (taken : Option (List ℕ)) → taken ≡ Some ((had ++ take at bytes) ++ take n (take (length bytes - at) (drop at bytes))) → taken ≡ Some (had ++ take (at + n) bytes)
goes_on had at n bytes taken e =
    e ∙ ap (λ t. Some ((had ++ take at bytes) ++ take n t)) (between_to_end bytes at (length bytes) (omega arith)) ∙ ap Some (append_assoc had (take at bytes) (take n (drop at bytes)) ∙ ap (λ t. had ++ t) (longer at n bytes))

pub returns-then-taken-eq0-clause-front : goal.returns-then-taken-eq0-clause-front
returns-then-taken-eq0-clause-front g c = λ had told.
    let now = c.in_ok-taken.ensures.effect _ (c.loop-at.invariant.taken had told) in
    (c.loop-at.at + c.in_ok-taken.taken, omega (arith, c.in_ok-taken.ensures.bound, length-drop c.loop-at.at c.args.bytes.now, c.loop-at.invariant.within), goes_on had c.loop-at.at c.in_ok-taken.taken c.args.bytes.now _ now)

pub loop-at-preserved : goal.loop-at-preserved
loop-at-preserved g c = record {
  within = omega (arith, c.in_ok-taken.ensures.bound, length-drop c.loop-at.at c.args.bytes.now, c.loop-at.invariant.within);
  taken = λ had told. goes_on had c.loop-at.at c.in_ok-taken.taken c.args.bytes.now _ (c.in_ok-taken.ensures.effect _ (c.loop-at.invariant.taken had told));
  later = omega (arith, c.in_ok-taken.ensures.later, c.loop-at.invariant.later);
}

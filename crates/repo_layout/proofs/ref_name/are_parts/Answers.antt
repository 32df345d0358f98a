use Rattle.std.proofs.Common.{◌≡◌, ◌==◌, ◌<◌, ℕ, Bool, true, false, IsTrue, List, [], length, rules, tests, refl, arith}
use Rattle.std.specs.List.{HoldsAt, AllWithin, All}
use Rattle.std.specs.Bool.{MatchBool}
use Rattle.std.proofs.lemmas.Iterator.{cases_from_all}
use Rattle.std.proofs.lemmas.Iterator.Splits.{YieldsList-from_slice_split}
use Rattle.repo_layout.specs.RefName.{IsPart, parts_of}
use Rattle.repo_layout.proofs.ref_name.are_parts.Goals as goal

tells : (r : Bool) (parts : List (List ℕ))
    → MatchBool r (AllWithin IsPart parts 0 (length parts)) ((k : ℕ) × (k < length parts) × HoldsAt (λ x. ¬ (IsPart x)) parts k)
    → (IsTrue r → All IsPart parts) × (All IsPart parts → IsTrue r)
tells true parts all = (λ t k d lt. all k d (omega arith) lt, λ a. refl)
tells false parts some = (λ t. let n : false ≡ true = t in cc, λ a. absurd (some.2 [] (a some.0 [] some.1)))

pub returns : goal.returns
returns c =
    tells c.all.result (parts_of c.args.text.now) (cases_from_all _ _ _ IsPart (λ x. ¬ (IsPart x)) c.all.ensures.ran (YieldsList-from_slice_split _ (λ b. b == 47) c.args.text.now c.split.ensures.rest c.split.ensures.done c.split.ensures.closure (λ x b q k. search (rules, tests))) (λ x q k. search (rules, tests)) (λ x q k. search (rules, tests)))

-- The status where each command was answered.
use Rattle.std.proofs.Common.{◌≡◌, ◌⊎◌, inl, inr, ℕ, suc, List, [], ◌∷◌, false, Option, Some, None, refl, ap, arith}
use Rattle.std.specs.Prelude.{max}
use Rattle.script.specs.declared.answer.Answer.{Answer}
use Rattle.script.specs.declared.answer.Answer.TheVariants as answer
use Rattle.script.specs.declared.answer.Reply.{Reply}
use Rattle.commands.specs.Faults.{IsOutside}
use Rattle.commands.specs.Lanes.{IsReplyTo}
use Rattle.lane_system.specs.Lanes.{IsAt}
use Rattle.top_call.specs.declared.fault.TopFault.{TopFault}
use Rattle.top_call.specs.declared.fault.TopFault.TheVariants.{NoMemory}
use Rattle.top_call.specs.Status.{answer_status, fault_status, lane_status, replies_status, status_of}

-- done, refused, or without memory
abbrev IsSmall : ℕ → Type 0
IsSmall n = (n ≡ 0) ⊎ (n ≡ 1) ⊎ (n ≡ 3)

answer_small : (a : Answer) → ¬ (IsOutside a) → IsSmall (answer_status a)
answer_small answer.Nothing inside = inl refl
answer_small (answer.Refs rows) inside = inl refl
answer_small (answer.Status rows) inside = inl refl
answer_small (answer.Commit sum) inside = inl refl
answer_small (answer.Log rows) inside = inl refl
answer_small (answer.Ls rows) inside = inl refl
answer_small (answer.Content bytes) inside = inl refl
answer_small (answer.Pruned kept removed) inside = inl refl
answer_small answer.NoMemory inside = inr (inr refl)
answer_small (answer.Outside path) inside = absurd (inside tt)
answer_small answer.DiskFault inside = inl refl
answer_small (answer.Halted n) inside = inl refl
answer_small answer.NoRef inside = inr (inl refl)
answer_small (answer.NoCommit sum) inside = inr (inl refl)
answer_small (answer.Partial sum) inside = inr (inl refl)
answer_small (answer.NoPath path) inside = inr (inl refl)
answer_small (answer.NotFile path) inside = inr (inl refl)
answer_small (answer.DestExists path) inside = inr (inl refl)
answer_small (answer.RefMoved seen now) inside = inr (inl refl)
answer_small (answer.RefClash name) inside = inr (inl refl)
answer_small (answer.BadTree path) inside = inr (inl refl)
answer_small (answer.TooMany many) inside = inr (inl refl)

max_small : (m n : ℕ) → IsSmall m → IsSmall n → IsSmall (max m n)
max_small m n (inl x) (inl y) = inl (omega (arith, x, y))
max_small m n (inl x) (inr (inl y)) = inr (inl (omega (arith, x, y)))
max_small m n (inl x) (inr (inr y)) = inr (inr (omega (arith, x, y)))
max_small m n (inr (inl x)) (inl y) = inr (inl (omega (arith, x, y)))
max_small m n (inr (inl x)) (inr (inl y)) = inr (inl (omega (arith, x, y)))
max_small m n (inr (inl x)) (inr (inr y)) = inr (inr (omega (arith, x, y)))
max_small m n (inr (inr x)) (inl y) = inr (inr (omega (arith, x, y)))
max_small m n (inr (inr x)) (inr (inl y)) = inr (inr (omega (arith, x, y)))
max_small m n (inr (inr x)) (inr (inr y)) = inr (inr (omega (arith, x, y)))

lane_small : (replies : List Reply) → ((number : ℕ) (r : Reply) → IsAt replies number r → ¬ (IsOutside r.answer)) → IsSmall (lane_status replies)
lane_small [] inside = inl refl
lane_small (r ∷ rest) inside = max_small (answer_status r.answer) (lane_status rest) (answer_small r.answer (inside 0 r (omega arith, refl))) (lane_small rest (λ n q at. inside (suc n) q (omega (arith, at.0), at.1)))

pub replies_small : (lanes : List (List Reply)) → ((lane number : ℕ) (r : Reply) → IsReplyTo lanes lane number r → ¬ (IsOutside r.answer)) → IsSmall (replies_status lanes)
replies_small [] inside = inl refl
replies_small (x ∷ rest) inside = max_small (lane_status x) (replies_status rest) (lane_small x (λ n r at. inside 0 n r at)) (replies_small rest (λ l n r to. inside (suc l) n r to))

-- where no count rose
pub status_small : (fault : Option TopFault) (lanes : List (List Reply)) → (fault ≡ None) ⊎ (fault ≡ Some NoMemory) → IsSmall (replies_status lanes) → IsSmall (status_of fault lanes false false false)
unfolding status_of
status_small fault lanes (inl none) small = max_small 0 _ (inl refl) (max_small (fault_status fault) (replies_status lanes) (inl (ap fault_status none)) small)
status_small fault lanes (inr memory) small = max_small 0 _ (inl refl) (max_small (fault_status fault) (replies_status lanes) (inr (inr (ap fault_status memory))) small)

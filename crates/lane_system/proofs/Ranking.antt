-- How far an act brings its lane, and that rounds end.
use Rattle.std.proofs.Common.{◌≡◌, ◌≢◌, ◌<◌, ◌≤◌, ◌+◌, ◌-◌, ℕ, zero, suc, refl, sym, ◌∙◌, ap, subst, arith, List, [], ◌∷◌, length, set, None}
use Rattle.command.specs.Doing.{Doing, most}
use Rattle.lane_system.specs.declared.lane.Lane.{Lane}
use Rattle.lane_system.specs.Lanes.{IsAt}
use Rattle.lane_system.specs.Ranks.{at_lane, left_of, rank_by, rank_of, to_come, total, work_left}

-- the number of a lane that was set, and that of another
pub at_lane_here : {X : Type 0} (g : X → ℕ) (xs : List X) (i : ℕ) (x : X) → IsAt xs i x → at_lane g xs i ≡ g x
at_lane_here g [] i x at = absurd (omega (arith, at.0))
at_lane_here g (y ∷ xs) zero x at = ap g at.1
at_lane_here g (y ∷ xs) (suc i) x at = at_lane_here g xs i x (omega (arith, at.0), at.1)

pub at_lane_set : {X : Type 0} (g : X → ℕ) (xs : List X) (i : ℕ) (x : X) → i < length xs → at_lane g (set xs i x) i ≡ g x
at_lane_set g [] i x lt = absurd (omega (arith, lt))
at_lane_set g (y ∷ xs) zero x lt = refl
at_lane_set g (y ∷ xs) (suc i) x lt = at_lane_set g xs i x (omega (arith, lt))

pub at_lane_apart : {X : Type 0} (g : X → ℕ) (xs : List X) (i k : ℕ) (x : X) → k ≢ i → at_lane g (set xs i x) k ≡ at_lane g xs k
at_lane_apart g [] i k x ne = refl
at_lane_apart g (y ∷ xs) zero zero x ne = absurd (ne refl)
at_lane_apart g (y ∷ xs) zero (suc k) x ne = refl
at_lane_apart g (y ∷ xs) (suc i) zero x ne = refl
at_lane_apart g (y ∷ xs) (suc i) (suc k) x ne = at_lane_apart g xs i k x (λ e. ne (ap suc e))

pub at_lane_past : {X : Type 0} (g : X → ℕ) (xs : List X) (i : ℕ) → length xs ≤ i → at_lane g xs i ≡ 0
at_lane_past g [] i le = refl
at_lane_past g (y ∷ xs) zero le = absurd (omega (arith, le))
at_lane_past g (y ∷ xs) (suc i) le = at_lane_past g xs i (omega (arith, le))

-- the sum with another lane
total_set : {X : Type 0} (g : X → ℕ) (xs : List X) (i : ℕ) (x y : X) → IsAt xs i x → total g (set xs i y) + g x ≡ total g xs + g y
total_set g [] i x y at = absurd (omega (arith, at.0))
total_set g (z ∷ xs) zero x y at = omega (arith, ap g at.1)
total_set g (z ∷ xs) (suc i) x y at = let e = total_set g xs i x y (omega (arith, at.0), at.1) in omega (arith, e)

pub total_less : {X : Type 0} (g : X → ℕ) (xs : List X) (i : ℕ) (x y : X) → IsAt xs i x → g y < g x → total g (set xs i y) < total g xs
total_less g xs i x y at less = omega (arith, total_set g xs i x y at, less)

-- a lane with a command to come
pub rank_some : (n left : ℕ) → 0 < n → rank_by n left ≡ left
rank_some zero left some = absurd (omega (arith, some))
rank_some (suc n) left some = refl

rank_few : (n left : ℕ) → left ≤ most → rank_by n left ≤ most
rank_few zero left few = omega arith
rank_few (suc n) left few = few

-- the number of a lane with commands to come, and of one without
pub rank_over : {T W A : Type 0} (d : Doing T W A) (lanes : List (Lane T W A)) (i : ℕ) (l : Lane T W A) → IsAt lanes i l → length l.words.items ≤ length l.replies.items → at_lane (rank_of d) lanes i ≡ 0
rank_over d lanes i l at most = at_lane_here (rank_of d) lanes i l at ∙ ap (λ n. rank_by n (left_of d l.task)) none
  where
    none : to_come l ≡ 0
    none = omega (arith, most)

pub rank_next : {T W A : Type 0} (d : Doing T W A) (lanes : List (Lane T W A)) (i : ℕ) (l : Lane T W A) → IsAt lanes i l → length l.replies.items < length l.words.items → at_lane (rank_of d) lanes i ≡ left_of d l.task
rank_next d lanes i l at few = at_lane_here (rank_of d) lanes i l at ∙ rank_some (to_come l) (left_of d l.task) (omega (arith, few))

module _ {T W A : Type 0} (d : Doing T W A) (l l' : Lane T W A) (words : l'.words ≡ l.words) (few : length l.replies.items < length l.words.items) where
  some : 0 < to_come l
  some = omega (arith, few)

  -- one that goes on has less to do
  module _ (replies : l'.replies ≡ l.replies) (less : left_of d l'.task < left_of d l.task) where
    pub come_same : to_come l' ≡ to_come l
    come_same = ap (λ x. length x.items - length l'.replies.items) words ∙ ap (λ x. length l.words.items - length x.items) replies

    pub rank_less : rank_of d l' < rank_of d l
    rank_less =
        let a : rank_of d l' ≡ left_of d l'.task = rank_some (to_come l') (left_of d l'.task) (subst (λ n. 0 < n) (sym come_same) some) in
        let b : rank_of d l ≡ left_of d l.task = rank_some (to_come l) (left_of d l.task) some in
        omega (arith, a, b, less)

    pub work_less : work_left d l' < work_left d l
    work_less = omega (arith, come_same, rank_less)

  -- and one that is done a command less
  module _ (task : l'.task ≡ None) (longer : length l'.replies.items ≡ length l.replies.items + 1) where
    pub come_less : to_come l' + 1 ≡ to_come l
    come_less = omega (arith, few, longer, ap (λ x. length x.items) words)

    pub rank_most : rank_of d l' ≤ most
    rank_most = rank_few (to_come l') (left_of d l'.task) (subst (λ o. left_of d o ≤ most) (sym task) (omega arith))

    pub work_over : work_left d l' < work_left d l
    work_over = omega (arith, come_less, rank_most)

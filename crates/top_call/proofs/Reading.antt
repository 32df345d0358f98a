-- What a loop over the pieces of an input has read.
use Rattle.std.proofs.Common.{◌≡◌, ◌≤◌, ◌+◌, ◌∙◌, ℕ, List, [], ◌++◌, length, take, drop, Option, Some, Result, Ok, Err, MatchResult, sym, ap, arith, true, false}
use Rattle.std.proofs.Math.Seq.{take-add}
use Rattle.std.proofs.lemmas.List.{take_all, drop_all, drop-drop, length-drop}
use Rattle.std.specs.Result.{IsErr}
use Rattle.top_call.specs.Input.{input_limit, IsRead, TakesMore, TookFront}

pub front_of : (all bytes : List ℕ) (left : Option (List ℕ)) → IsRead all bytes left → TookFront all left
front_of all bytes left is = record { count = input_limit; few = omega arith; rest = is.rest }

pub front_any : {E : Type 0} (all : List ℕ) (left : Option (List ℕ)) (r : Result (List ℕ) E) → MatchResult r (λ bytes. IsRead all bytes left) (λ e. TookFront all left) → TookFront all left
front_any all left (Ok bytes) is = front_of all bytes left is
front_any all left (Err e) is = is

-- so many bytes of the front were read
pub record ReadSoFar (all : List ℕ) (at : ℕ) (bytes : List ℕ) (left : Option (List ℕ)) : Type 0 where
  pub front : bytes ≡ take at all
  pub rest : left ≡ Some (drop at all)

pub so_far_start : (all bytes : List ℕ) (left : Option (List ℕ)) → bytes ≡ [] → left ≡ Some all → ReadSoFar all 0 bytes left
so_far_start all bytes left none told = record { front = none; rest = told }

pub so_far_more : (all : List ℕ) (at n : ℕ) (had bytes : List ℕ) (left : Option (List ℕ)) → had ≡ take at all → TakesMore (drop at all) had n bytes left → ReadSoFar all (at + n) bytes left
so_far_more all at n had bytes left so takes = record {
  front = takes.more ∙ ap (λ h. h ++ take n (drop at all)) so ∙ sym (take-add at n all);
  rest = takes.rest ∙ ap Some (drop-drop n at all);
}

pub so_far_front : (all : List ℕ) (at n room : ℕ) (left : Option (List ℕ)) → at + room ≤ input_limit → n ≤ room → left ≡ Some (drop n (drop at all)) → TookFront all left
so_far_front all at n room left few within rest = record { count = at + n; few = omega (arith, few, within); rest = rest ∙ ap Some (drop-drop n at all) }

-- the limit is reached
pub read_full : (all : List ℕ) (at : ℕ) (bytes : List ℕ) (left : Option (List ℕ)) → at ≡ input_limit → ReadSoFar all at bytes left → IsRead all bytes left
read_full all at bytes left full so = record { front = so.front ∙ ap (λ n. take n all) full; rest = so.rest ∙ ap (λ n. Some (drop n all)) full }

past : (all : List ℕ) (at : ℕ) → drop at all ≡ [] → length all ≤ at
past all at none = let l = ap length none in omega (arith, l, length-drop at all)

-- the end is reached
pub read_end : (all : List ℕ) (at : ℕ) (had bytes : List ℕ) (left : Option (List ℕ)) (n : ℕ) → at ≤ input_limit → had ≡ take at all → n ≡ 0 → TakesMore (drop at all) had n bytes left → IsRead all bytes left
read_end all at had bytes left n few so none takes =
    let end = past all at (takes.end none) in
    let more = so_far_more all at n had bytes left so takes in record {
      front = more.front ∙ take_all (at + n) all (omega (arith, end)) ∙ sym (take_all input_limit all (omega (arith, end, few)));
      rest = more.rest ∙ ap Some (drop_all (at + n) all (omega (arith, end)) ∙ sym (drop_all input_limit all (omega (arith, end, few))));
    }

pub of_err : {X E : Type 0} (P : X → Type 0) (Q : Type 0) (r : Result X E) → IsErr r → Q → MatchResult r P (λ e. Q)
of_err P Q (Ok x) err q = let n : false ≡ true = err in cc
of_err P Q (Err e) err q = q

pub shorter : {E : Type 0} (P : ℕ → Type 0) (R : ℕ → Type 0) (n m : ℕ) (r : Result ℕ E) → n ≤ m → MatchResult r P (λ e. (k : ℕ) × (k ≤ n) × R k) → MatchResult r P (λ e. (k : ℕ) × (k ≤ m) × R k)
shorter P R n m (Ok x) le is = is
shorter P R n m (Err e) le is = (is.0, omega (arith, is.1, le), is.2)

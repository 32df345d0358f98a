-- Offsets that were written are read again.
use Rattle.std.proofs.Common.{◌≡◌, ℕ, zero, suc, ◌+◌, ◌-◌, ◌*◌, ◌/◌, ◌^◌, ◌<◌, ◌≤◌, Bool, true, false, cond, ltb, List, [], ◌∷◌, ◌++◌, length, Option, Some, refl, sym, ap, subst, ◌∙◌, append_assoc, arith, replicate, inl, inr, ◌⊎◌}
use Rattle.std.proofs.Math.Nat.{pow-suc, mul-suc}
use Rattle.std.proofs.lemmas.Bool.{lt-ltb, le-ltb, ltb-true, ltb-false}
use Rattle.std.proofs.lemmas.List.{append-nil, take_at, drop_at, length-append, length-replicate}
use Rattle.gv_core.specs.Measure.{gap}
use Rattle.gv_core.specs.Layout.{Part, end_of, body, ends, le, table, table_back, offset_size}
use Rattle.gv_core.specs.Reading.{from_le, size_for, numbers, back_numbers, last_number}

pub from_le-le : (s n : ℕ) → n < 256 ^ s → from_le (le s n) ≡ n
from_le-le zero n lt = omega arith
from_le-le (suc s) n lt =
    let p = pow-suc 256 s in
    let ih = from_le-le s (n / 256) (omega arith) in
    rw ih (omega arith)

pub length-le : (s n : ℕ) → length (le s n) ≡ s
length-le zero n = refl
length-le (suc s) n = ap suc (length-le s (n / 256))

pub length-table : (s : ℕ) (es : List ℕ) → length (table s es) ≡ s * length es
length-table s [] = omega arith
length-table s (e ∷ es) = omega (arith, length-append (le s e) (table s es), length-le s e, length-table s es, mul-suc s (length es))

pub length-table_back : (s : ℕ) (es : List ℕ) → length (table_back s es) ≡ s * length es
length-table_back s [] = omega arith
length-table_back s (e ∷ es) = omega (arith, length-append (table_back s es) (le s e), length-le s e, length-table_back s es, mul-suc s (length es))

-- each offset fits
abbrev pub AllBelow : ℕ → List ℕ → Type 0
AllBelow limit [] = Unit {0}
AllBelow limit (e ∷ es) = (e < limit) × AllBelow limit es

pub numbers-table : (s : ℕ) (es : List ℕ) → AllBelow (256 ^ s) es → numbers s (length es) (table s es) ≡ es
numbers-table s [] fits = refl
numbers-table s (e ∷ es) fits = rw (take_at (le s e) (table s es) s (length-le s e), drop_at (le s e) (table s es) s (length-le s e), from_le-le s e fits.0, numbers-table s es fits.1) refl

pub last_written : (s n : ℕ) (bytes : List ℕ) → n < 256 ^ s → last_number s (bytes ++ le s n) ≡ n
last_written s n bytes lt =
    let k : length (bytes ++ le s n) - s ≡ length bytes = omega (arith, length-append bytes (le s n), length-le s n) in
    rw (k, drop_at bytes (le s n) (length bytes) refl) (from_le-le s n lt)

pub back_numbers-table_back : (s : ℕ) (es bytes : List ℕ) → AllBelow (256 ^ s) es → back_numbers s (length es) (bytes ++ table_back s es) ≡ es
back_numbers-table_back s [] bytes fits = refl
back_numbers-table_back s (e ∷ es) bytes fits =
    let b = bytes ++ table_back s es in
    let k : length (b ++ le s e) - s ≡ length b = omega (arith, length-append b (le s e), length-le s e) in
    let one : back_numbers s (suc (length es)) (b ++ le s e) ≡ e ∷ es = rw (k, drop_at b (le s e) (length b) refl, take_at b (le s e) (length b) refl, from_le-le s e fits.0, back_numbers-table_back s es bytes fits.1) refl in
    ap (back_numbers s (suc (length es))) (sym (append_assoc bytes (table_back s es) (le s e))) ∙ one

pub length-body : (n : ℕ) (p : Part) (ps : List Part) → n + length (body n (p ∷ ps)) ≡ end_of n p + length (body (end_of n p) ps)
length-body n p ps =
    let z : List ℕ = replicate (gap p.align n) 0 in
    let c : length z ≡ gap p.align n = length-replicate (gap p.align n) 0 in
    omega (arith, length-append z (p.bytes ++ body (end_of n p) ps), length-append p.bytes (body (end_of n p) ps))

pub ends_below : (n limit : ℕ) (ps : List Part) → n + length (body n ps) < limit → AllBelow limit (ends n ps)
ends_below n limit [] lt = tt
ends_below n limit (p ∷ ps) lt = let e = length-body n p ps in (omega arith, ends_below (end_of n p) limit ps (omega arith))

-- the last offset is where the members end
pub table_last : (s n : ℕ) (p : Part) (ps : List Part) → (x : List ℕ) × (table s (ends n (p ∷ ps)) ≡ x ++ le s (n + length (body n (p ∷ ps))))
table_last s n p [] =
    let e = length-body n p [] in
    let k : end_of n p ≡ n + length (body n (p ∷ [])) = omega arith in
    ([], append-nil (le s (end_of n p)) ∙ ap (le s) k)
table_last s n p (q ∷ ps) =
    let r = table_last s (end_of n p) q ps in
    let e = length-body n p (q ∷ ps) in
    (le s (end_of n p) ++ r.0, ap (λ (x : List ℕ). le s (end_of n p) ++ x) r.1 ∙ sym (append_assoc (le s (end_of n p)) r.0 _) ∙ ap (λ (k : ℕ). (le s (end_of n p) ++ r.0) ++ le s k) (sym e))

-- the size that was chosen is the one that a reader finds
pub record Chosen (s n m : ℕ) : Type 0 where
  pub found : size_for (n + s * m) ≡ s
  pub short : n + s * m < 256 ^ s
  pub positive : 0 < s
  pub whole : n + s * m < 2 ^ 64

chosen_if : {A : Type 0} (b : Bool) (x y : Option A) (z : A) → cond b x y ≡ Some z → ((b ≡ true) × (x ≡ Some z)) ⊎ ((b ≡ false) × (y ≡ Some z))
chosen_if true x y z e = inl (refl, e)
chosen_if false x y z e = inr (refl, e)

some_is : (x y : ℕ) → Some x ≡ Some y → x ≡ y
some_is x y e = cc

find1 : (n : ℕ) → n < 2 ^ 8 → size_for n ≡ 1
find1 n lt = rw (lt-ltb n (2 ^ 8) lt) refl

find2 : (n : ℕ) → 2 ^ 8 ≤ n → n < 2 ^ 16 → size_for n ≡ 2
find2 n le lt = rw (le-ltb n (2 ^ 8) le, lt-ltb n (2 ^ 16) lt) refl

find4 : (n : ℕ) → 2 ^ 16 ≤ n → n < 2 ^ 32 → size_for n ≡ 4
find4 n le lt = rw (le-ltb n (2 ^ 8) (omega arith), le-ltb n (2 ^ 16) le, lt-ltb n (2 ^ 32) lt) refl

find8 : (n : ℕ) → 2 ^ 32 ≤ n → size_for n ≡ 8
find8 n le = rw (le-ltb n (2 ^ 8) (omega arith), le-ltb n (2 ^ 16) (omega arith), le-ltb n (2 ^ 32) le) refl

pub offset_size_found : (n m s : ℕ) → offset_size n m ≡ Some s → Chosen s n m
unfolding offset_size
offset_size_found n m s e =
    elim (chosen_if (ltb (n + m) (2 ^ 8)) _ _ s e) [
      | inl a ↦
          let lt = ltb-true _ _ a.0 in
          subst (λ (k : ℕ). Chosen k n m) (some_is 1 s a.1) (record { found = find1 (n + 1 * m) (omega arith); short = omega arith; positive = omega arith; whole = omega arith })
      | inr a ↦ let ge = ltb-false _ _ a.0 in elim (chosen_if (ltb (n + 2 * m) (2 ^ 16)) _ _ s a.1) [
        | inl b ↦
            let lt = ltb-true _ _ b.0 in
            subst (λ (k : ℕ). Chosen k n m) (some_is 2 s b.1) (record { found = find2 (n + 2 * m) (omega arith) lt; short = omega arith; positive = omega arith; whole = omega arith })
        | inr b ↦ let ge2 = ltb-false _ _ b.0 in elim (chosen_if (ltb (n + 4 * m) (2 ^ 32)) _ _ s b.1) [
          | inl c ↦
              let lt = ltb-true _ _ c.0 in
              subst (λ (k : ℕ). Chosen k n m) (some_is 4 s c.1) (record { found = find4 (n + 4 * m) (omega arith) lt; short = omega arith; positive = omega arith; whole = omega arith })
          | inr c ↦ let ge4 = ltb-false _ _ c.0 in elim (chosen_if (ltb (n + 8 * m) (2 ^ 64)) _ _ s c.1) [
            | inl d ↦
                let lt = ltb-true _ _ d.0 in
                subst (λ (k : ℕ). Chosen k n m) (some_is 8 s d.1) (record { found = find8 (n + 8 * m) (omega arith); short = omega arith; positive = omega arith; whole = omega arith })
            | inr d ↦ absurd (let z = d.1 in cc)
          ]
        ]
      ]
    ]

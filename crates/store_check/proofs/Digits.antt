-- The texts of sums are in the order of the sums.
use Rattle.std.proofs.Common.{◌≡◌, ◌≤◌, ◌⊎◌, inl, inr, ℕ, zero, suc, ◌+◌, ◌/◌, ◌%◌, ◌<◌, Bool, true, cond, eqb, nat_lt, ◌&&◌, List, [], ◌∷◌, slice_index, refl, sym, ◌∙◌, ap, subst, arith}
use Rattle.std.proofs.lemmas.Bool.{and_parts, cases_lt, eqb-true}
use Rattle.std.specs.Cmp.Lexicographic.{slice_cmp}
use Rattle.std.specs.Ordering.{MatchOrdering, nat_cmp, ordering_then}
use Rattle.std.specs.declared.cmp.Ordering.{Ordering}
use Rattle.std.specs.declared.cmp.Ordering.TheVariants.{Less, Equal, Greater}
use Rattle.std.proofs.lemmas.Cmp.{ranked}
use Rattle.hex.specs.Hex.{IsBytes, encode_with, lower_digits}
use Rattle.ost_types.specs.Csum.{hex_of}

-- a digit's code
abbrev code_of : ℕ → ℕ
code_of d = cond (nat_lt d 10) (48 + d) (87 + d)

all_coded : ℕ → Bool
all_coded zero = true
all_coded (suc n) = eqb (slice_index lower_digits n) (code_of n) && all_coded n

coded_at : (n d : ℕ) → all_coded n ≡ true → d < n → slice_index lower_digits d ≡ code_of d
unfolding all_coded
coded_at zero d h less = absurd (omega (arith, less))
coded_at (suc n) d h less =
    let parts = and_parts (eqb (slice_index lower_digits n) (code_of n)) (all_coded n) h in
    elim (cases_lt d n) [
      | inl below ↦ coded_at n d parts.1 below
      | inr top ↦
          let e : d ≡ n = omega (arith, top, less) in
          rw e (eqb-true (slice_index lower_digits n) (code_of n) parts.0)
    ]

all_sixteen : all_coded 16 ≡ true
unfolding all_coded
all_sixteen = refl

code_less : (a b : ℕ) → a < b → code_of a < code_of b
code_less a b less = grind (arith, less)

-- digits ascend
digit_less : (a b : ℕ) → a < b → b < 16 → slice_index lower_digits a < slice_index lower_digits b
digit_less a b less small = rw (coded_at 16 a all_sixteen (omega (arith, less, small)), coded_at 16 b all_sixteen small) (code_less a b less)

pub less_cmp : (a b : ℕ) → a < b → nat_cmp a b ≡ Less
less_cmp a b less = by (nat_cmp a b) refl (ranked a b (nat_cmp a b) refl)
  where
    by : (o : Ordering) → nat_cmp a b ≡ o → MatchOrdering o (a < b) (a ≡ b) (b < a) → nat_cmp a b ≡ Less
    by Less is told = is
    by Equal is told = absurd (omega (arith, less, told))
    by Greater is told = absurd (omega (arith, less, told))

pub cmp_itself : (a : ℕ) → nat_cmp a a ≡ Equal
cmp_itself a = by (nat_cmp a a) refl (ranked a a (nat_cmp a a) refl)
  where
    by : (o : Ordering) → nat_cmp a a ≡ o → MatchOrdering o (a < a) (a ≡ a) (a < a) → nat_cmp a a ≡ Equal
    by Less is told = absurd (omega (arith, told))
    by Equal is told = is
    by Greater is told = absurd (omega (arith, told))

text_less : (x y : ℕ) (xs ys : List ℕ) → x < y → slice_cmp nat_cmp (x ∷ xs) (y ∷ ys) ≡ Less
text_less x y xs ys less = rw (less_cmp x y less) refl

text_next : (x : ℕ) (xs ys : List ℕ) → slice_cmp nat_cmp (x ∷ xs) (x ∷ ys) ≡ slice_cmp nat_cmp xs ys
text_next x xs ys = rw (cmp_itself x) refl

digits_less : (h i l m : ℕ) (xs ys : List ℕ) → (h < i) ⊎ ((h ≡ i) × (l < m)) → slice_cmp nat_cmp (h ∷ l ∷ xs) (i ∷ m ∷ ys) ≡ Less
digits_less h i l m xs ys (inl above) = text_less h i (l ∷ xs) (m ∷ ys) above
digits_less h i l m xs ys (inr below) = subst (λ z. slice_cmp nat_cmp (z ∷ l ∷ xs) (i ∷ m ∷ ys) ≡ Less) (sym below.0) (text_next i (l ∷ xs) (m ∷ ys) ∙ text_less l m xs ys below.1)

digits_next : (h l : ℕ) (xs ys : List ℕ) → slice_cmp nat_cmp (h ∷ l ∷ xs) (h ∷ l ∷ ys) ≡ slice_cmp nat_cmp xs ys
digits_next h l xs ys = text_next h (l ∷ xs) (l ∷ ys) ∙ text_next l xs ys

high : (x y : ℕ) → x < y → (x / 16 < y / 16) ⊎ ((x / 16 ≡ y / 16) × (x % 16 < y % 16))
high x y less = by (cases_lt (x / 16) (y / 16))
  where
    by : (x / 16 < y / 16) ⊎ (y / 16 ≤ x / 16) → (x / 16 < y / 16) ⊎ ((x / 16 ≡ y / 16) × (x % 16 < y % 16))
    by (inl above) = inl above
    by (inr back) = inr (omega (arith, less, back), omega (arith, less, back))

-- the digits of a lesser byte come first
byte_less : (x y : ℕ) (xs ys : List ℕ) → x < y → y < 256 → slice_cmp nat_cmp (hex_of (x ∷ xs)) (hex_of (y ∷ ys)) ≡ Less
unfolding encode_with
byte_less x y xs ys less small = digits_less (slice_index lower_digits (x / 16)) (slice_index lower_digits (y / 16)) (slice_index lower_digits (x % 16)) (slice_index lower_digits (y % 16)) (hex_of xs) (hex_of ys) (by (high x y less))
  where
    by : (x / 16 < y / 16) ⊎ ((x / 16 ≡ y / 16) × (x % 16 < y % 16)) → (slice_index lower_digits (x / 16) < slice_index lower_digits (y / 16)) ⊎ ((slice_index lower_digits (x / 16) ≡ slice_index lower_digits (y / 16)) × (slice_index lower_digits (x % 16) < slice_index lower_digits (y % 16)))
    by (inl above) = inl (digit_less (x / 16) (y / 16) above (omega (arith, small)))
    by (inr below) = inr (ap (λ d. slice_index lower_digits d) below.0, digit_less (x % 16) (y % 16) below.1 (omega arith))

byte_next : (x : ℕ) (xs ys : List ℕ) → slice_cmp nat_cmp (hex_of (x ∷ xs)) (hex_of (x ∷ ys)) ≡ slice_cmp nat_cmp (hex_of xs) (hex_of ys)
unfolding encode_with
byte_next x xs ys = digits_next (slice_index lower_digits (x / 16)) (slice_index lower_digits (x % 16)) (hex_of xs) (hex_of ys)

pub hex_less : (a b : List ℕ) → IsBytes b → slice_cmp nat_cmp a b ≡ Less → slice_cmp nat_cmp (hex_of a) (hex_of b) ≡ Less
unfolding encode_with
hex_less [] [] bytes e = e
hex_less [] (y ∷ ys) bytes e = refl
hex_less (x ∷ xs) [] bytes e = e
hex_less (x ∷ xs) (y ∷ ys) bytes e = by (λ rest. hex_less xs ys (λ k. bytes (suc k)) rest) (nat_cmp x y) (ranked x y (nat_cmp x y) refl) e
  where
    by : (slice_cmp nat_cmp xs ys ≡ Less → slice_cmp nat_cmp (hex_of xs) (hex_of ys) ≡ Less) → (o : Ordering) → MatchOrdering o (x < y) (x ≡ y) (y < x) → ordering_then o (slice_cmp nat_cmp xs ys) ≡ Less → slice_cmp nat_cmp (hex_of (x ∷ xs)) (hex_of (y ∷ ys)) ≡ Less
    by again Less less rest = byte_less x y xs ys less (bytes 0)
    by again Equal same rest = subst (λ z. slice_cmp nat_cmp (hex_of (z ∷ xs)) (hex_of (y ∷ ys)) ≡ Less) (sym same) (byte_next y xs ys ∙ again rest)
    by again Greater more rest = let n : Greater ≡ Less = rest in cc

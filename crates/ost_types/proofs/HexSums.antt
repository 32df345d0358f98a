-- What the text of a sum reads as, and the sum that a text has.
use Rattle.std.proofs.Common.{◌≡◌, inl, inr, ℕ, zero, suc, ◌+◌, ◌-◌, ◌*◌, ◌/◌, ◌%◌, ◌<◌, Bool, true, cond, eqb, nat_lt, ◌&&◌, List, [], ◌∷◌, length, slice_index, Some, Ok, All, refl, sym, ◌∙◌, ap, arith}
use Rattle.std.specs.Result.{result_unwrap_or}
use Rattle.std.proofs.lemmas.Bool.{and_parts, cases_lt, eqb-true}
use Rattle.std.proofs.lemmas.List.Elements.{All-cons, All-head, All-nil, All-tail}
use Rattle.hex.specs.Hex.{IsBytes, decode_of, decode_pairs, decode_sized, encode_with, hex_digit_value, lower_digits, pair_value}
use Rattle.hex.proofs.HexLemmas.{length-encode_with, decode_of-even, decode_of-encode_lower, decode_sized-twice}
use Rattle.hex.proofs.Pairs.{cons_byte, decode_pairs-ok_pair}
use Rattle.ost_types.specs.Csum.{hex_of, IsHexDigit, IsHexSum}

-- a digit's code
abbrev code_of : ℕ → ℕ
code_of d = cond (nat_lt d 10) (48 + d) (87 + d)

all_coded : ℕ → Bool
all_coded zero = true
all_coded (suc n) = eqb (slice_index lower_digits n) (code_of n) && all_coded n

coded_at : (n d : ℕ) → all_coded n ≡ true → d < n → slice_index lower_digits d ≡ code_of d
unfolding all_coded
coded_at zero d h less = absurd (omega (arith, less))
coded_at (suc n) d h less =
    let parts = and_parts (eqb (slice_index lower_digits n) (code_of n)) (all_coded n) h in
    elim (cases_lt d n) [
      | inl below ↦ coded_at n d parts.1 below
      | inr top ↦
          let e : d ≡ n = omega (arith, top, less) in
          rw e (eqb-true (slice_index lower_digits n) (code_of n) parts.0)
    ]

all_sixteen : all_coded 16 ≡ true
unfolding all_coded
all_sixteen = refl

digit-code : (d : ℕ) → d < 16 → slice_index lower_digits d ≡ code_of d
digit-code d less = coded_at 16 d all_sixteen less

IsHexDigit-digit : (d : ℕ) → d < 16 → IsHexDigit (slice_index lower_digits d)
IsHexDigit-digit d less = rw (digit-code d less) (small d less)
  where
    small : (d : ℕ) → d < 16 → IsHexDigit (code_of d)
    small d less = elim (cases_lt d 10) [
      | inl below ↦ inl (grind arith)
      | inr above ↦ inr (grind arith)
    ]

-- a digit has a value, whose digit it is
digit-value : (c : ℕ) → IsHexDigit c → (v : ℕ) × (v < 16) × (hex_digit_value c ≡ Some v) × (slice_index lower_digits v ≡ c)
digit-value c (inl h) = (c - 48, omega (arith, h), grind arith, digit-code (c - 48) (omega (arith, h)) ∙ grind arith)
digit-value c (inr h) = (c - 87, omega (arith, h), grind arith, digit-code (c - 87) (omega (arith, h)) ∙ grind arith)

-- pairs of digits are the text of some bytes
read_pairs : (i : ℕ) (s : List ℕ) → length s % 2 ≡ 0 → All IsHexDigit s → (bytes : List ℕ) × (decode_pairs i s ≡ Ok bytes) × (hex_of bytes ≡ s)
unfolding decode_pairs encode_with
read_pairs i [] even digits = ([], refl, refl)
read_pairs i (c ∷ []) even digits = absurd (omega (arith, even))
read_pairs i (a ∷ b ∷ rest) even digits =
    let high = digit-value a (All-head IsHexDigit a (b ∷ rest) digits) in
    let low = digit-value b (All-head IsHexDigit b rest (All-tail IsHexDigit a (b ∷ rest) digits)) in
    let more = read_pairs (i + 2) rest (omega (arith, even)) (All-tail IsHexDigit b rest (All-tail IsHexDigit a (b ∷ rest) digits)) in
    let byte = high.0 * 16 + low.0 in
    let pair : pair_value a b i ≡ Ok byte = rw (high.2, low.2) refl in
    let first : byte / 16 ≡ high.0 = omega (arith, high.1, low.1) in
    let second : byte % 16 ≡ low.0 = omega (arith, high.1, low.1) in
    (byte ∷ more.0, decode_pairs-ok_pair i a b byte rest pair ∙ ap (cons_byte byte) more.1, rw (first, second, high.3, low.3, more.2) refl)

-- the text of a sum reads as one
pub read_sum : (text : List ℕ) → IsHexSum text → (bytes : List ℕ) × (decode_sized text 32 ≡ Ok bytes) × (hex_of bytes ≡ text)
read_sum text sum =
    let r = read_pairs 0 text (omega (arith, sum.whole)) sum.digits in
    (r.0, decode_sized-twice text 32 (omega (arith, sum.whole)) ∙ decode_of-even text (omega (arith, sum.whole)) ∙ r.1, r.2)

digits-hex_of : (bytes : List ℕ) → IsBytes bytes → All IsHexDigit (hex_of bytes)
unfolding encode_with
digits-hex_of [] fits = All-nil IsHexDigit
digits-hex_of (b ∷ rest) fits =
    let byte : b < 256 = fits 0 in
    let low = All-cons IsHexDigit (slice_index lower_digits (b % 16)) (hex_of rest) (IsHexDigit-digit (b % 16) (omega (arith, byte))) (digits-hex_of rest (λ k. fits (suc k))) in
    All-cons IsHexDigit (slice_index lower_digits (b / 16)) (slice_index lower_digits (b % 16) ∷ hex_of rest) (IsHexDigit-digit (b / 16) (omega (arith, byte))) low

-- 32 bytes have the text of a sum
pub IsHexSum-hex_of : (bytes : List ℕ) → length bytes ≡ 32 → IsBytes bytes → IsHexSum (hex_of bytes)
IsHexSum-hex_of bytes whole fits = record { whole = length-encode_with lower_digits bytes ∙ ap (λ n. 2 * n) whole; digits = digits-hex_of bytes fits }

-- bytes with one text are the same
pub hex_of-injective : (xs ys : List ℕ) → IsBytes xs → IsBytes ys → hex_of xs ≡ hex_of ys → xs ≡ ys
hex_of-injective xs ys fits others e =
    let same : Ok xs ≡ Ok ys = sym (decode_of-encode_lower xs fits) ∙ ap decode_of e ∙ decode_of-encode_lower ys others in
    ap (λ r. result_unwrap_or r []) same

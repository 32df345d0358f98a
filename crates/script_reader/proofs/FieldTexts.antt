-- A value that is written as a field is what the field stands for, and each byte of the field is visible.
use Rattle.std.proofs.Common.{◌≡◌, ◌≢◌, inl, inr, ◌<◌, ◌≤◌, ◌/◌, ◌%◌, ◌&&◌, ◌||◌, nat_le, eqb, ℕ, zero, suc, Bool, true, false, cond, List, [], ◌∷◌, ◌++◌, length, slice_index, codes, All, refl, sym, ap, subst, arith, length-append}
use Rattle.std.proofs.lemmas.Bool.{and_parts, eqb-true}
use Rattle.std.proofs.lemmas.List.Elements.{All-nil, All-cons, All-head, All-tail, All-append, All-weaker}
use Rattle.hex.specs.Hex.{IsBytes, encode_with, lower_digits}
use Rattle.ost_types.specs.Csum.{hex_of, IsHexDigit}
use Rattle.script.specs.Field.{escaped, escaped_byte, field_text, is_plain, IsField, Spells, Stands}

-- from `!` to `~`
abbrev pub IsVisible : ℕ → Type 0
IsVisible b = (33 ≤ b) × (b ≤ 126)

-- ---- bytes

pub bytes_from : (xs : List ℕ) → All (λ b. b < 256) xs → IsBytes xs
bytes_from [] all k = omega arith
bytes_from (x ∷ xs) all zero = All-head (λ b. b < 256) x xs all
bytes_from (x ∷ xs) all (suc k) = bytes_from xs (All-tail (λ b. b < 256) x xs all) k

pub visible_bytes : (xs : List ℕ) → All IsVisible xs → IsBytes xs
visible_bytes xs all = bytes_from xs (All-weaker IsVisible (λ b. b < 256) (λ b is. omega (arith, is.1)) xs all)

-- ---- digits of bytes

is_digit : ℕ → Bool
is_digit c = (nat_le 48 c && nat_le c 57) || (nat_le 97 c && nat_le c 102)

digit_from : (c : ℕ) → is_digit c ≡ true → IsHexDigit c
unfolding is_digit
digit_from c is = by (nat_le 48 c && nat_le c 57) refl
  where
    by : (t : Bool) → (nat_le 48 c && nat_le c 57) ≡ t → IsHexDigit c
    by true e = let both = and_parts (nat_le 48 c) (nat_le c 57) e in inl (grind (arith, both.0), grind (arith, both.1))
    by false e =
        let more : (nat_le 97 c && nat_le c 102) ≡ true = subst (λ t. (t || (nat_le 97 c && nat_le c 102)) ≡ true) e is in
        let both = and_parts (nat_le 97 c) (nat_le c 102) more in
        inr (grind (arith, both.0), grind (arith, both.1))

all_digits : ℕ → Bool
all_digits zero = true
all_digits (suc n) = is_digit (slice_index lower_digits n) && all_digits n

digit_at : (n d : ℕ) → all_digits n ≡ true → d < n → IsHexDigit (slice_index lower_digits d)
unfolding all_digits
digit_at zero d all less = absurd (omega (arith, less))
digit_at (suc n) d all less =
    let parts = and_parts (is_digit (slice_index lower_digits n)) (all_digits n) all in
    by (eqb d n) refl parts.0 (λ below. digit_at n d parts.1 below)
  where
    by : (t : Bool) → eqb d n ≡ t → is_digit (slice_index lower_digits n) ≡ true → (d < n → IsHexDigit (slice_index lower_digits d)) → IsHexDigit (slice_index lower_digits d)
    by true e here below = subst (λ x. IsHexDigit (slice_index lower_digits x)) (sym (eqb-true d n e)) (digit_from (slice_index lower_digits n) here)
    by false e here below = below (grind (arith, e, less))

sixteen : all_digits 16 ≡ true
unfolding all_digits is_digit
sixteen = refl

pub hex_digits : (bytes : List ℕ) → IsBytes bytes → All IsHexDigit (hex_of bytes)
unfolding encode_with
hex_digits [] are = All-nil IsHexDigit
hex_digits (b ∷ bytes) are =
    let small : b < 256 = are 0 in
    let second = All-cons IsHexDigit (slice_index lower_digits (b % 16)) (hex_of bytes) (digit_at 16 (b % 16) sixteen (omega (arith, small))) (hex_digits bytes (λ k. are (suc k))) in
    All-cons IsHexDigit (slice_index lower_digits (b / 16)) (slice_index lower_digits (b % 16) ∷ hex_of bytes) (digit_at 16 (b / 16) sixteen (omega (arith, small))) second

pub digit_visible : (b : ℕ) → IsHexDigit b → IsVisible b
digit_visible b (inl is) = (omega (arith, is.0), omega (arith, is.1))
digit_visible b (inr is) = (omega (arith, is.0), omega (arith, is.1))

pub hex_visible : (bytes : List ℕ) → IsBytes bytes → All IsVisible (hex_of bytes)
hex_visible bytes are = All-weaker IsHexDigit IsVisible digit_visible (hex_of bytes) (hex_digits bytes are)

pub one_byte : (b : ℕ) → b < 256 → IsBytes (b ∷ [])
one_byte b small = bytes_from (b ∷ []) (All-cons (λ x. x < 256) b [] small (All-nil (λ x. x < 256)))

-- ---- escaped bytes

stands : (b : ℕ) (rest : List ℕ) → Stands (escaped_byte b ++ rest) b rest
stands b rest = by (is_plain b) refl
  where
    by : (t : Bool) → is_plain b ≡ t → Stands (cond t (b ∷ []) (37 ∷ hex_of (b ∷ [])) ++ rest) b rest
    by true e = inl (refl, e)
    by false e = inr refl

pub escaped_spells : (value : List ℕ) → IsBytes value → Spells (escaped value) value
escaped_spells [] are = refl
escaped_spells (b ∷ value) are = (are 0, escaped value, stands b (escaped value), escaped_spells value (λ k. are (suc k)))

byte_visible : (b : ℕ) → b < 256 → All IsVisible (escaped_byte b)
byte_visible b small = by (is_plain b) refl
  where
    by : (t : Bool) → is_plain b ≡ t → All IsVisible (cond t (b ∷ []) (37 ∷ hex_of (b ∷ [])))
    by true e = All-cons IsVisible b [] (grind (arith, e), grind (arith, e)) (All-nil IsVisible)
    by false e = All-cons IsVisible 37 (hex_of (b ∷ [])) (omega arith, omega arith) (hex_visible (b ∷ []) (one_byte b small))

pub escaped_visible : (value : List ℕ) → IsBytes value → All IsVisible (escaped value)
escaped_visible [] are = All-nil IsVisible
escaped_visible (b ∷ value) are = All-append IsVisible (escaped_byte b) (escaped value) (byte_visible b (are 0)) (escaped_visible value (λ k. are (suc k)))

some_byte : (b : ℕ) → 1 ≤ length (escaped_byte b)
some_byte b = by (is_plain b)
  where
    by : (t : Bool) → 1 ≤ length (cond t (b ∷ []) (37 ∷ hex_of (b ∷ [])))
    by true = omega arith
    by false = omega arith

not_shorter : (value : List ℕ) → length value ≤ length (escaped value)
not_shorter [] = omega arith
not_shorter (b ∷ value) = omega (arith, some_byte b, not_shorter value, length-append (escaped_byte b) (escaped value))

-- ---- fields

not_tilde : (b : ℕ) → eqb b 126 ≡ false → escaped (b ∷ []) ≢ codes "~"
not_tilde b other = by (is_plain b)
  where
    by : (t : Bool) → cond t (b ∷ []) (37 ∷ hex_of (b ∷ [])) ++ [] ≢ codes "~"
    by true e = let is : b ≡ 126 = ap (λ l. slice_index l 0) e in grind (arith, is, other)
    by false e = let is : 37 ≡ 126 = ap (λ l. slice_index l 0) e in omega (arith, is)

tilde : IsField (codes "%7e") (codes "~")
unfolding encode_with
tilde = inr (λ e. omega (arith, ap length e), λ e. omega (arith, ap length e), (omega arith, [], inr refl, refl))

-- a value as a field stands for it
pub field_spelled : (value : List ℕ) → IsBytes value → IsField (field_text value) value
field_spelled [] are = inl (refl, refl)
field_spelled (b ∷ []) are = by (eqb b 126) refl
  where
    by : (t : Bool) → eqb b 126 ≡ t → IsField (cond t (codes "%7e") (escaped (b ∷ []))) (b ∷ [])
    by true e = subst (λ x. IsField (codes "%7e") (x ∷ [])) (sym (eqb-true b 126 e)) tilde
    by false e = inr (not_tilde b e, λ none. omega (arith, ap length none, not_shorter (b ∷ [])), escaped_spells (b ∷ []) are)
field_spelled (b ∷ c ∷ value) are =
    inr (λ e. omega (arith, ap length e, not_shorter (b ∷ c ∷ value)), λ e. omega (arith, ap length e, not_shorter (b ∷ c ∷ value)), escaped_spells (b ∷ c ∷ value) are)

-- ---- words

abbrev pub is_visible : ℕ → Bool
is_visible b = nat_le 33 b && nat_le b 126

abbrev pub are_visible : List ℕ → Bool
are_visible [] = true
are_visible (b ∷ text) = is_visible b && are_visible text

visible_one : (b : ℕ) → is_visible b ≡ true → IsVisible b
visible_one b is = let both = and_parts (nat_le 33 b) (nat_le b 126) is in (grind (arith, both.0), grind (arith, both.1))

pub visible_all : (text : List ℕ) → are_visible text ≡ true → All IsVisible text
visible_all [] is = All-nil IsVisible
visible_all (b ∷ text) is =
    let parts = and_parts (is_visible b) (are_visible text) is in
    All-cons IsVisible b text (visible_one b parts.0) (visible_all text parts.1)

tilde_visible : All IsVisible (codes "~")
tilde_visible = All-cons IsVisible 126 [] (omega arith, omega arith) (All-nil IsVisible)

digits_visible : All IsVisible (codes "%7e")
digits_visible = All-cons IsVisible 37 (55 ∷ 101 ∷ []) (omega arith, omega arith) (All-cons IsVisible 55 (101 ∷ []) (omega arith, omega arith) (All-cons IsVisible 101 [] (omega arith, omega arith) (All-nil IsVisible)))

pub field_visible : (value : List ℕ) → IsBytes value → All IsVisible (field_text value)
field_visible [] are = tilde_visible
field_visible (b ∷ []) are = by (eqb b 126)
  where
    by : (t : Bool) → All IsVisible (cond t (codes "%7e") (escaped (b ∷ [])))
    by true = digits_visible
    by false = escaped_visible (b ∷ []) are
field_visible (b ∷ c ∷ value) are = escaped_visible (b ∷ c ∷ value) are

-- From what a field stands for to the value that it has.
use Rattle.std.proofs.Common.{◌≡◌, ◌≢◌, ◌<◌, ◌≤◌, ◌^◌, ℕ, List, [], ◌∷◌, length, slice_index, Option, Some, None, IfSome, Result, Ok, Err, IsUtf8, refl, sym, ◌∙◌, ap, subst, arith, rules}
use Rattle.std.specs.Result.{result_ok}
use Rattle.std.specs.Str.Parse.{AllDigits, digits_value, ParsesUnsigned, IsNumeral}
use Rattle.std.proofs.lemmas.Fmt.{IsAscii-from_digits}
use Rattle.std.proofs.lemmas.Int.Digits.{digits_value-lt}
use Rattle.std.proofs.lemmas.Str.{IsUtf8-from_ascii}
use Rattle.std.proofs.lemmas.Str.Parse.{digit_at, without_leading_plus_none}
use Rattle.script.specs.Field.{Gives, IsFieldOf}
use Rattle.script_reader.specs.Values.{IsOctal}

-- what an answer says by its case
pub gives_some : {X : Type 0} (P : X → Type 0) (o : Option X) (x : X) → Gives P o → o ≡ Some x → P x
gives_some P o x g is = subst (Gives P) is g

pub gives_none : {X : Type 0} (P : X → Type 0) (o : Option X) → Gives P o → o ≡ None → (x : X) → ¬ (P x)
gives_none P o g is = subst (Gives P) is g

pub gives_other : {X : Type 0} (P : X → Type 0) (o : Option X) → Gives P o → ((x : X) → o ≡ Some x → ⊥) → (x : X) → ¬ (P x)
gives_other P None g other = g
gives_other P (Some v) g other = absurd (other v refl)

-- octal digits
wider : (digits : List ℕ) → AllDigits 8 digits → AllDigits 10 digits
wider [] h = h
wider (c ∷ digits) h = (omega (arith, h.0), wider digits h.1)

powers : (digits : List ℕ) → length digits ≤ 4 → 8 ^ length digits ≤ 4096
powers [] few = omega arith
powers (a ∷ []) few = omega arith
powers (a ∷ b ∷ []) few = omega arith
powers (a ∷ b ∷ c ∷ []) few = omega arith
powers (a ∷ b ∷ c ∷ d ∷ []) few = omega arith
powers (a ∷ b ∷ c ∷ d ∷ e ∷ digits) few = absurd (omega (arith, few))

octal_small : (digits : List ℕ) (bits : ℕ) → IsOctal digits bits → bits < 4096
octal_small digits bits is = omega (arith, digits_value-lt 8 digits is.octal, powers digits is.few, is.value)

pub small_bits : (digits : List ℕ) (o : Option ℕ) → Gives (IsOctal digits) o → IfSome o (λ bits. bits < 4096)
small_bits digits None none = search rules
small_bits digits (Some bits) is = octal_small digits bits is

pub small_mode : (field : List ℕ) (o : Option ℕ) → Gives (IsFieldOf IsOctal field) o → IfSome o (λ bits. bits < 4096)
small_mode field None none = search rules
small_mode field (Some bits) is = octal_small is.text bits is.written

abbrev pub HasFront : List ℕ → Type 0
HasFront digits = (0 < length digits) × (length digits ≤ 4) × (slice_index digits 0 ≢ 43) × (slice_index digits 0 ≡ 48 → length digits ≡ 1)

octal_front : (digits : List ℕ) (bits : ℕ) → IsOctal digits bits → HasFront digits
octal_front digits bits is =
    let first = digit_at digits 0 (wider digits is.octal) is.some in
    (is.some, is.few, λ e. omega (arith, first.0, e), is.front)

pub no_front : (digits : List ℕ) → (HasFront digits → ⊥) → (bits : ℕ) → ¬ (IsOctal digits bits)
no_front digits none bits is = none (octal_front digits bits is)

pub no_octal : (digits : List ℕ) → ¬ (IsUtf8 digits) → (bits : ℕ) → ¬ (IsOctal digits bits)
no_octal digits none bits is = none (IsUtf8-from_ascii digits (IsAscii-from_digits digits (wider digits is.octal)))

octal_parsed : (E : Type 0) (digits : List ℕ) (r : Result ℕ E) → HasFront digits → ParsesUnsigned 32 8 digits r → Gives (IsOctal digits) (result_ok r)
octal_parsed E digits (Ok x) front h =
    let same = without_leading_plus_none digits front.2 in
    let all : AllDigits 8 digits = subst (AllDigits 8) same h.0.0.1 in
    record { some = front.0; few = front.1; octal = all; front = front.3; value = ap (digits_value 8) (sym same) ∙ sym h.1 }
octal_parsed E digits (Err e) front h = λ bits is.
    let same = sym (without_leading_plus_none digits front.2) in
    let small : digits_value 8 digits < 2 ^ 32 = omega (arith, digits_value-lt 8 digits is.octal, powers digits is.few) in
    h (subst (λ t. (IsNumeral 8 t) × (digits_value 8 t < 2 ^ 32)) same ((is.some, is.octal), small))

pub octal_read : (E : Type 0) (digits text : List ℕ) (r : Result ℕ E) (o : Option ℕ) → text ≡ digits → o ≡ result_ok r → HasFront digits → ParsesUnsigned 32 8 text r → Gives (IsOctal digits) o
octal_read E digits text r o same is front h =
    subst (Gives (IsOctal digits)) (sym is) (octal_parsed E digits r front (subst (λ t. ParsesUnsigned 32 8 t r) same h))

pub octal_one : (digits : List ℕ) (m n : ℕ) → IsOctal digits m → IsOctal digits n → m ≡ n
octal_one digits m n a b = sym a.value ∙ b.value

-- From what a field stands for to the number or the text that it has.
use Rattle.std.proofs.Common.{◌≡◌, ◌≢◌, ◌<◌, ◌≤◌, ◌^◌, ℕ, zero, suc, ◌⊎◌, inl, inr, List, length, slice_index, Option, Some, None, IsSome, IfSome, MatchOption, Result, Ok, Err, IsUtf8, ◌↔◌, sym, ◌∙◌, ap, subst, arith, rules}
use Rattle.std.specs.Fmt.{decimal}
use Rattle.std.specs.Result.{result_ok, OkIff}
use Rattle.std.specs.Str.Parse.{AllDigits, digits_value, ParsesUnsigned}
use Rattle.std.proofs.lemmas.Fmt.{decimal_digit, first_decimal, decimal_injective, decimal-digits_value, parse-decimal, IsAscii-decimal}
use Rattle.std.proofs.lemmas.Str.{IsUtf8-from_ascii}
use Rattle.std.proofs.lemmas.Str.Parse.{IsNumeralModel, numerals_by_value, tells_digits, parse_plain}
use Rattle.ost_types.specs.Text.{IsText}
use Rattle.script.specs.Field.{IsField, IsNumber, IsTextField}
use Rattle.script.proofs.Spelling.{field_one}

-- no sign, and no zero in front of more digits
abbrev pub HasOwnFront : List ℕ → Type 0
HasOwnFront digits = (slice_index digits 0 ≢ 43) × (slice_index digits 0 ≡ 48 → length digits ≤ 1)

own : IsNumeralModel (AllDigits 10) (digits_value 10)
own = numerals_by_value (AllDigits 10) tells_digits

decimal_front : (n : ℕ) → n < 2 ^ 64 → HasOwnFront (decimal n)
decimal_front zero small = rw (decimal_digit 0 (omega arith)) ((λ e. omega (arith, e), λ e. omega arith))
decimal_front (suc n) small =
    let first = first_decimal (suc n) (omega arith) small in
    (λ e. omega (arith, first, e), λ e. absurd (omega (arith, first, e)))

pub other_front : (digits : List ℕ) → (slice_index digits 0 ≡ 43) ⊎ ((slice_index digits 0 ≡ 48) × (1 < length digits)) → (n : ℕ) → n < 2 ^ 64 → digits ≢ decimal n
other_front digits (inl sign) n small is = (subst HasOwnFront (sym is) (decimal_front n small)).0 sign
other_front digits (inr more) n small is = let few = (subst HasOwnFront (sym is) (decimal_front n small)).1 more.0 in omega (arith, few, more.1)

pub parsed : (E : Type 0) (digits : List ℕ) (r : Result ℕ E) → HasOwnFront digits → ParsesUnsigned 64 10 digits r
    → MatchOption (result_ok r) ((n : ℕ) → n < 2 ^ 64 → digits ≢ decimal n) (λ n. digits ≡ decimal n)
parsed E digits (Ok x) front h =
    let p = parse_plain own {E = E} 64 digits (Ok x) h front.0 in
    sym (ap decimal p.1 ∙ decimal-digits_value own digits p.0.0 p.0.1 (λ zero. omega (arith, front.1 zero, p.0.1)) p.0.2)
parsed E digits (Err e) front h = λ n small is. let r = parse-decimal {E = E} 64 n digits (Err e) small small is h in cc

pub parsed_text : (E : Type 0) (digits text : List ℕ) (r : Result ℕ E) (o : Option ℕ) → text ≡ digits → o ≡ result_ok r → HasOwnFront digits → ParsesUnsigned 64 10 text r
    → MatchOption o ((n : ℕ) → n < 2 ^ 64 → digits ≢ decimal n) (λ n. digits ≡ decimal n)
parsed_text E digits text r o same is front h =
    subst (λ o. MatchOption o ((n : ℕ) → n < 2 ^ 64 → digits ≢ decimal n) (λ n. digits ≡ decimal n)) (sym is) (parsed E digits r front (subst (λ t. ParsesUnsigned 64 10 t r) same h))

pub no_decimal : (digits : List ℕ) → ¬ (IsUtf8 digits) → (n : ℕ) → n < 2 ^ 64 → digits ≢ decimal n
no_decimal digits none n small is = none (subst IsUtf8 (sym is) (IsUtf8-from_ascii (decimal n) (IsAscii-decimal n small)))

pub number_from : (field value : List ℕ) (o : Option ℕ) → IsField field value → (IfSome o (λ n. n < 2 ^ 64))
    → MatchOption o ((n : ℕ) → n < 2 ^ 64 → value ≢ decimal n) (λ n. value ≡ decimal n)
    → MatchOption o ((n : ℕ) → ¬ (IsNumber (2 ^ 64) field n)) (IsNumber (2 ^ 64) field)
number_from field value None is small none = λ n x. none n x.below (field_one field value (decimal n) is x.spelled)
number_from field value (Some n) is small found = record { spelled = subst (IsField field) found is; below = small }

pub small_from : {E : Type 0} (field : List ℕ) (n : ℕ) (r : Result ℕ E) (o : Option ℕ) → IsNumber (2 ^ 64) field n → OkIff r (n < 2 ^ 32) n → o ≡ result_ok r
    → MatchOption o ((m : ℕ) → ¬ (IsNumber (2 ^ 32) field m)) (IsNumber (2 ^ 32) field)
small_from field n (Ok x) o is fits same =
    subst (λ o. MatchOption o ((m : ℕ) → ¬ (IsNumber (2 ^ 32) field m)) (IsNumber (2 ^ 32) field)) (sym same)
    (record { spelled = subst (λ m. IsField field (decimal m)) (sym fits.1) is.spelled; below = subst (λ m. m < 2 ^ 32) (sym fits.1) fits.0 })
small_from field n (Err e) o is large same =
    subst (λ o. MatchOption o ((m : ℕ) → ¬ (IsNumber (2 ^ 32) field m)) (IsNumber (2 ^ 32) field)) (sym same)
    (λ m x. large (subst (λ k. k < 2 ^ 32) (decimal_injective m n (omega (arith, x.below)) is.below (field_one field (decimal m) (decimal n) x.spelled is.spelled)) x.below))

pub number_one : (field : List ℕ) (m n : ℕ) → IsNumber (2 ^ 64) field m → IsNumber (2 ^ 64) field n → m ≡ n
number_one field m n x y = decimal_injective m n x.below y.below (field_one field (decimal m) (decimal n) x.spelled y.spelled)

pub small_one : (field : List ℕ) (m n : ℕ) → IsNumber (2 ^ 32) field m → IsNumber (2 ^ 32) field n → m ≡ n
small_one field m n x y = decimal_injective m n (omega (arith, x.below)) (omega (arith, y.below)) (field_one field (decimal m) (decimal n) x.spelled y.spelled)

no_text : IsSome {T = List ℕ} None → ⊥
no_text some = search rules

pub text_from : (field value : List ℕ) (o : Option (List ℕ)) → IsField field value → (IsSome o ↔ IsText value) → IfSome o (λ t. t ≡ value)
    → MatchOption o ((text : List ℕ) → ¬ (IsTextField field text)) (IsTextField field)
text_from field value None is exact same = λ text t. no_text (exact.1 (subst IsText (field_one field text value t.spelled is) t.text))
text_from field value (Some t) is exact same = record { spelled = subst (IsField field) (sym same) is; text = subst IsText (sym same) (exact.0 (search rules)) }

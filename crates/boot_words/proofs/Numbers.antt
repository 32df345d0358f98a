-- From digits to the number that they say.
use Rattle.std.proofs.Common.{◌≡◌, ◌≢◌, ◌<◌, ◌≤◌, ◌^◌, ◌⊎◌, ℕ, zero, suc, inl, inr, List, length, slice_index, MatchOption, Result, Ok, Err, IsUtf8, sym, ◌∙◌, ap, subst, arith}
use Rattle.std.specs.Fmt.{decimal}
use Rattle.boot_words.specs.Parts.{IsNoNumber, IsNumber}
use Rattle.std.specs.Result.{result_ok}
use Rattle.std.specs.Str.Parse.{AllDigits, digits_value, ParsesUnsigned}
use Rattle.std.proofs.lemmas.Fmt.{decimal_digit, first_decimal, decimal-digits_value, parse-decimal, IsAscii-decimal}
use Rattle.std.proofs.lemmas.Str.{IsUtf8-from_ascii}
use Rattle.std.proofs.lemmas.Str.Parse.{IsNumeralModel, numerals_by_value, tells_digits, parse_plain}

-- no sign, and no zero in front of more digits
abbrev pub HasOwnFront : List ℕ → Type 0
HasOwnFront digits = (slice_index digits 0 ≢ 43) × (slice_index digits 0 ≡ 48 → length digits ≤ 1)

own : IsNumeralModel (AllDigits 10) (digits_value 10)
own = numerals_by_value (AllDigits 10) tells_digits

pub wide : (n : ℕ) → n < 2 ^ 32 → n < 2 ^ 64
wide n small = omega arith

decimal_front : (n : ℕ) → n < 2 ^ 64 → HasOwnFront (decimal n)
decimal_front zero small = rw (decimal_digit 0 (omega arith)) ((λ e. omega (arith, e), λ e. omega arith))
decimal_front (suc n) small =
    let first = first_decimal (suc n) (omega arith) small in
    (λ e. omega (arith, first, e), λ e. absurd (omega (arith, first, e)))

pub other_front : (digits : List ℕ) → (slice_index digits 0 ≡ 43) ⊎ ((slice_index digits 0 ≡ 48) × (1 < length digits)) → (n : ℕ) → n < 2 ^ 32 → digits ≢ decimal n
other_front digits (inl sign) n small is = (subst HasOwnFront (sym is) (decimal_front n (wide n small))).0 sign
other_front digits (inr more) n small is = let few = (subst HasOwnFront (sym is) (decimal_front n (wide n small))).1 more.0 in omega (arith, few, more.1)

parsed : (E : Type 0) (digits : List ℕ) (r : Result ℕ E) → HasOwnFront digits → ParsesUnsigned 32 10 digits r → MatchOption (result_ok r) (IsNoNumber digits) (IsNumber digits)
parsed E digits (Ok x) front h =
    let p = parse_plain own {E = E} 32 digits (Ok x) h front.0 in
    let small : digits_value 10 digits < 2 ^ 32 = p.0.2 in
    (subst (λ n. n < 2 ^ 32) (sym p.1) small, sym (ap decimal p.1 ∙ decimal-digits_value own digits p.0.0 p.0.1 (λ zero. omega (arith, front.1 zero, p.0.1)) (wide _ small)))
parsed E digits (Err e) front h = λ n small is. let r = parse-decimal {E = E} 32 n digits (Err e) small (wide n small) is h in cc

pub parsed_text : (E : Type 0) (digits text : List ℕ) (r : Result ℕ E) {o : _} → text ≡ digits → o ≡ result_ok r → HasOwnFront digits → ParsesUnsigned 32 10 text r → MatchOption o (IsNoNumber digits) (IsNumber digits)
parsed_text E digits text r same is front h =
    subst (λ o. MatchOption o (IsNoNumber digits) (IsNumber digits)) (sym is) (parsed E digits r front (subst (λ t. ParsesUnsigned 32 10 t r) same h))

pub no_decimal : (digits : List ℕ) → ¬ (IsUtf8 digits) → IsNoNumber digits
no_decimal digits none n small is = none (subst IsUtf8 (sym is) (IsUtf8-from_ascii (decimal n) (IsAscii-decimal n (wide n small))))

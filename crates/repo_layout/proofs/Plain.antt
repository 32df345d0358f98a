-- Names that are made of the bytes of a ref name's parts.
use Rattle.std.proofs.Common.{◌≢◌, ◌<◌, ◌≤◌, ◌^◌, inl, inr, ℕ, suc, IsTrue, List, [], ◌∷◌, ◌++◌, length, slice_index, ap, arith, All}
use Rattle.std.specs.Fmt.{decimal}
use Rattle.std.specs.List.{AllByRecursion}
use Rattle.std.proofs.lemmas.List.Elements.{All-from_recursion, All-from_get_or, All-weaker, All-append}
use Rattle.std.proofs.lemmas.Str.{IsUtf8-from_ascii}
use Rattle.std.proofs.lemmas.Str.Parse.{digit_at}
use Rattle.std.proofs.lemmas.Fmt.{decimal_is_IsNumeral}
use Rattle.std.proofs.lemmas.Bool.Decides.{nat_tests}
use Rattle.std.proofs.lemmas.Str.Ascii.{IsAscii-from_all}
use Rattle.ost_types.specs.Text.{IsName}
use Rattle.ost_types.specs.Path.{Path, AreNames}
use Rattle.ost_types.specs.Csum.{IsHexDigit}
use Rattle.repo_layout.specs.RefName.{is_part_byte, IsPart}

abbrev pub IsPlain : List ℕ → Type 0
IsPlain = All (λ b. IsTrue (is_part_byte b))

small : (b : ℕ) → IsTrue (is_part_byte b) → (b < 128) × (b ≢ 0) × (b ≢ 47)
small b is = (grind (arith, nat_tests), grind (arith, nat_tests), grind (arith, nat_tests))

plain_name : (x : List ℕ) → IsPlain x → x ≢ [] → x ≢ 46 ∷ [] → x ≢ 46 ∷ 46 ∷ [] → length x ≤ 255 → IsName x
plain_name x bytes some here above short = record {
  text = record { utf8 = IsUtf8-from_ascii x (IsAscii-from_all x (λ k d lt. (small _ (bytes k d lt)).0)); no_zero = λ k d lt. (small _ (bytes k d lt)).1 };
  no_slash = λ k d lt. (small _ (bytes k d lt)).2;
  not_empty = some;
  not_here = here;
  not_above = above;
  short = short;
}

pub name_of_part : (part : List ℕ) → IsPart part → IsName part
name_of_part part is = plain_name part is.bytes is.not_empty (λ e. is.no_dot (ap (λ l. slice_index l 0) e)) (λ e. is.no_dot (ap (λ l. slice_index l 0) e)) is.short

pub names_of_parts : (parts : Path) → All IsPart parts → AreNames parts
names_of_parts [] all = tt
names_of_parts (part ∷ parts) all = (name_of_part part (all 0 part (omega arith)), names_of_parts parts (λ k d lt. all (suc k) d (omega arith)))

-- three bytes or more
pub long_name : (x : List ℕ) → IsPlain x → 2 < length x → length x ≤ 255 → IsName x
long_name x bytes long short = plain_name x bytes (λ e. omega (arith, long, ap length e)) (λ e. omega (arith, long, ap length e)) (λ e. omega (arith, long, ap length e)) short

-- words of the program's own
pub plain : (x : List ℕ) → AllByRecursion (λ b. IsTrue (is_part_byte b)) x → IsPlain x
plain x bytes = All-from_recursion (λ b. IsTrue (is_part_byte b)) x bytes

pub word : (x : List ℕ) → AllByRecursion (λ b. IsTrue (is_part_byte b)) x → 2 < length x → length x ≤ 255 → IsName x
word x bytes = long_name x (plain x bytes)

digit : (b : ℕ) → IsHexDigit b → IsTrue (is_part_byte b)
digit b (inl h) = grind (arith, nat_tests)
digit b (inr h) = grind (arith, nat_tests)

pub IsPlain-digits : (x : List ℕ) → All IsHexDigit x → IsPlain x
IsPlain-digits x digits = All-weaker IsHexDigit (λ b. IsTrue (is_part_byte b)) digit x digits

pub IsPlain-decimal : (n : ℕ) → n < 2 ^ 64 → IsPlain (decimal n)
IsPlain-decimal n less = IsPlain-digits (decimal n) (All-from_get_or IsHexDigit (decimal n) 0 (λ i lt. inl (digit_at (decimal n) i (decimal_is_IsNumeral n less).0.1 lt)))

pub IsPlain-append : (x y : List ℕ) → IsPlain x → IsPlain y → IsPlain (x ++ y)
IsPlain-append x y h g = All-append (λ b. IsTrue (is_part_byte b)) x y h g

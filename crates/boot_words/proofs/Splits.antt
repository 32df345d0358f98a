-- A text is split in one way.
use Rattle.std.proofs.Common.{◌≡◌, ◌≢◌, ◌<◌, ◌≤◌, ◌^◌, ◌⊎◌, inl, inr, ℕ, List, [], ◌∷◌, ◌++◌, All, length, IsTrue, refl, sym, ◌∙◌, ap, subst, append_assoc, arith}
use Rattle.std.specs.Fmt.{decimal}
use Rattle.std.proofs.lemmas.Bool.Decides.{nat_tests}
use Rattle.std.proofs.lemmas.Fmt.{decimal_injective}
use Rattle.std.proofs.lemmas.List.{append_cancel_left}
use Rattle.std.proofs.lemmas.List.Elements.{All-head, All-tail, All-weaker}
use Rattle.ost_types.specs.Csum.{IsHexDigit, IsHexSum, hex_of}
use Rattle.ost_types.proofs.HexSums.{IsHexSum-hex_of, hex_of-injective}
use Rattle.repo_layout.specs.OsName.{IsOsName}
use Rattle.repo_layout.specs.RefFile.{IsSum}
use Rattle.repo_layout.specs.RefName.{is_part_byte}
use Rattle.boot_words.specs.Parts.{AreNoParts, AreParts, IsNoNumber, IsNotNumbered, IsNumber, IsNumbered}

abbrev pub Plain : ℕ → List ℕ → Type 0
Plain c text = All (λ b. b ≢ c) text

without : (c : ℕ) (xs s : List ℕ) → ¬ (Plain c (xs ++ c ∷ s))
without c [] s all = All-head (λ b. b ≢ c) c s all refl
without c (x ∷ xs) s all = without c xs s (All-tail (λ b. b ≢ c) x (xs ++ c ∷ s) all)

one_split : (c : ℕ) (xs ys a b : List ℕ) → Plain c xs → Plain c ys → xs ++ c ∷ a ≡ ys ++ c ∷ b → (xs ≡ ys) × (a ≡ b)
one_split c [] [] a b p q e = (refl, let t : c ∷ a ≡ c ∷ b = e in cc)
one_split c [] (y ∷ ys) a b p q e = absurd (let t : c ∷ a ≡ y ∷ (ys ++ c ∷ b) = e in let h : y ≡ c = cc in All-head (λ x. x ≢ c) y ys q h)
one_split c (x ∷ xs) [] a b p q e = absurd (let t : x ∷ (xs ++ c ∷ a) ≡ c ∷ b = e in let h : x ≡ c = cc in All-head (λ x. x ≢ c) x xs p h)
one_split c (x ∷ xs) (y ∷ ys) a b p q e =
    let t : x ∷ (xs ++ c ∷ a) ≡ y ∷ (ys ++ c ∷ b) = e in
    let h : x ≡ y = cc in
    let u : xs ++ c ∷ a ≡ ys ++ c ∷ b = cc in
    let r = one_split c xs ys a b (All-tail (λ z. z ≢ c) x xs p) (All-tail (λ z. z ≢ c) y ys q) u in
    (ap (λ z. z ∷ xs) h ∙ ap (λ zs. y ∷ zs) r.0, r.1)

-- ---- sums and numbers

digit_is : (mark b : ℕ) → mark < 48 → IsHexDigit b → b ≢ mark
digit_is mark b less (inl h) e = omega (arith, less, h.0, e)
digit_is mark b less (inr h) e = omega (arith, less, h.0, e)

hex_sum : (sum : List ℕ) → IsSum sum → IsHexSum (hex_of sum)
hex_sum sum is = IsHexSum-hex_of sum is.whole is.bytes

hex_plain : (mark : ℕ) (sum : List ℕ) → mark < 48 → IsSum sum → Plain mark (hex_of sum)
hex_plain mark sum less is = All-weaker IsHexDigit (λ b. b ≢ mark) (λ b. digit_is mark b less) (hex_of sum) (hex_sum sum is).digits

pub numbered_marked : (text : List ℕ) (mark : ℕ) → Plain mark text → IsNotNumbered text mark
numbered_marked text mark all = λ sum n is. without mark (hex_of sum) (decimal n) (subst (Plain mark) is.whole all)

module _ (text : List ℕ) (mark : ℕ) (less : mark < 48) (digits behind : List ℕ) (whole : text ≡ digits ++ mark ∷ behind) (plain : Plain mark digits) where
  numbered_split : (sum : List ℕ) (n : ℕ) → IsNumbered text mark sum n → (digits ≡ hex_of sum) × (behind ≡ decimal n)
  numbered_split sum n is = one_split mark digits (hex_of sum) behind (decimal n) plain (hex_plain mark sum less is.sum_is) (sym whole ∙ is.whole)

  pub numbered_sum : ¬ (IsHexSum digits) → IsNotNumbered text mark
  numbered_sum other = λ sum n is. other (subst IsHexSum (sym (numbered_split sum n is).0) (hex_sum sum is.sum_is))

  pub numbered_number : IsNoNumber behind → IsNotNumbered text mark
  numbered_number other = λ sum n is. other n is.small (numbered_split sum n is).1

  pub numbered_there : (sum : List ℕ) (n : ℕ) → IsSum sum → hex_of sum ≡ digits → IsNumber behind n → IsNumbered text mark sum n
  numbered_there sum n is hex number = record {
    sum_is = is;
    small = number.0;
    whole = whole ∙ ap (λ x. digits ++ mark ∷ x) number.1 ∙ ap (λ x. x ++ mark ∷ decimal n) (sym hex);
  }

numbered_once : (text : List ℕ) (mark : ℕ) (a b : List ℕ) (m n : ℕ) → mark < 48 → IsNumbered text mark a m → IsNumbered text mark b n → (a ≡ b) × (m ≡ n)
numbered_once text mark a b m n less p q =
    let r = one_split mark (hex_of a) (hex_of b) (decimal m) (decimal n) (hex_plain mark a less p.sum_is) (hex_plain mark b less q.sum_is) (sym p.whole ∙ q.whole) in
    (hex_of-injective a b p.sum_is.bytes q.sum_is.bytes r.0, decimal_injective m n (wide m p.small) (wide n q.small) r.1)
  where
    wide : (n : ℕ) → n < 2 ^ 32 → n < 2 ^ 64
    wide n small = omega arith

-- ---- the parts of a text

abbrev end_of : List ℕ → ℕ → List ℕ → ℕ → List ℕ
end_of middle mark sum n = middle ++ (hex_of sum ++ mark ∷ decimal n)

pub parts_front : (text front middle : List ℕ) (mark : ℕ) → ((rest : List ℕ) → text ≢ front ++ rest) → AreNoParts text front middle mark
parts_front text front middle mark other = λ os sum n are. other (os ++ 47 ∷ end_of middle mark sum n) are.whole

module _ (text front middle : List ℕ) (mark : ℕ) (rest : List ℕ) (whole : text ≡ front ++ rest) where
  rest_is : (os sum : List ℕ) (n : ℕ) → AreParts text front middle mark os sum n → rest ≡ os ++ 47 ∷ end_of middle mark sum n
  rest_is os sum n are = append_cancel_left front rest (os ++ 47 ∷ end_of middle mark sum n) (sym whole ∙ are.whole)

  pub parts_plain : Plain 47 rest → AreNoParts text front middle mark
  parts_plain all = λ os sum n are. without 47 os (end_of middle mark sum n) (subst (Plain 47) (rest_is os sum n are) all)

  module _ (os behind : List ℕ) (split : rest ≡ os ++ 47 ∷ behind) (plain : Plain 47 os) where
    parts_split : (pt sum : List ℕ) (n : ℕ) → AreParts text front middle mark pt sum n → (os ≡ pt) × (behind ≡ end_of middle mark sum n)
    parts_split pt sum n are = one_split 47 os pt behind (end_of middle mark sum n) plain are.plain (sym split ∙ rest_is pt sum n are)

    pub parts_middle : ((last : List ℕ) → behind ≢ middle ++ last) → AreNoParts text front middle mark
    parts_middle other = λ pt sum n are. other (hex_of sum ++ mark ∷ decimal n) (parts_split pt sum n are).1

    pub parts_numbered : (last : List ℕ) → behind ≡ middle ++ last → IsNotNumbered last mark → AreNoParts text front middle mark
    parts_numbered last is other = λ pt sum n are. other sum n (record {
      sum_is = are.sum_is;
      small = are.small;
      whole = append_cancel_left middle last (hex_of sum ++ mark ∷ decimal n) (sym is ∙ (parts_split pt sum n are).1);
    })

    pub parts_there : (last sum : List ℕ) (n : ℕ) → behind ≡ middle ++ last → IsNumbered last mark sum n → AreParts text front middle mark os sum n
    parts_there last sum n is numbered = record {
      plain = plain;
      sum_is = numbered.sum_is;
      small = numbered.small;
      whole = whole ∙ ap (λ x. front ++ x) (split ∙ ap (λ x. os ++ 47 ∷ x) (is ∙ ap (λ x. middle ++ x) numbered.whole));
    }

pub parts_once : (text front middle : List ℕ) (mark : ℕ) (os pt a b : List ℕ) (m n : ℕ) → mark < 48 → AreParts text front middle mark os a m → AreParts text front middle mark pt b n → (os ≡ pt) × (a ≡ b) × (m ≡ n)
parts_once text front middle mark os pt a b m n less p q =
    let s = parts_split text front middle mark (os ++ 47 ∷ end_of middle mark a m) p.whole os (end_of middle mark a m) refl p.plain pt b n q in
    let last : hex_of a ++ mark ∷ decimal m ≡ hex_of b ++ mark ∷ decimal n = append_cancel_left middle (hex_of a ++ mark ∷ decimal m) (hex_of b ++ mark ∷ decimal n) s.1 in
    let r = numbered_once (hex_of a ++ mark ∷ decimal m) mark a b m n less (record { sum_is = p.sum_is; small = p.small; whole = refl }) (record { sum_is = q.sum_is; small = q.small; whole = last }) in
    (s.0, r.0, r.1)

-- ---- stateroots

part_no_slash : (b : ℕ) → IsTrue (is_part_byte b) → b ≢ 47
part_no_slash b is = grind (arith, nat_tests)

pub os_plain : (os : List ℕ) → IsOsName os → Plain 47 os
os_plain os is = All-weaker (λ b. IsTrue (is_part_byte b)) (λ b. b ≢ 47) part_no_slash os is.part.bytes

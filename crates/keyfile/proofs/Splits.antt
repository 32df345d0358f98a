-- A text has one part before the first byte of a kind.
use Rattle.std.proofs.Common.{◌≡◌, ◌≢◌, ◌<◌, ℕ, List, [], ◌∷◌, ◌++◌, All, refl, sym, ◌∙◌, ap, subst, arith}
use Rattle.std.proofs.lemmas.List.Elements.{All-cons, All-head, All-tail, All-weaker}
use Rattle.std.proofs.lemmas.Str.{IsUtf8-from_ascii}
use Rattle.std.proofs.lemmas.Str.Ascii.{IsAscii-from_all}
use Rattle.ost_types.specs.Text.{IsText}
use Rattle.keyfile.specs.Line.{IsGroupByte, IsGroupName, IsKeyByte, IsKeyName, IsOneLine}

pub one_split : (c : ℕ) (xs ys a b : List ℕ) → All (λ x. x ≢ c) xs → All (λ x. x ≢ c) ys → xs ++ c ∷ a ≡ ys ++ c ∷ b → (xs ≡ ys) × (a ≡ b)
one_split c [] [] a b p q e = (refl, let t : c ∷ a ≡ c ∷ b = e in cc)
one_split c [] (y ∷ ys) a b p q e = absurd (let t : c ∷ a ≡ y ∷ (ys ++ c ∷ b) = e in let h : y ≡ c = cc in All-head (λ x. x ≢ c) y ys q h)
one_split c (x ∷ xs) [] a b p q e = absurd (let t : x ∷ (xs ++ c ∷ a) ≡ c ∷ b = e in let h : x ≡ c = cc in All-head (λ x. x ≢ c) x xs p h)
one_split c (x ∷ xs) (y ∷ ys) a b p q e =
    let t : x ∷ (xs ++ c ∷ a) ≡ y ∷ (ys ++ c ∷ b) = e in
    let h : x ≡ y = cc in
    let u : xs ++ c ∷ a ≡ ys ++ c ∷ b = cc in
    let r = one_split c xs ys a b (All-tail (λ z. z ≢ c) x xs p) (All-tail (λ z. z ≢ c) y ys q) u in
    (ap (λ z. z ∷ xs) h ∙ ap (λ zs. y ∷ zs) r.0, r.1)

pub All-back : {X : Type 0} (P : X → Type 0) (xs ys : List X) → All P (xs ++ ys) → All P ys
All-back P [] ys h = h
All-back P (x ∷ xs) ys h = All-back P xs ys (All-tail P x (xs ++ ys) h)

pub All-front : {X : Type 0} (P : X → Type 0) (xs ys : List X) → All P (xs ++ ys) → All P xs
All-front P [] ys h = search (arith)
All-front P (x ∷ xs) ys h = All-cons P x xs (All-head P x (xs ++ ys) h) (All-front P xs ys (All-tail P x (xs ++ ys) h))

pub no_equals : (name : List ℕ) → IsKeyName name → All (λ b. b ≢ 61) name
no_equals name is = All-weaker IsKeyByte (λ b. b ≢ 61) (λ b p e. grind (arith, p, e)) name is.plain

-- a key and its value are found by the first `=`
module _ (text key value : List ℕ) (cut : text ≡ key ++ 61 ∷ value) (first : All (λ b. b ≢ 61) key) where
  pub same_key : (k v : List ℕ) → IsKeyName k → text ≡ k ++ 61 ∷ v → (k ≡ key) × (v ≡ value)
  same_key k v is e = one_split 61 k key v value (no_equals k is) first (sym e ∙ cut)

  pub value_in_line : IsOneLine text → IsOneLine value
  value_in_line h = All-tail (λ b. b ≢ 10) 61 value (All-back (λ b. b ≢ 10) key (61 ∷ value) (subst IsOneLine cut h))

pub no_key_without : (text k v : List ℕ) → All (λ b. b ≢ 61) text → text ≡ k ++ 61 ∷ v → ⊥
no_key_without text k v none e = All-head (λ b. b ≢ 61) 61 v (All-back (λ b. b ≢ 61) k (61 ∷ v) (subst (λ t. All (λ b. b ≢ 61) t) e none)) refl

-- a key's name is a text
pub key_text : (name : List ℕ) → IsKeyName name → IsText name
key_text name is = record {
  utf8 = IsUtf8-from_ascii name (IsAscii-from_all name (All-weaker IsKeyByte (λ b. b < 128) (λ b p. grind (arith, p)) name is.plain));
  no_zero = All-weaker IsKeyByte (λ b. b ≢ 0) (λ b p e. grind (arith, p, e)) name is.plain;
}

pub group_text : (name : List ℕ) → IsGroupName name → IsText name
group_text name is = record {
  utf8 = IsUtf8-from_ascii name (IsAscii-from_all name (All-weaker IsGroupByte (λ b. b < 128) (λ b p. omega (arith, p.1)) name is.plain));
  no_zero = All-weaker IsGroupByte (λ b. b ≢ 0) (λ b p e. omega (arith, p.0, e)) name is.plain;
}

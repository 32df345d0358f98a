-- A string's bytes are its text and a zero.
use Rattle.std.proofs.Common.{◌≡◌, ◌≢◌, ℕ, ◌<◌, Bool, ltb, true, false, cond, List, [], ◌∷◌, ◌++◌, Some, None, refl, ap₂, arith}
use Rattle.std.specs.Prelude.{All}
use Rattle.std.specs.Str.{is_utf8}
use Rattle.std.proofs.lemmas.Bool.{and_parts, and_from, cond-true, ltb-true, lt-ltb}
use Rattle.std.proofs.lemmas.Str.{is_utf8-from_IsUtf8, IsUtf8-from_is_utf8, IsUtf8-nil}
use Rattle.std.proofs.lemmas.List.Elements.{All-nil, All-cons, All-head, All-tail}
use Rattle.gv_core.specs.Text.{no_zero}
use Rattle.gv_core.specs.Layout.{text_bytes}
use Rattle.gv_core.proofs.Sizes.{some_is}
use Rattle.ost_types.specs.Text.{IsText}

all_from : (s : List ℕ) → no_zero s ≡ true → All (λ b. b ≢ 0) s
all_from [] e = All-nil (λ b. b ≢ 0)
all_from (c ∷ s) e =
    let p = and_parts (ltb 0 c) (no_zero s) e in
    let above : 0 < c = ltb-true 0 c p.0 in
    All-cons (λ b. b ≢ 0) c s (λ z. absurd (omega (arith, above, z))) (all_from s p.1)

all_to : (s : List ℕ) → All (λ b. b ≢ 0) s → no_zero s ≡ true
all_to [] h = refl
all_to (c ∷ s) h = and_from (ltb 0 c) (no_zero s) (lt-ltb 0 c (above c (All-head (λ b. b ≢ 0) c s h))) (all_to s (All-tail (λ b. b ≢ 0) c s h))
  where
    above : (c : ℕ) → c ≢ 0 → 0 < c
    above c n = omega (arith, n)

pub text_bytes-of : (s : List ℕ) → IsText s → text_bytes s ≡ Some (s ++ 0 ∷ [])
text_bytes-of s h = cond-true _ _ _ (and_from _ _ (is_utf8-from_IsUtf8 s h.utf8) (all_to s h.no_zero))

text_if : (b : Bool) (s bytes : List ℕ) → cond b (Some (s ++ 0 ∷ [])) None ≡ Some bytes → (b ≡ true) × (s ++ 0 ∷ [] ≡ bytes)
text_if true s bytes e = (refl, some_is _ _ e)
text_if false s bytes e = absurd cc

pub text_bytes-is : (s bytes : List ℕ) → text_bytes s ≡ Some bytes → IsText s × (s ++ 0 ∷ [] ≡ bytes)
text_bytes-is s bytes e =
    let p = text_if _ s bytes e in
    let q = and_parts (is_utf8 s) (no_zero s) p.0 in
    (record { utf8 = IsUtf8-from_is_utf8 s q.0; no_zero = all_from s q.1 }, p.1)

pub same_push : (xs ys : List ℕ) (a b : ℕ) → xs ++ a ∷ [] ≡ ys ++ b ∷ [] → (xs ≡ ys) × (a ≡ b)
same_push [] [] a b e = let h : a ≡ b = cc in (refl, h)
same_push [] (y ∷ []) a b e = absurd cc
same_push [] (y ∷ z ∷ ys) a b e = absurd cc
same_push (x ∷ []) [] a b e = absurd cc
same_push (x ∷ z ∷ xs) [] a b e = absurd cc
same_push (x ∷ xs) (y ∷ ys) a b e =
    let h : x ≡ y = cc in
    let t : xs ++ a ∷ [] ≡ ys ++ b ∷ [] = cc in
    let p = same_push xs ys a b t in
    (ap₂ (λ (x : ℕ) (xs : List ℕ). x ∷ xs) h p.0, p.1)

pub empty_text : IsText []
empty_text = record { utf8 = IsUtf8-nil; no_zero = All-nil (λ b. b ≢ 0) }

-- What a text stands for is found from its front on.
use Rattle.std.proofs.Common.{◌≡◌, inl, inr, ◌<◌, ◌≤◌, ℕ, Bool, true, false, IsTrue, List, [], ◌∷◌, ◌++◌, length, take, drop, refl, sym, ◌∙◌, ap, subst, append_assoc, append-nil, arith, rules}
use Rattle.std.proofs.Math.Seq.{take-append_seam, drop-append_seam}
use Rattle.std.proofs.lemmas.List.{length-append}
use Rattle.hex.specs.Hex.{IsBytes, lower_digits}
use Rattle.hex.proofs.HexLemmas.{length-encode_with}
use Rattle.ost_types.specs.Csum.{hex_of}
use Rattle.ost_types.proofs.HexSums.{hex_of-injective}
use Rattle.script.specs.Field.{is_plain, Stands, Spells, NotSpelled, IsField}

-- so far the text stood for these bytes, and what is left of it stands for the others
pub record SpelledSoFar (text value rest : List ℕ) : Type 0 where
  pub back : (v : List ℕ) → Spells rest v → Spells text (value ++ v)
  pub on : (v : List ℕ) → Spells text v → (w : List ℕ) × (v ≡ value ++ w) × Spells rest w

pub nothing_yet : (text : List ℕ) → SpelledSoFar text [] text
nothing_yet text = record { back = λ v s. s; on = λ v s. (v, refl, s) }

pub one : (b : ℕ) → b < 256 → IsBytes (b ∷ [])
one b less = search (arith)

pub two_digits : (b : ℕ) → length (hex_of (b ∷ [])) ≡ 2
two_digits b = length-encode_with lower_digits (b ∷ [])

pub digits_front : (b : ℕ) (r : List ℕ) → take 2 (hex_of (b ∷ []) ++ r) ≡ hex_of (b ∷ [])
digits_front b r = ap (λ n. take n (hex_of (b ∷ []) ++ r)) (sym (two_digits b)) ∙ take-append_seam (hex_of (b ∷ [])) r

pub digits_back : (b : ℕ) (r : List ℕ) → drop 2 (hex_of (b ∷ []) ++ r) ≡ r
digits_back b r = ap (λ n. drop n (hex_of (b ∷ []) ++ r)) (sym (two_digits b)) ∙ drop-append_seam (hex_of (b ∷ [])) r

true_from_IsTrue : (b : Bool) → IsTrue b → b ≡ true
true_from_IsTrue b t = search rules

no_escape : (b : ℕ) (r t : List ℕ) → IsTrue (is_plain b) → b ∷ r ≡ 37 ∷ t → ⊥
no_escape b r t plain e = let is : b ≡ 37 = cc in let n : false ≡ true = subst (λ x. is_plain x ≡ true) is (true_from_IsTrue (is_plain b) plain) in cc

-- a text stands for one byte first
one_way : (text : List ℕ) (b c : ℕ) (r s : List ℕ) → b < 256 → c < 256 → Stands text b r → Stands text c s → (b ≡ c) × (r ≡ s)
one_way text b c r s less small (inl x) (inl y) = let e : b ∷ r ≡ c ∷ s = sym x.0 ∙ y.0 in (cc, cc)
one_way text b c r s less small (inl x) (inr y) = absurd (no_escape b r (hex_of (c ∷ []) ++ s) x.1 (sym x.0 ∙ y))
one_way text b c r s less small (inr x) (inl y) = absurd (no_escape c s (hex_of (b ∷ []) ++ r) y.1 (sym y.0 ∙ x))
one_way text b c r s less small (inr x) (inr y) =
    let e : 37 ∷ (hex_of (b ∷ []) ++ r) ≡ 37 ∷ (hex_of (c ∷ []) ++ s) = sym x ∙ y in
    let t : hex_of (b ∷ []) ++ r ≡ hex_of (c ∷ []) ++ s = ap (drop 1) e in
    let h : hex_of (b ∷ []) ≡ hex_of (c ∷ []) = sym (digits_front b r) ∙ ap (take 2) t ∙ digits_front c s in
    let bytes : b ∷ [] ≡ c ∷ [] = hex_of-injective (b ∷ []) (c ∷ []) (one b less) (one c small) h in
    (cc, sym (digits_back b r) ∙ ap (drop 2) t ∙ digits_back c s)

not_end : (text : List ℕ) (b : ℕ) (r : List ℕ) → Stands text b r → text ≡ [] → ⊥
not_end text b r (inl x) e = let n : b ∷ r ≡ [] = sym x.0 ∙ e in cc
not_end text b r (inr x) e = let n : 37 ∷ (hex_of (b ∷ []) ++ r) ≡ [] = sym x ∙ e in cc

pub one_more : (text value rest behind : List ℕ) (b : ℕ) → b < 256 → Stands rest b behind → SpelledSoFar text value rest → SpelledSoFar text (value ++ b ∷ []) behind
one_more text value rest behind b less stands before = record {
  back = λ v s. subst (Spells text) (sym (append_assoc value (b ∷ []) v)) (before.back (b ∷ v) (less, behind, stands, s));
  on = λ v s. let found = before.on v s in by found.0 found.2 v found.1;
}
  where
    by : (w : List ℕ) → Spells rest w → (v : List ℕ) → v ≡ value ++ w → (x : List ℕ) × (v ≡ (value ++ b ∷ []) ++ x) × Spells behind x
    by [] end v e = absurd (not_end rest b behind stands end)
    by (c ∷ w) s v e =
        let same = one_way rest b c behind s.1 less s.0 stands s.2 in
        (w, e ∙ ap (λ y. value ++ y ∷ w) (sym same.0) ∙ sym (append_assoc value (b ∷ []) w), subst (λ t. Spells t w) (sym same.1) s.3)

pub whole : (text value rest : List ℕ) → rest ≡ [] → SpelledSoFar text value rest → Spells text value
whole text value rest end so = subst (Spells text) (append-nil value) (so.back [] end)

pub stuck : (text value rest : List ℕ) → (rest ≡ [] → ⊥) → ((b : ℕ) (r : List ℕ) → b < 256 → Stands rest b r → ⊥) → SpelledSoFar text value rest → NotSpelled text
stuck text value rest more none so v s = let found = so.on v s in by found.0 found.2
  where
    by : (w : List ℕ) → Spells rest w → ⊥
    by [] end = more end
    by (b ∷ w) s = none b s.1 s.0 s.2

-- a text stands for one run of bytes
pub spelled_one : (text v w : List ℕ) → Spells text v → Spells text w → v ≡ w
spelled_one text [] [] end also = refl
spelled_one text [] (c ∷ w) end s = absurd (not_end text c s.1 s.2 end)
spelled_one text (b ∷ v) [] s end = absurd (not_end text b s.1 s.2 end)
spelled_one text (b ∷ v) (c ∷ w) s t =
    let same = one_way text b c s.1 t.1 s.0 t.0 s.2 t.2 in
    ap (λ x. x ∷ v) same.0 ∙ ap (λ x. c ∷ x) (spelled_one t.1 v w (subst (λ r. Spells r v) same.1 s.3) t.3)

pub field_one : (field v w : List ℕ) → IsField field v → IsField field w → v ≡ w
field_one field v w (inl x) (inl y) = x.1 ∙ sym y.1
field_one field v w (inl x) (inr y) = absurd (y.0 x.0)
field_one field v w (inr x) (inl y) = absurd (x.0 y.0)
field_one field v w (inr x) (inr y) = spelled_one field v w x.2 y.2

-- digits in front
pub digits_begin : (text rest : List ℕ) (b : ℕ) → text ≡ hex_of (b ∷ []) ++ rest → (2 ≤ length text) × (take 2 text ≡ hex_of (b ∷ []))
digits_begin text rest b e = (omega (arith, ap length e, length-append (hex_of (b ∷ [])) rest, two_digits b), ap (take 2) e ∙ digits_front b rest)

-- The parts of a path's flat list: its folder's and its last name.
use Rattle.std.proofs.Common.{◌≡◌, ◌≢◌, ℕ, suc, ◌+◌, ◌-◌, ◌<◌, ◌≤◌, Bool, true, false, eqb, refl, sym, ◌∙◌, ap, subst, List, [], ◌∷◌, ◌++◌, length, take, drop, get_or, All, arith, length-append}
use Rattle.std.proofs.lemmas.Bool.Decides.{Decides-eqb}
use Rattle.std.proofs.Math.Seq.{take-append_seam, drop-append_seam, get_or-append_seam, get_or-append_right}
use Rattle.std.proofs.Math.ListN.{get_or-append}
use Rattle.ost_types.specs.Text.{IsName}
use Rattle.ost_types.specs.Path.{Name, Path, AreNames, under}
use Rattle.ost_types.specs.Flat.{flat}
use Rattle.ost_types.proofs.Flats.{flat-push}

abbrev NoZero : List ℕ → Type 0
NoZero x = All (λ b. b ≢ 0) x

AreNames-last : (f : Path) (x : Name) → AreNames (under f x) → IsName x
AreNames-last [] x names = names.0
AreNames-last (a ∷ f) x names = AreNames-last f x names.1

pub last_name : (p f : Path) (x : Name) → AreNames p → p ≡ under f x → IsName x
last_name p f x names is = AreNames-last f x (subst AreNames is names)

pub no_flat : (t : List ℕ) (p : Path) → t ≡ flat p → length t ≡ 0 → p ≡ []
unfolding flat
no_flat t [] is none = refl
no_flat t (x ∷ p) is none = let l : length t ≡ length (x ++ 0 ∷ flat p) = ap length is in let m = length-append x (0 ∷ flat p) in absurd (omega (arith, none, l, m))

pub some_flat : (t : List ℕ) (p : Path) → t ≡ flat p → length t ≢ 0 → p ≢ []
unfolding flat
some_flat t [] is some e = some (ap length is)
some_flat t (x ∷ p) is some e = cc

-- what the test of a length says
pub is_zero : (b : Bool) (n : ℕ) → b ≡ eqb n 0 → b ≡ true → n ≡ 0
is_zero b n test holds = (Decides-eqb n 0).0 (sym test ∙ holds)

pub not_zero : (b : Bool) (n : ℕ) → b ≡ eqb n 0 → b ≡ false → n ≢ 0
not_zero b n test fails e = let no_more : true ≡ false = sym ((Decides-eqb n 0).1 e) ∙ sym test ∙ fails in cc

last_zero : (f : Path) → 0 < length (flat f) → get_or (flat f) (length (flat f) - 1) 0 ≡ 0
unfolding flat
last_zero [] some = absurd (omega (arith, some))
last_zero (x ∷ f) some = go f (last_zero f)
  where
    go : (g : Path) → (0 < length (flat g) → get_or (flat g) (length (flat g) - 1) 0 ≡ 0) → get_or (x ++ 0 ∷ flat g) (length (x ++ 0 ∷ flat g) - 1) 0 ≡ 0
    go [] before =
        let l : length (x ++ 0 ∷ []) ≡ length x + 1 = length-append x (0 ∷ []) in
        let e : length (x ++ 0 ∷ []) - 1 ≡ length x = omega (arith, l) in
        ap (λ k. get_or (x ++ 0 ∷ []) k 0) e ∙ get_or-append_seam x 0 [] 0
    go (y ∷ g) before =
        let t : List ℕ = y ++ 0 ∷ flat g in
        let m : length t ≡ length y + length (0 ∷ flat g) = length-append y (0 ∷ flat g) in
        let l : length (x ++ 0 ∷ t) ≡ length x + length (0 ∷ t) = length-append x (0 ∷ t) in
        let low : length x ≤ length (x ++ 0 ∷ t) - 1 = omega (arith, l) in
        let k : length (x ++ 0 ∷ t) - 1 - length x ≡ suc (length t - 1) = omega (arith, l, m) in
        get_or-append_right x (0 ∷ t) (length (x ++ 0 ∷ t) - 1) 0 low ∙ ap (λ j. get_or (0 ∷ t) j 0) k ∙ before (omega (arith, m))

-- a folder's text ends with a zero, and the last name of a path has none
module _ (text : List ℕ) (f : Path) (x : Name) (names : AreNames (under f x)) (is : text ≡ flat (under f x)) where
  parts : text ≡ flat f ++ (x ++ 0 ∷ [])
  parts = is ∙ flat-push f x

  pub parts_len : length text ≡ length (flat f) + (length x + 1)
  parts_len =
      let a : length text ≡ length (flat f ++ (x ++ 0 ∷ [])) = ap length parts in
      let b = length-append (flat f) (x ++ 0 ∷ []) in
      let c : length (x ++ 0 ∷ []) ≡ length x + 1 = length-append x (0 ∷ []) in
      omega (arith, a, b, c)

  -- a byte behind the folder's text isn't zero, but the last
  pub no_zero_behind : (i : ℕ) → length (flat f) ≤ i → i + 1 < length text → get_or text i 0 ≡ 0 → ⊥
  no_zero_behind i low high zero_here =
      let l = parts_len in
      let clean = (last_name (under f x) f x names refl).text.no_zero in
      let k : i - length (flat f) < length x = omega (arith, low, high, l) in
      let a : get_or text i 0 ≡ get_or (x ++ 0 ∷ []) (i - length (flat f)) 0 = ap (λ t. get_or t i 0) parts ∙ get_or-append_right (flat f) (x ++ 0 ∷ []) i 0 low in
      let b : get_or (x ++ 0 ∷ []) (i - length (flat f)) 0 ≡ get_or x (i - length (flat f)) 0 = get_or-append x (0 ∷ []) 0 (i - length (flat f)) k in
      clean (i - length (flat f)) 0 k (sym b ∙ sym a ∙ zero_here)

  -- the last byte of the folder's text is zero
  pub zero_before : 0 < length (flat f) → get_or text (length (flat f) - 1) 0 ≡ 0
  zero_before some = ap (λ t. get_or t (length (flat f) - 1) 0) parts ∙ get_or-append (flat f) (x ++ 0 ∷ []) 0 (length (flat f) - 1) (omega (arith, some)) ∙ last_zero f some

  pub folder_text : (e : ℕ) → e ≡ length (flat f) → take e text ≡ flat f
  folder_text e at = ap (λ k. take k text) at ∙ ap (take (length (flat f))) parts ∙ take-append_seam (flat f) (x ++ 0 ∷ [])

  pub name_text : (e n : ℕ) → e ≡ length (flat f) → n ≡ length text - 1 → take (n - e) (drop e text) ≡ x
  name_text e n at last =
      let l = parts_len in
      let k : n - e ≡ length x = omega (arith, at, last, l) in
      ap (λ j. take j (drop e text)) k ∙ ap (λ j. take (length x) (drop j text)) at ∙ ap (λ t. take (length x) (drop (length (flat f)) t)) parts
      ∙ ap (take (length x)) (drop-append_seam (flat f) (x ++ 0 ∷ [])) ∙ take-append_seam x (0 ∷ [])

pub AreNames-folder : (f : Path) (x : Name) → AreNames (under f x) → AreNames f
AreNames-folder [] x names = tt
AreNames-folder (a ∷ f) x names = (names.0, AreNames-folder f x names.1)

pub same_last : (f : Path) (x y : Name) → under f x ≡ under f y → x ≡ y
same_last [] x y e = cc
same_last (a ∷ f) x y e = same_last f x y cc

-- A line is a key, blanks and a value in one way.
use Rattle.std.proofs.Common.{◌≡◌, ◌≢◌, ◌<◌, ℕ, Bool, true, false, not, List, [], ◌∷◌, ◌++◌, ◌==◌, All, length, refl, sym, ◌∙◌, ap, subst, arith}
use Rattle.std.proofs.lemmas.List.{nil_from_length}
use Rattle.std.proofs.lemmas.Bool.Decides.{nat_tests}
use Rattle.std.proofs.lemmas.List.Elements.{All-head, All-tail, All-cons}
use Rattle.bls_entry.specs.Line.{is_blank, BeginsSetting, BeginsPlain, EndsOrBegins, IsKey, IsOneLine, AreBlanks, IsValue, IsSetting}

other : (b : Bool) → b ≡ not b → ⊥
other true e = let h : true ≡ false = e in cc
other false e = let h : false ≡ true = e in cc

pub All-back : {X : Type 0} (P : X → Type 0) (xs ys : List X) → All P (xs ++ ys) → All P ys
All-back P [] ys h = h
All-back P (x ∷ xs) ys h = All-back P xs ys (All-tail P x (xs ++ ys) h)

pub All-front : {X : Type 0} (P : X → Type 0) (xs ys : List X) → All P (xs ++ ys) → All P xs
All-front P [] ys h = search (arith)
All-front P (x ∷ xs) ys h = All-cons P x xs (All-head P x (xs ++ ys) h) (All-front P xs ys (All-tail P x (xs ++ ys) h))

-- a run of blanks, or of other bytes, ends at one place
pub cut_once : (blank : Bool) (xs ys a b : List ℕ) → All (λ c. is_blank c ≡ blank) xs → All (λ c. is_blank c ≡ blank) ys → EndsOrBegins (not blank) a → EndsOrBegins (not blank) b
    → xs ++ a ≡ ys ++ b → (xs ≡ ys) × (a ≡ b)
cut_once blank [] [] a b p q f g e = (refl, e)
cut_once blank [] (y ∷ ys) [] b p q f g e = absurd (let n : [] ≡ y ∷ (ys ++ b) = e in cc)
cut_once blank [] (y ∷ ys) (x ∷ a) b p q f g e =
    let t : x ∷ a ≡ y ∷ (ys ++ b) = e in
    let h : x ≡ y = cc in
    absurd (other blank (sym (All-head (λ c. is_blank c ≡ blank) y ys q) ∙ ap is_blank (sym h) ∙ f))
cut_once blank (x ∷ xs) [] a [] p q f g e = absurd (let n : x ∷ (xs ++ a) ≡ [] = e in cc)
cut_once blank (x ∷ xs) [] a (y ∷ b) p q f g e =
    let t : x ∷ (xs ++ a) ≡ y ∷ b = e in
    let h : x ≡ y = cc in
    absurd (other blank (sym (All-head (λ c. is_blank c ≡ blank) x xs p) ∙ ap is_blank h ∙ g))
cut_once blank (x ∷ xs) (y ∷ ys) a b p q f g e =
    let t : x ∷ (xs ++ a) ≡ y ∷ (ys ++ b) = e in
    let h : x ≡ y = cc in
    let u : xs ++ a ≡ ys ++ b = cc in
    let r = cut_once blank xs ys a b (All-tail (λ c. is_blank c ≡ blank) x xs p) (All-tail (λ c. is_blank c ≡ blank) y ys q) f g u in
    (ap (λ z. z ∷ xs) h ∙ ap (λ zs. y ∷ zs) r.0, r.1)

ends_plain : (value : List ℕ) → BeginsPlain value → EndsOrBegins false value
ends_plain [] p = absurd p
ends_plain (b ∷ value) p = p

ends_blank : (blanks value : List ℕ) → AreBlanks blanks → EndsOrBegins true (blanks ++ value)
ends_blank [] value are = absurd (are.some refl)
ends_blank (b ∷ blanks) value are = All-head (λ c. is_blank c ≡ true) b blanks are.all

-- of two settings with one text
pub one_setting : (k b v l c w : List ℕ) → IsSetting k b v → IsSetting l c w → k ++ (b ++ v) ≡ l ++ (c ++ w) → (k ≡ l) × (b ≡ c) × (v ≡ w)
one_setting k b v l c w x y e =
    let key = cut_once false k l (b ++ v) (c ++ w) x.before.no_blank y.before.no_blank (ends_blank b v x.between) (ends_blank c w y.between) e in
    let rest = cut_once true b c v w x.between.all y.between.all (ends_plain v x.behind.begins) (ends_plain w y.behind.begins) key.1 in
    (key.0, rest.0, rest.1)

some_value : (value : List ℕ) → EndsOrBegins false value → value ≢ [] → BeginsPlain value
some_value [] ends some = absurd (some refl)
some_value (b ∷ value) ends some = ends

begins_key : (key behind : List ℕ) → key ≢ [] → BeginsSetting (key ++ behind) → BeginsSetting key
begins_key [] behind some begins = absurd (some refl)
begins_key (b ∷ key) behind some begins = begins

blanks_there : (blanks value : List ℕ) → EndsOrBegins true (blanks ++ value) → BeginsPlain value → blanks ≢ []
blanks_there [] [] ends begins e = begins
blanks_there [] (b ∷ value) ends begins e = let h : true ≡ false = sym ends ∙ begins in cc
blanks_there (b ∷ blanks) value ends begins e = let h : b ∷ blanks ≡ [] = e in cc

module _ (line key behind blanks value : List ℕ) (whole : line ≡ key ++ behind) (rest : behind ≡ blanks ++ value)
    (plain : All (λ b. is_blank b ≡ false) key) (ends : EndsOrBegins true behind) (all : All (λ b. is_blank b ≡ true) blanks) (starts : EndsOrBegins false value) where
  pub cut_line : line ≡ key ++ (blanks ++ value)
  cut_line = whole ∙ ap (λ t. key ++ t) rest

  pub setting_there : IsOneLine line → BeginsSetting line → key ≢ [] → value ≢ [] → IsSetting key blanks value
  setting_there one begins some more =
      let is_value = some_value value starts more in
      let parts = subst IsOneLine cut_line one in record {
        before = record { begins = begins_key key behind some (subst BeginsSetting whole begins); no_blank = plain; one_line = All-front (λ b. b ≢ 10) key (blanks ++ value) parts };
        between = record { some = blanks_there blanks value (subst (EndsOrBegins true) rest ends) is_value; all = all };
        behind = record { begins = is_value; one_line = All-back (λ b. b ≢ 10) blanks value (All-back (λ b. b ≢ 10) key (blanks ++ value) parts) };
      }

  -- any setting of this line has this key and this value
  pub same_setting : (k b v : List ℕ) → IsSetting k b v → line ≡ k ++ (b ++ v) → (k ≡ key) × (v ≡ value)
  same_setting k b v is e =
      let front = cut_once false k key (b ++ v) behind is.before.no_blank plain (ends_blank b v is.between) ends (sym e ∙ whole) in
      let back = cut_once true b blanks v value is.between.all all (ends_plain v is.behind.begins) starts (front.1 ∙ rest) in
      (front.0, back.1)

  pub no_key_there : key ≡ [] → (k b v : List ℕ) → IsSetting k b v → line ≡ k ++ (b ++ v) → ⊥
  no_key_there none k b v is e = subst BeginsSetting ((same_setting k b v is e).0 ∙ none) is.before.begins

  pub no_value_there : value ≡ [] → (k b v : List ℕ) → IsSetting k b v → line ≡ k ++ (b ++ v) → ⊥
  no_value_there none k b v is e = subst BeginsPlain ((same_setting k b v is e).1 ∙ none) is.behind.begins

-- ---- tests of emptiness

pub empty_is : {X : Type 0} (xs : List X) (b : Bool) → b ≡ (length xs == 0) → b ≡ true → xs ≡ []
empty_is xs b is holds = nil_from_length xs (grind (arith, nat_tests, is, holds))

pub some_is : {X : Type 0} (xs : List X) (b : Bool) → b ≡ (length xs == 0) → b ≡ false → xs ≢ []
some_is xs b is fails e = let h : length xs ≡ 0 = ap length e in grind (arith, nat_tests, is, fails, h)

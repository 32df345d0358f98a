-- Entries that are compared with those that are to be, one after the other.
use Rattle.std.proofs.Common.{◌≡◌, ◌≢◌, ◌⊎◌, inl, inr, ⊎_elim, ℕ, zero, suc, ◌+◌, ◌<◌, ◌≤◌, arith, Bool, true, false, List, [], ◌∷◌, length, get_or, Option, Some, if◌then◌else◌, refl, sym, ◌∙◌, ap, subst}
use Rattle.std.specs.List.{Contains}
use Rattle.std.specs.Bool.{Decides}
use Rattle.ost_types.specs.Path.{Name, same_name}
use Rattle.ost_types.proofs.Paths.{same_name-Decides}
use Rattle.fs_trait.specs.View.{Disk}
use Rattle.boot_model.specs.Listing.{HasEntry}
use Rattle.boot_compare.specs.Comparing.{AreApart, AreTexts, Comparison, without}

-- ---- membership

pub first : {X : Type 0} (x : X) (xs : List X) → Contains (x ∷ xs) x
first x xs = (0, omega arith, refl)

pub later : {X : Type 0} (x y : X) (xs : List X) → Contains xs y → Contains (x ∷ xs) y
later x y xs c = (suc c.0, omega (arith, c.1), c.2)

pub cases : {X : Type 0} (x y : X) (xs : List X) → Contains (x ∷ xs) y → (x ≡ y) ⊎ Contains xs y
cases x y xs (zero, lt, e) = inl e
cases x y xs (suc k, lt, e) = inr (k, omega (arith, lt), e)

pub nothing : {X : Type 0} (y : X) → Contains [] y → ⊥
nothing y c = omega (arith, c.1)

same_or_not : (a b : List ℕ) → ((a ≡ b) × (same_name a b ≡ true)) ⊎ ((a ≢ b) × (same_name a b ≡ false))
same_or_not a b = by (same_name a b) (same_name-Decides a b)
  where
    by : (t : Bool) → Decides t (a ≡ b) → ((a ≡ b) × (t ≡ true)) ⊎ ((a ≢ b) × (t ≡ false))
    by true d = inl (d.0 refl, refl)
    by false d = inr (λ e. let n : false ≡ true = d.1 e in cc, refl)

-- ---- the texts without one

pub without_here : (t : List ℕ) (texts : List (List ℕ)) → without t (t ∷ texts) ≡ texts
without_here t texts = by (same_name t t) ((same_name-Decides t t).1 refl)
  where
    by : (b : Bool) → b ≡ true → (if b then texts else t ∷ without t texts) ≡ texts
    by true e = refl
    by false e = let n : false ≡ true = e in cc

pub without_there : (x t : List ℕ) (texts : List (List ℕ)) → x ≢ t → without t (x ∷ texts) ≡ x ∷ without t texts
without_there x t texts apart = by (same_or_not x t)
  where
    pick : (b : Bool) → b ≡ false → (if b then texts else x ∷ without t texts) ≡ x ∷ without t texts
    pick true e = let n : true ≡ false = e in cc
    pick false e = refl

    by : ((x ≡ t) × (same_name x t ≡ true)) ⊎ ((x ≢ t) × (same_name x t ≡ false)) → without t (x ∷ texts) ≡ x ∷ without t texts
    by (inl a) = absurd (apart a.0)
    by (inr a) = pick (same_name x t) a.1

pub left_is : (t y : List ℕ) (texts : List (List ℕ)) → Contains (without t texts) y → Contains texts y
left_is t y [] c = c
left_is t y (x ∷ texts) c = by (same_or_not x t) (left_is t y texts)
  where
    by : ((x ≡ t) × (same_name x t ≡ true)) ⊎ ((x ≢ t) × (same_name x t ≡ false)) → (Contains (without t texts) y → Contains texts y) → Contains (x ∷ texts) y
    by (inl a) rest = later x y texts (subst (λ l. Contains l y) (ap (λ z. without z (x ∷ texts)) (sym a.0) ∙ without_here x texts) c)
    by (inr a) rest = ⊎_elim (λ e. subst (Contains (x ∷ texts)) e (first x texts)) (λ d. later x y texts (rest d)) (cases x y (without t texts) (subst (λ l. Contains l y) (without_there x t texts a.0) c))

pub gone : (t : List ℕ) (texts : List (List ℕ)) → AreApart texts → Contains (without t texts) t → ⊥
gone t [] apart c = nothing t c
gone t (x ∷ texts) apart c = by (same_or_not x t) (gone t texts apart.1)
  where
    by : ((x ≡ t) × (same_name x t ≡ true)) ⊎ ((x ≢ t) × (same_name x t ≡ false)) → (Contains (without t texts) t → ⊥) → ⊥
    by (inl a) rest = apart.0 (subst (Contains texts) (sym a.0) (subst (λ l. Contains l t) (ap (λ z. without z (x ∷ texts)) (sym a.0) ∙ without_here x texts) c))
    by (inr a) rest = ⊎_elim (λ e. a.0 e) rest (cases x t (without t texts) (subst (λ l. Contains l t) (without_there x t texts a.0) c))

pub stays : (t y : List ℕ) (texts : List (List ℕ)) → y ≢ t → Contains texts y → Contains (without t texts) y
stays t y [] other c = c
stays t y (x ∷ texts) other c = by (same_or_not x t) (stays t y texts other)
  where
    by : ((x ≡ t) × (same_name x t ≡ true)) ⊎ ((x ≢ t) × (same_name x t ≡ false)) → (Contains texts y → Contains (without t texts) y) → Contains (without t (x ∷ texts)) y
    by (inl a) rest = subst (λ l. Contains l y) (sym (ap (λ z. without z (x ∷ texts)) (sym a.0) ∙ without_here x texts)) (⊎_elim (λ e. absurd (other (sym e ∙ a.0))) (λ d. d) (cases x y texts c))
    by (inr a) rest = subst (λ l. Contains l y) (sym (without_there x t texts a.0)) (⊎_elim (λ e. subst (Contains (x ∷ without t texts)) e (first x (without t texts))) (λ d. later x y (without t texts) (rest d)) (cases x y texts c))

pub apart_left : (t : List ℕ) (texts : List (List ℕ)) → AreApart texts → AreApart (without t texts)
apart_left t [] apart = tt
apart_left t (x ∷ texts) apart = by (same_or_not x t) (apart_left t texts apart.1)
  where
    by : ((x ≡ t) × (same_name x t ≡ true)) ⊎ ((x ≢ t) × (same_name x t ≡ false)) → AreApart (without t texts) → AreApart (without t (x ∷ texts))
    by (inl a) rest = subst AreApart (sym (ap (λ z. without z (x ∷ texts)) (sym a.0) ∙ without_here x texts)) apart.1
    by (inr a) rest = subst AreApart (sym (without_there x t texts a.0)) ((λ c. apart.0 (left_is t x texts c)), rest)

-- ---- one name after the other

one_text : (d : Disk) (loader : ℕ) (file : Name) (a b : List ℕ) → HasEntry d loader file a → HasEntry d loader file b → a ≡ b
one_text d loader file a b one two = let e : Some a ≡ Some b = sym one.holds ∙ two.holds in cc

module _ (d : Disk) (loader : ℕ) (x : Name) (rest : List Name) (texts : List (List ℕ)) where
  abbrev from : Comparison
  from = record { names = x ∷ rest; texts = texts }

  -- a name that is no entry
  module _ (none : (t : List ℕ) → HasEntry d loader x t → ⊥) where
    not_x : (file : Name) (t : List ℕ) → Contains (x ∷ rest) file → HasEntry d loader file t → Contains rest file
    not_x file t c has = ⊎_elim (λ e. absurd (none t (subst (λ f. HasEntry d loader f t) (sym e) has))) (λ r. r) (cases x file rest c)

    pub none_passed : AreTexts d loader (record { names = x ∷ rest; texts = texts }) → AreTexts d loader (record { names = rest; texts = texts })
    none_passed are = record {
      each = λ t c. let f = are.each t c in (f.0, not_x f.0 t f.1 f.2, f.2);
      only = λ file t c has. are.only file t (later x file rest c) has;
      once = λ f g t c e one two. are.once f g t (later x f rest c) (later x g rest e) one two;
    }

    pub none_back : AreTexts d loader (record { names = rest; texts = texts }) → AreTexts d loader (record { names = x ∷ rest; texts = texts })
    none_back are = record {
      each = λ t c. let f = are.each t c in (f.0, later x f.0 rest f.1, f.2);
      only = λ file t c has. are.only file t (not_x file t c has) has;
      once = λ f g t c e one two. are.once f g t (not_x f t c one) (not_x g t e two) one two;
    }

  -- an entry
  module _ (b : List ℕ) (entry : HasEntry d loader x b) where
    pub wrong : (Contains texts b → ⊥) → AreTexts d loader (record { names = x ∷ rest; texts = texts }) → ⊥
    wrong other are = other (are.only x b (first x rest) entry)

    module _ (alone : Contains rest x → ⊥) (apart : AreApart texts) (among : Contains texts b) where
      off_x : (file : Name) (t : List ℕ) → t ≢ b → Contains (x ∷ rest) file → HasEntry d loader file t → Contains rest file
      off_x file t other c has = ⊎_elim (λ e. absurd (other (one_text d loader x t b (subst (λ f. HasEntry d loader f t) (sym e) has) entry))) (λ r. r) (cases x file rest c)

      pub some_passed : AreTexts d loader (record { names = x ∷ rest; texts = texts }) → AreTexts d loader (record { names = rest; texts = without b texts })
      some_passed are = record {
        each = λ t c.
            let f = are.each t (left_is b t texts c) in
            (f.0, off_x f.0 t (λ e. gone b texts apart (subst (Contains (without b texts)) e c)) f.1 f.2, f.2);
        only = λ file t c has.
            stays b t texts (λ e. alone (subst (Contains rest) (are.once file x b (later x file rest c) (first x rest) (subst (HasEntry d loader file) e has) entry) c)) (are.only file t (later x file rest c) has);
        once = λ f g t c e one two. are.once f g t (later x f rest c) (later x g rest e) one two;
      }

      pub some_back : AreTexts d loader (record { names = rest; texts = without b texts }) → AreTexts d loader (record { names = x ∷ rest; texts = texts })
      some_back are = record {
        each = λ t c. each t c (same_or_not t b);
        only = λ file t c has. ⊎_elim (λ e. subst (Contains texts) (one_text d loader x b t entry (subst (λ f. HasEntry d loader f t) (sym e) has)) among) (λ r. left_is b t texts (are.only file t r has)) (cases x file rest c);
        once = λ f g t c e one two. once f g t one two (cases x f rest c) (cases x g rest e);
      }
        where
          each : (t : List ℕ) → Contains texts t → ((t ≡ b) × (same_name t b ≡ true)) ⊎ ((t ≢ b) × (same_name t b ≡ false)) → (file : Name) × Contains (x ∷ rest) file × HasEntry d loader file t
          each t c (inl a) = (x, first x rest, subst (HasEntry d loader x) (sym a.0) entry)
          each t c (inr a) = let f = are.each t (stays b t texts a.0 c) in (f.0, later x f.0 rest f.1, f.2)

          no_other : (g : Name) (t : List ℕ) → Contains rest g → HasEntry d loader g t → t ≡ b → ⊥
          no_other g t c has e = gone b texts apart (subst (Contains (without b texts)) e (are.only g t c has))

          x_text : (f : Name) (t : List ℕ) → x ≡ f → HasEntry d loader f t → t ≡ b
          x_text f t e has = one_text d loader x t b (subst (λ h. HasEntry d loader h t) (sym e) has) entry

          once : (f g : Name) (t : List ℕ) → HasEntry d loader f t → HasEntry d loader g t → (x ≡ f) ⊎ Contains rest f → (x ≡ g) ⊎ Contains rest g → f ≡ g
          once f g t one two (inl e) (inl h) = sym e ∙ h
          once f g t one two (inl e) (inr r) = absurd (no_other g t r two (x_text f t e one))
          once f g t one two (inr r) (inl h) = absurd (no_other f t r one (x_text g t h two))
          once f g t one two (inr r) (inr s) = are.once f g t r s one two

-- no name is left
pub over : (d : Disk) (loader : ℕ) (texts : List (List ℕ)) → AreTexts d loader (record { names = []; texts = texts }) → texts ≡ []
over d loader [] are = refl
over d loader (t ∷ texts) are = let f = are.each t (first t texts) in absurd (nothing f.0 f.1)

pub over_back : (d : Disk) (loader : ℕ) → AreTexts d loader (record { names = []; texts = [] })
over_back d loader = record {
  each = λ t c. absurd (nothing t c);
  only = λ file t c has. absurd (nothing file c);
  once = λ f g t c e one two. absurd (nothing f c);
}

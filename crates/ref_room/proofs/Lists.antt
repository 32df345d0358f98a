-- What a list has.
use Rattle.std.proofs.Common.{◌≡◌, ◌⊎◌, inl, inr, ⊎_elim, ℕ, ◌≤◌, ◌<◌, ◌+◌, ◌-◌, arith, refl, sym, ◌∙◌, ap, subst, List, [], ◌∷◌, ◌++◌, length, take, get_or, zero, suc}
use Rattle.std.specs.Prelude.{Contains}
use Rattle.std.proofs.lemmas.List.Elements.{Contains-append_left, Contains-append_right, Contains-append_cases}
use Rattle.std.proofs.Math.Seq.{take-suc, take-length}
use Rattle.std.proofs.lemmas.List.{take_all}
use Rattle.ost_types.specs.Path.{Name, Path, IsPath, under}

module _ {X : Type 0} where
  pub one : (x : X) → Contains (x ∷ []) x
  one x = (0, omega arith, refl)

  pub Contains-one : (x y : X) → Contains (y ∷ []) x → x ≡ y
  Contains-one x y (zero, less, is) = sym is
  Contains-one x y (suc k, less, is) = absurd (omega (arith, less))

  pub head_in : (x : X) (xs : List X) → Contains (x ∷ xs) x
  head_in x xs = (0, omega arith, refl)

  pub tail_in : (x y : X) (xs : List X) → Contains xs x → Contains (y ∷ xs) x
  tail_in x y xs has = Contains-append_right (y ∷ []) xs x has

  pub cons_cases : (x y : X) (xs : List X) → Contains (y ∷ xs) x → (x ≡ y) ⊎ Contains xs x
  cons_cases x y xs has = ⊎_elim (λ a. inl (Contains-one x y a)) (λ b. inr b) (Contains-append_cases (y ∷ []) xs x has)

next_count : (i : ℕ) → i + 1 ≡ suc i
next_count i = omega arith

module _ {X : Type 0} where
  -- the first so many and one more
  pub taken_more : (xs : List X) (i : ℕ) (x y : X) → i < length xs → y ≡ get_or xs i y → Contains (take (i + 1) xs) x → Contains (take i xs) x ⊎ (x ≡ y)
  taken_more xs i x y less is has =
      let more : take (i + 1) xs ≡ take i xs ++ y ∷ [] = ap (λ n. take n xs) (next_count i) ∙ take-suc xs i y less ∙ ap (λ z. take i xs ++ z ∷ []) (sym is) in
      ⊎_elim (λ a. inl a) (λ b. inr (Contains-one x y b)) (Contains-append_cases (take i xs) (y ∷ []) x (subst (λ l. Contains l x) more has))

  pub nothing_taken : (xs : List X) (x : X) → Contains (take 0 xs) x → ⊥
  nothing_taken xs x (k, less, is) = omega (arith, less)

  -- the last one, and those before it
  pub last_apart : (xs : List X) (d : X) → 0 < length xs → xs ≡ take (length xs - 1) xs ++ get_or xs (length xs - 1) d ∷ []
  last_apart xs d some =
      let n : suc (length xs - 1) ≡ length xs = omega (arith, some) in
      sym (take-length xs) ∙ ap (λ k. take k xs) (sym n) ∙ take-suc xs (length xs - 1) d (omega (arith, some))

-- the paths of the names so far
abbrev pub IsInside : Path → List Name → ℕ → List Path → Type 0
IsInside f names i paths = ((p : Path) → Contains paths p → (y : Name) × (p ≡ under f y)) × ((y : Name) → Contains (take i names) y → Contains paths (under f y) ⊎ (IsPath (under f y) → ⊥))

pub one_more_path : (f : Path) (names : List Name) (i : ℕ) (x : Name) (paths : List Path) → i < length names → x ≡ get_or names i x
    → ((p : Path) → Contains paths p → (y : Name) × (p ≡ under f y)) × ((y : Name) → Contains (take i names) y → Contains paths (under f y) ⊎ (IsPath (under f y) → ⊥))
    → ((p : Path) → Contains (paths ++ under f x ∷ []) p → (y : Name) × (p ≡ under f y)) × ((y : Name) → Contains (take (i + 1) names) y → Contains (paths ++ under f x ∷ []) (under f y) ⊎ (IsPath (under f y) → ⊥))
one_more_path f names i x paths less is (each, all) = (
  λ p has. ⊎_elim (λ a. each p a) (λ b. (x, Contains-one p (under f x) b)) (Contains-append_cases paths (under f x ∷ []) p has),
  λ y has. ⊎_elim
      (λ a. ⊎_elim (λ b. inl (Contains-append_left paths (under f x ∷ []) (under f y) b)) (λ none. inr none) (all y a))
      (λ e. inl (subst (λ z. Contains (paths ++ under f x ∷ []) (under f z)) (sym e) (Contains-append_right paths (under f x ∷ []) (under f x) (one (under f x)))))
      (taken_more names i y x less is has),
)

pub one_less_path : (f : Path) (names : List Name) (i : ℕ) (x : Name) (paths : List Path) → i < length names → x ≡ get_or names i x → (IsPath (under f x) → ⊥)
    → ((p : Path) → Contains paths p → (y : Name) × (p ≡ under f y)) × ((y : Name) → Contains (take i names) y → Contains paths (under f y) ⊎ (IsPath (under f y) → ⊥))
    → ((p : Path) → Contains paths p → (y : Name) × (p ≡ under f y)) × ((y : Name) → Contains (take (i + 1) names) y → Contains paths (under f y) ⊎ (IsPath (under f y) → ⊥))
one_less_path f names i x paths less is none (each, all) = (
  each,
  λ y has. ⊎_elim (λ a. all y a) (λ e. inr (subst (λ z. IsPath (under f z) → ⊥) (sym e) none)) (taken_more names i y x less is has),
)

pub no_paths : (f : Path) (paths : List Path) → paths ≡ [] → (p : Path) → Contains paths p → (y : Name) × (p ≡ under f y)
no_paths f paths e p has = none (subst (λ l. Contains l p) e has)
  where
    none : Contains [] p → (y : Name) × (p ≡ under f y)
    none (k, less, is) = absurd (omega (arith, less))

pub all_paths : (f : Path) (items names : List Name) (i : ℕ) (paths : List Path) → items ≡ names → length items ≤ i → ((y : Name) → Contains (take i items) y → Contains paths (under f y) ⊎ (IsPath (under f y) → ⊥))
    → (y : Name) → Contains names y → Contains paths (under f y) ⊎ (IsPath (under f y) → ⊥)
all_paths f items names i paths same le all y has =
    all y (subst (λ l. Contains l y) (sym (take_all i items le ∙ same)) has)

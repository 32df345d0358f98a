-- Bytes cut at each `/`.
use Rattle.std.proofs.Common.{◌≡◌, ◌≢◌, inl, inr, ℕ, eqb, cond, List, [], ◌∷◌, ◌++◌, length, All, refl, sym, ◌∙◌, ap, arith, append-nil}
use Rattle.std.proofs.lemmas.Bool.{cases_eq}
use Rattle.std.proofs.lemmas.Bool.Decides.{nat_tests}
use Rattle.std.proofs.lemmas.List.Elements.{All-head, All-tail}
use Rattle.ost_types.specs.Path.{Path, AreNames, joined}
use Rattle.ost_types.specs.Split.{StartsName}

abbrev pub NoSlash : List ℕ → Type 0
NoSlash x = All (λ b. b ≢ 47) x

-- the bytes before the first `/`
unfoldable pub before : List ℕ → List ℕ
before [] = []
before (b ∷ t) = cond (eqb b 47) [] (b ∷ before t)

-- what stands behind each `/`, as far as the next one
unfoldable pub behind : List ℕ → Path
behind [] = []
behind (b ∷ t) = cond (eqb b 47) (before t ∷ behind t) (behind t)

before-append : (x t : List ℕ) → NoSlash x → before (x ++ t) ≡ x ++ before t
unfolding before
before-append [] t h = refl
before-append (b ∷ x) t h = grind (arith, nat_tests, All-head (λ b. b ≢ 47) b x h, before-append x t (All-tail (λ b. b ≢ 47) b x h))

behind-append : (x t : List ℕ) → NoSlash x → behind (x ++ t) ≡ behind t
unfolding behind
behind-append [] t h = refl
behind-append (b ∷ x) t h = grind (arith, nat_tests, All-head (λ b. b ≢ 47) b x h, behind-append x t (All-tail (λ b. b ≢ 47) b x h))

before-starts : (t : List ℕ) → StartsName t → before t ≡ []
unfolding before
before-starts [] h = refl
before-starts (b ∷ t) h = grind (arith, nat_tests, h)

behind-slash : (t : List ℕ) → behind (47 ∷ t) ≡ before t ∷ behind t
unfolding behind
behind-slash t = refl

pub behind-name : (x t : List ℕ) → NoSlash x → StartsName t → behind (47 ∷ (x ++ t)) ≡ x ∷ behind t
behind-name x t h s = behind-slash (x ++ t) ∙ rw (before-append x t h, before-starts t s, append-nil x, behind-append x t h) refl

StartsName-joined : (p : Path) → StartsName (joined p)
unfolding joined
StartsName-joined [] = tt
StartsName-joined (x ∷ p) = refl

pub behind-joined : (p : Path) → AreNames p → behind (joined p) ≡ p
unfolding joined behind
behind-joined [] h = refl
behind-joined (x ∷ p) h = behind-name x (joined p) h.0.no_slash (StartsName-joined p) ∙ ap (λ q. x ∷ q) (behind-joined p h.1)

whole : (t : List ℕ) → before t ++ joined (behind t) ≡ t
unfolding before behind joined
whole [] = refl
whole (b ∷ t) = elim (cases_eq b 47) [
  | inl e ↦ grind (arith, nat_tests, e, whole t)
  | inr e ↦ grind (arith, nat_tests, e, whole t)
]

pub joined-behind : (t : List ℕ) → StartsName t → joined (behind t) ≡ t
joined-behind t s = let w = whole t in let b = before-starts t s in rw b at w

pub joined-injective : (p q : Path) → AreNames p → AreNames q → joined p ≡ joined q → p ≡ q
joined-injective p q h g e = sym (behind-joined p h) ∙ ap behind e ∙ behind-joined q g

pub behind-nothing : (t : List ℕ) → length t ≡ 0 → behind t ≡ []
unfolding behind
behind-nothing [] e = refl
behind-nothing (b ∷ t) e = absurd (omega (arith, e))

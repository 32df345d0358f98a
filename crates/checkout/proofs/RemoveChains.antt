-- The open folders stand in one another.
use Rattle.std.proofs.Common.{◌≡◌, ℕ, ◌≤◌, ◌<◌, ◌+◌, arith, true, sym, ◌∙◌, ap, subst, List, [], ◌∷◌, length, length-append}
use Rattle.ost_types.specs.Path.{Name, Path, is_below, under}
use Rattle.ost_types.proofs.Paths.{is_below-self, is_below-under}
use Rattle.checkout.specs.RemoveFolder.{Opened}
use Rattle.checkout.specs.Remove.{IsChain}

-- each of the folders has fewer names on its path than this
abbrev pub Shorter : ℕ → List Opened → Type 0
Shorter n [] = Unit {0}
Shorter n (g ∷ outer) = (length g.path < n) × Shorter n outer

pub shorter_on : (m n : ℕ) (outer : List Opened) → m ≤ n → Shorter m outer → Shorter n outer
shorter_on m n [] le s = tt
shorter_on m n (g ∷ outer) le s = let a : length g.path < m = s.0 in (omega (arith, le, a), shorter_on m n outer le s.1)

pub length-under : (p : Path) (x : Name) → length (under p x) ≡ length p + 1
length-under p x = length-append p (x ∷ [])

module _ (at : Path) where
  pub chain_below : (f : Opened) (outer : List Opened) → IsChain at (f ∷ outer) → is_below at f.path ≡ true
  chain_below f [] e = subst (λ q. is_below at q ≡ true) (sym e) (is_below-self at)
  chain_below f (g ∷ outer) c = subst (λ q. is_below at q ≡ true) (sym c.0.1) (is_below-under at g.path c.0.0 (chain_below g outer c.1))

  longer : (f g : Opened) (x : Name) → f.path ≡ under g.path x → length f.path ≡ length g.path + 1
  longer f g x e = ap length e ∙ length-under g.path x

  pub chain_length : (f : Opened) (outer : List Opened) → IsChain at (f ∷ outer) → length outer ≤ length f.path
  chain_length f [] e = omega arith
  chain_length f (g ∷ outer) c =
      let a = chain_length g outer c.1 in
      let l = longer f g c.0.0 c.0.1 in
      omega (arith, a, l)

  pub chain_shorter : (f : Opened) (outer : List Opened) → IsChain at (f ∷ outer) → Shorter (length f.path) outer
  chain_shorter f [] e = tt
  chain_shorter f (g ∷ outer) c =
      let l = longer f g c.0.0 c.0.1 in
      (omega (arith, l), shorter_on (length g.path) (length f.path) outer (omega (arith, l)) (chain_shorter g outer c.1))

  -- what is left in the innermost folder makes no difference
  pub chain_same : (f g : Opened) (outer : List Opened) → g.path ≡ f.path → IsChain at (f ∷ outer) → IsChain at (g ∷ outer)
  chain_same f g [] e c = e ∙ c
  chain_same f g (h ∷ outer) e c = ((c.0.0, e ∙ c.0.1), c.1)

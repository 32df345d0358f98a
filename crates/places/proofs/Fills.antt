-- A path written name by name.
use Rattle.std.proofs.Common.{◌≡◌, ℕ, zero, suc, ◌+◌, ◌<◌, ◌≤◌, List, [], ◌∷◌, ◌++◌, length, take, get_or, sym, ◌∙◌, ap, subst, arith, add-one, length-append, append_assoc}
use Rattle.std.proofs.Math.Seq.{take-suc, take-length}
use Rattle.ost_types.specs.Path.{Name, Path, AreNames, IsPath}
use Rattle.ost_types.specs.Flat.{flat, names_of}
use Rattle.ost_types.proofs.Flats.{flat-push, names_of-flat, length-flat}
use Rattle.places.specs.Text.{IsFlat}

pub flat-next : (p : Path) (i : ℕ) (x : Name) → i < length p → x ≡ get_or p i x → flat (take (i + 1) p) ≡ flat (take i p) ++ (x ++ 0 ∷ [])
flat-next p i x h is = rw (add-one, take-suc p i x h, ← is) (flat-push (take i p) x)

flat-take : (p : Path) (i : ℕ) → length (flat (take i p)) ≤ length (flat p)
unfolding flat
flat-take p zero = omega arith
flat-take [] (suc i) = omega arith
flat-take (x ∷ p) (suc i) =
    let a : length (x ++ 0 ∷ flat (take i p)) ≡ length x + length (0 ∷ flat (take i p)) = length-append x (0 ∷ flat (take i p)) in
    let b : length (x ++ 0 ∷ flat p) ≡ length x + length (0 ∷ flat p) = length-append x (0 ∷ flat p) in
    let h = flat-take p i in
    omega (arith, a, b, h)

pub fits : (p : Path) (i : ℕ) (x : Name) → IsPath p → i < length p → x ≡ get_or p i x → length (flat (take i p)) + (length x + 1) ≤ 2048
fits p i x path h is =
    let a : length (flat (take i p) ++ (x ++ 0 ∷ [])) ≡ length (flat (take i p)) + length (x ++ 0 ∷ []) = length-append (flat (take i p)) (x ++ 0 ∷ []) in
    let e : length (x ++ 0 ∷ []) ≡ length x + 1 = length-append x (0 ∷ []) in
    let b : length (flat (take (i + 1) p)) ≡ length (flat (take i p) ++ (x ++ 0 ∷ [])) = ap length (flat-next p i x h is) in
    let t = flat-take p (i + 1) in
    let w : length (flat p) ≤ 2048 = length-flat p path in
    omega (arith, a, b, e, t, w)

pub whole : (t : List ℕ) (p : Path) (i : ℕ) → t ≡ flat (take i p) → i ≤ length p → length p ≤ i → t ≡ flat p
whole t p i is low high = let e : i ≡ length p = omega (arith, low, high) in is ∙ ap (λ k. flat (take k p)) e ∙ ap flat (take-length p)

pub read : (t : List ℕ) (p : Path) → AreNames p → t ≡ flat p → names_of t ≡ p
read t p names is = ap names_of is ∙ names_of-flat p names

pub back : (t : List ℕ) (p : Path) → AreNames p → t ≡ flat p → IsFlat t
back t p names is = record { whole = is ∙ sym (ap flat (read t p names is)); names = subst AreNames (sym (read t p names is)) names }

pub nothing : (t : List ℕ) → t ≡ [] → t ≡ flat []
unfolding flat
nothing t is = is

pub both : (t n m s x : List ℕ) → n ≡ t ++ s → s ≡ x → m ≡ n ++ 0 ∷ [] → m ≡ t ++ (x ++ 0 ∷ [])
both t n m s x first same then_ = then_ ∙ ap (λ l. l ++ 0 ∷ []) first ∙ append_assoc t s (0 ∷ []) ∙ ap (λ l. t ++ (l ++ 0 ∷ [])) same

-- The order of paths: what comes between a path and one below it lies below it too.
use Rattle.std.proofs.Common.{◌≡◌, ◌≢◌, ◌⊎◌, inl, inr, Bool, true, false, ◌&&◌, List, [], ◌∷◌, ◌++◌, length, take, refl, sym, ◌∙◌, ap}
use Rattle.std.specs.Cmp.{IsTotalOrder}
use Rattle.std.specs.Cmp.Lexicographic.{pointwise, slice_cmp}
use Rattle.std.specs.Ordering.{nat_cmp, ordering_then, ordering_reverse}
use Rattle.std.specs.FinMap.{nat_cmp-IsAntisymmetric, slice_cmp-IsAntisymmetric}
use Rattle.std.specs.declared.cmp.Ordering.{Ordering}
use Rattle.std.specs.declared.cmp.Ordering.TheVariants.{Less, Equal, Greater}
use Rattle.std.proofs.lemmas.Cmp.{nat_list_cmp_total, lists_total, tied_itself}
use Rattle.ost_types.specs.Path.{Name, Path, path_cmp, same_name, is_below}
use Rattle.ost_types.proofs.Paths.{same_name-Decides, is_below-self}

name_order : IsTotalOrder (slice_cmp nat_cmp)
name_order = nat_list_cmp_total

pub path_order : IsTotalOrder path_cmp
path_order = lists_total nat_list_cmp_total

pub same_from_Equal : (p q : Path) → path_cmp p q ≡ Equal → p ≡ q
same_from_Equal p q e = slice_cmp-IsAntisymmetric (slice_cmp-IsAntisymmetric nat_cmp-IsAntisymmetric) p q e

name_from_Equal : (x y : Name) → slice_cmp nat_cmp x y ≡ Equal → x ≡ y
name_from_Equal x y e = slice_cmp-IsAntisymmetric nat_cmp-IsAntisymmetric x y e

pub not_less_itself : (p : Path) → path_cmp p p ≡ Less → ⊥
not_less_itself p e = let f : path_cmp p p ≡ Equal = tied_itself path_order p in let g : Less ≡ Equal = sym e ∙ f in cc

pub apart_from_less : (p q : Path) → path_cmp p q ≡ Less → p ≢ q
apart_from_less p q less same = not_less_itself p (ap (λ r. path_cmp p r) same ∙ less)

pub turned : (p q : Path) → path_cmp p q ≡ Greater → path_cmp q p ≡ Less
turned p q e = path_order.antisymm q p ∙ ap ordering_reverse e

-- what doesn't come before is the same or comes after
pub not_before : (p q : Path) → path_cmp p q ≢ Less → (p ≡ q) ⊎ (path_cmp q p ≡ Less)
not_before p q not = go (path_cmp p q) refl
  where
    go : (o : Ordering) → path_cmp p q ≡ o → (p ≡ q) ⊎ (path_cmp q p ≡ Less)
    go Less e = absurd (not e)
    go Equal e = inl (same_from_Equal p q e)
    go Greater e = inr (turned p q e)

both : (a b : Bool) → a && b ≡ true → (a ≡ true) × (b ≡ true)
both true true e = (refl, refl)
both true false e = let n : false ≡ true = e in cc
both false b e = let n : false ≡ true = e in cc

step : (a x y : Name) (f p q : Path) (o : Ordering) → slice_cmp nat_cmp a x ≡ o → a ≡ y
    → (path_cmp f p ≡ Less → path_cmp p q ≡ Less → is_below f p ≡ true)
    → ordering_then (slice_cmp nat_cmp a x) (path_cmp f p) ≡ Less → ordering_then (slice_cmp nat_cmp x y) (path_cmp p q) ≡ Less
    → same_name a x && is_below f p ≡ true
step a x y f p q Less e same rest l r =
    let g : slice_cmp nat_cmp x y ≡ Greater = ap (λ z. slice_cmp nat_cmp x z) (sym same) ∙ name_order.antisymm x a ∙ ap ordering_reverse e in
    let n : Greater ≡ Less = ap (λ o. ordering_then o (path_cmp p q)) (sym g) ∙ r in
    cc
step a x y f p q Greater e same rest l r = let n : Greater ≡ Less = ap (λ o. ordering_then o (path_cmp f p)) (sym e) ∙ l in cc
step a x y f p q Equal e same rest l r =
    let g : slice_cmp nat_cmp x y ≡ Equal = ap (λ z. slice_cmp nat_cmp x z) (sym same) ∙ name_order.antisymm x a ∙ ap ordering_reverse e in
    let t : same_name a x ≡ true = (same_name-Decides a x).1 (name_from_Equal a x e) in
    let h : is_below f p ≡ true = rest (ap (λ o. ordering_then o (path_cmp f p)) (sym e) ∙ l) (ap (λ o. ordering_then o (path_cmp p q)) (sym g) ∙ r) in
    rw (t, h) refl

pub between : (f p q : Path) → path_cmp f p ≡ Less → path_cmp p q ≡ Less → is_below f q ≡ true → is_below f p ≡ true
unfolding is_below
between [] p q l r b = refl
between (a ∷ f) [] q l r b = let n : Greater ≡ Less = l in cc
between (a ∷ f) (x ∷ p) [] l r b = let n : Greater ≡ Less = r in cc
between (a ∷ f) (x ∷ p) (y ∷ q) l r b =
    let s = both _ _ b in
    step a x y f p q (slice_cmp nat_cmp a x) refl ((same_name-Decides a y).0 s.0) (λ l' r'. between f p q l' r' s.1) l r

-- a path comes before what lies below it
pub above_first : (f q : Path) → is_below f q ≡ true → f ≢ q → path_cmp f q ≡ Less
unfolding is_below
above_first [] [] e apart = absurd (apart refl)
above_first [] (x ∷ q) e apart = refl
above_first (a ∷ f) [] e apart = let n : false ≡ true = e in cc
above_first (a ∷ f) (x ∷ q) e apart =
    let s = both _ _ e in
    let t : a ≡ x = (same_name-Decides a x).0 s.0 in
    ap (λ o. ordering_then o (path_cmp f q)) (ap (λ z. slice_cmp nat_cmp a z) (sym t) ∙ tied_itself name_order a) ∙ above_first f q s.1 (λ h. apart (cc (t, h)))

pub below_then : (f p q : Path) → is_below f p ≡ true → is_below p q ≡ true → is_below f q ≡ true
unfolding is_below
below_then [] p q a b = refl
below_then (a ∷ f) [] q e b = let n : false ≡ true = e in cc
below_then (a ∷ f) (x ∷ p) [] e b = let n : false ≡ true = b in cc
below_then (a ∷ f) (x ∷ p) (y ∷ q) e b =
    let s = both _ _ e in
    let t = both _ _ b in
    let h : same_name a y ≡ true = (same_name-Decides a y).1 ((same_name-Decides a x).0 s.0 ∙ (same_name-Decides x y).0 t.0) in
    rw (h, below_then f p q s.1 t.1) refl

-- what lies below a path goes on from it
pub rest_below : (f q : Path) → is_below f q ≡ true → (r : Path) × (q ≡ f ++ r)
unfolding is_below
rest_below [] q e = (q, refl)
rest_below (a ∷ f) [] e = let n : false ≡ true = e in cc
rest_below (a ∷ f) (x ∷ q) e =
    let s = both _ _ e in
    let w = rest_below f q s.1 in
    let t : a ≡ x = (same_name-Decides a x).0 s.0 in
    (w.0, cc (t, w.1))

-- a path begins with another one
pub starts_below : (p q : Path) → pointwise same_name p (take (length p) q) ≡ is_below p q
unfolding is_below
starts_below [] q = refl
starts_below (a ∷ p) [] = refl
starts_below (a ∷ p) (x ∷ q) = ap (λ b. same_name a x && b) (starts_below p q)

pub starts_with_is : (p q needle hay : Path) → needle ≡ p → hay ≡ q → (b : Bool) → b ≡ pointwise same_name needle (take (length needle) hay) → b ≡ is_below p q
starts_with_is p q needle hay is at b told = told ∙ ap (λ n. pointwise same_name n (take (length n) hay)) is ∙ ap (λ h. pointwise same_name p (take (length p) h)) at ∙ starts_below p q

-- Paths in order: a folder comes before what lies below it, and what comes between a folder and a name in it lies below it too.
use Rattle.std.proofs.Common.{◌≡◌, ◌≢◌, Bool, true, false, ◌&&◌, [], ◌∷◌, refl, sym, ◌∙◌, ap}
use Rattle.std.specs.Cmp.{IsTotalOrder}
use Rattle.std.specs.Cmp.Lexicographic.{slice_cmp}
use Rattle.std.specs.Ordering.{nat_cmp, ordering_then, ordering_reverse}
use Rattle.std.specs.FinMap.{nat_cmp-IsAntisymmetric, slice_cmp-IsAntisymmetric}
use Rattle.std.specs.declared.cmp.Ordering.{Ordering}
use Rattle.std.specs.declared.cmp.Ordering.TheVariants.{Less, Equal, Greater}
use Rattle.std.proofs.lemmas.Cmp.{nat_list_cmp_total, lists_total, tied_itself}
use Rattle.ost_types.specs.Path.{Name, Path, path_cmp, same_name, under, is_below}
use Rattle.ost_types.proofs.Paths.{same_name-Decides}

name_order : IsTotalOrder (slice_cmp nat_cmp)
name_order = nat_list_cmp_total

pub path_order : IsTotalOrder path_cmp
path_order = lists_total nat_list_cmp_total

same_from_Equal : (x y : Name) → slice_cmp nat_cmp x y ≡ Equal → x ≡ y
same_from_Equal x y e = slice_cmp-IsAntisymmetric nat_cmp-IsAntisymmetric x y e

Equal-from_same : (x y : Name) → x ≡ y → slice_cmp nat_cmp x y ≡ Equal
Equal-from_same x y e = ap (λ z. slice_cmp nat_cmp x z) (sym e) ∙ tied_itself name_order x

pub not_less_itself : (p : Path) → path_cmp p p ≡ Less → ⊥
not_less_itself p e = let f : path_cmp p p ≡ Equal = tied_itself path_order p in let g : Less ≡ Equal = sym e ∙ f in cc

pub less_once : (p q : Path) → path_cmp p q ≡ Less → path_cmp q p ≡ Less → ⊥
less_once p q a b = not_less_itself p (path_order.trans p q p a b)

pub not_less_same : (p q : Path) → p ≡ q → path_cmp p q ≡ Less → ⊥
not_less_same p q same less = not_less_itself p (ap (λ r. path_cmp p r) same ∙ less)

pub none_before_root : (p : Path) → path_cmp p [] ≡ Less → ⊥
none_before_root [] e = let n : Equal ≡ Less = e in cc
none_before_root (a ∷ p) e = let n : Greater ≡ Less = e in cc

both : (a b : Bool) → a && b ≡ true → (a ≡ true) × (b ≡ true)
both true true e = (refl, refl)
both true false e = let n : false ≡ true = e in cc
both false b e = let n : false ≡ true = e in cc

pub above_first : (f q : Path) → is_below f q ≡ true → f ≢ q → path_cmp f q ≡ Less
unfolding is_below
above_first [] [] e apart = absurd (apart refl)
above_first [] (x ∷ q) e apart = refl
above_first (a ∷ f) [] e apart = let n : false ≡ true = e in cc
above_first (a ∷ f) (x ∷ q) e apart =
    let s = both _ _ e in
    let t : a ≡ x = (same_name-Decides a x).0 s.0 in
    ap (λ o. ordering_then o (path_cmp f q)) (Equal-from_same a x t) ∙ above_first f q s.1 (λ h. apart (cc (t, h)))

pub folder_first : (f : Path) (x : Name) → path_cmp f (under f x) ≡ Less
folder_first [] x = refl
folder_first (a ∷ f) x = ap (λ o. ordering_then o (path_cmp f (under f x))) (tied_itself name_order a) ∙ folder_first f x

below_step : (a b : Name) (f p : Path) (x : Name) (o : Ordering) → slice_cmp nat_cmp a b ≡ o
    → (path_cmp f p ≡ Less → path_cmp p (under f x) ≡ Less → is_below f p ≡ true)
    → ordering_then (slice_cmp nat_cmp a b) (path_cmp f p) ≡ Less → ordering_then (slice_cmp nat_cmp b a) (path_cmp p (under f x)) ≡ Less
    → same_name a b && is_below f p ≡ true
below_step a b f p x Less e rest l r =
    let g : slice_cmp nat_cmp b a ≡ Greater = name_order.antisymm b a ∙ ap ordering_reverse e in
    let n : Greater ≡ Less = ap (λ o. ordering_then o (path_cmp p (under f x))) (sym g) ∙ r in
    cc
below_step a b f p x Greater e rest l r = let n : Greater ≡ Less = ap (λ o. ordering_then o (path_cmp f p)) (sym e) ∙ l in cc
below_step a b f p x Equal e rest l r =
    let g : slice_cmp nat_cmp b a ≡ Equal = name_order.antisymm b a ∙ ap ordering_reverse e in
    let t : same_name a b ≡ true = (same_name-Decides a b).1 (same_from_Equal a b e) in
    let h : is_below f p ≡ true = rest (ap (λ o. ordering_then o (path_cmp f p)) (sym e) ∙ l) (ap (λ o. ordering_then o (path_cmp p (under f x))) (sym g) ∙ r) in
    rw (t, h) refl

pub between : (f p : Path) (x : Name) → path_cmp f p ≡ Less → path_cmp p (under f x) ≡ Less → is_below f p ≡ true
unfolding is_below
between [] p x l r = refl
between (a ∷ f) [] x l r = let n : Greater ≡ Less = l in cc
between (a ∷ f) (b ∷ p) x l r = below_step a b f p x (slice_cmp nat_cmp a b) refl (between f p x) l r

first_by : (o : Ordering) → ordering_then o Equal ≡ Less → o ≡ Less
first_by Less e = refl
first_by Equal e = e
first_by Greater e = e

-- names in one folder ascend where their paths do
pub names_ascend : (f : Path) (x y : Name) → path_cmp (under f x) (under f y) ≡ Less → slice_cmp nat_cmp x y ≡ Less
names_ascend [] x y e = first_by (slice_cmp nat_cmp x y) e
names_ascend (a ∷ f) x y e = names_ascend f x y (ap (λ o. ordering_then o (path_cmp (under f x) (under f y))) (sym (tied_itself name_order a)) ∙ e)

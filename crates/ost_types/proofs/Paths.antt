-- What the tests on paths say.
use Rattle.std.proofs.Common.{◌≡◌, ◌≢◌, ◌⊎◌, inl, inr, Bool, true, false, ◌&&◌, [], ◌∷◌, refl, sym, ap}
use Rattle.std.specs.Bool.{Decides}
use Rattle.std.proofs.lemmas.Bool.Decides.{Decides-eqb}
use Rattle.std.proofs.lemmas.Slice.Eq.{slice_eq-Decides}
use Rattle.ost_types.specs.Path.{Name, Path, same_name, same_path, under, is_in, is_below}

pub same_name-Decides : (x y : Name) → Decides (same_name x y) (x ≡ y)
same_name-Decides x y = slice_eq-Decides Decides-eqb x y _ refl

pub same_path-Decides : (p q : Path) → Decides (same_path p q) (p ≡ q)
unfolding same_path
same_path-Decides p q = slice_eq-Decides same_name-Decides p q _ refl

pub same_path-self : (p : Path) → same_path p p ≡ true
same_path-self p = (same_path-Decides p p).1 refl

no_test : (b : Bool) (P : Type 0) → Decides b P → (P → ⊥) → b ≡ false
no_test true P d none = absurd (none (d.0 refl))
no_test false P d none = refl

pub same_path-apart : (p q : Path) → p ≢ q → same_path p q ≡ false
same_path-apart p q apart = no_test _ _ (same_path-Decides p q) apart

by_test : (b : Bool) (P : Type 0) → Decides b P → P ⊎ (P → ⊥)
by_test true P d = inl (d.0 refl)
by_test false P d = inr (λ p. let e : false ≡ true = d.1 p in cc)

pub same_or_apart : (p q : Path) → (p ≡ q) ⊎ (p ≢ q)
same_or_apart p q = by_test _ _ (same_path-Decides p q)

pub is_in-under : (f : Path) (x : Name) → is_in f (under f x) ≡ true
unfolding is_in
is_in-under [] x = refl
is_in-under (a ∷ f) x = let e : same_name a a ≡ true = (same_name-Decides a a).1 refl in rw (e, is_in-under f x) refl

both : (a b : Bool) → a && b ≡ true → (a ≡ true) × (b ≡ true)
both true true e = (refl, refl)
both true false e = let n : false ≡ true = e in cc
both false b e = let n : false ≡ true = e in cc

pub under-is_in : (f q : Path) → is_in f q ≡ true → (x : Name) × (q ≡ under f x)
unfolding is_in
under-is_in [] [] e = let n : false ≡ true = e in cc
under-is_in [] (x ∷ []) e = (x, refl)
under-is_in [] (x ∷ y ∷ q) e = let n : false ≡ true = e in cc
under-is_in (a ∷ f) [] e = let n : false ≡ true = e in cc
under-is_in (a ∷ f) (x ∷ q) e =
    let b = both _ _ e in
    let rest = under-is_in f q b.1 in
    let head : a ≡ x = (same_name-Decides a x).0 b.0 in
    (rest.0, cc (head, rest.1))

-- a folder isn't a name in itself
pub is_in-self : (f : Path) → is_in f f ≡ false
unfolding is_in
is_in-self [] = refl
is_in-self (a ∷ f) = let e : same_name a a ≡ true = (same_name-Decides a a).1 refl in rw (e, is_in-self f) refl

pub root_or_under : (p : Path) → (p ≡ []) ⊎ ((f : Path) × (x : Name) × (p ≡ under f x))
root_or_under [] = inl refl
root_or_under (a ∷ p) = inr (longer a (root_or_under p))
  where
    longer : (a : Name) {p : Path} → (p ≡ []) ⊎ ((f : Path) × (x : Name) × (p ≡ under f x)) → (f : Path) × (x : Name) × (a ∷ p ≡ under f x)
    longer a (inl e) = ([], a, ap (λ q. a ∷ q) e)
    longer a (inr w) = (a ∷ w.0, w.1, ap (λ q. a ∷ q) w.2)

pub under-not_root : (f : Path) (x : Name) → under f x ≢ []
under-not_root [] x e = cc
under-not_root (a ∷ f) x e = cc

pub under-folder : (f g : Path) (x y : Name) → under f x ≡ under g y → f ≡ g
under-folder [] [] x y e = refl
under-folder [] (b ∷ g) x y e = let t : [] ≡ under g y = cc in absurd (under-not_root g y (sym t))
under-folder (a ∷ f) [] x y e = let t : under f x ≡ [] = cc in absurd (under-not_root f x t)
under-folder (a ∷ f) (b ∷ g) x y e = let t : under f x ≡ under g y = cc in let h : a ≡ b = cc in cc (h, under-folder f g x y t)

-- a name in a folder isn't that folder
pub under-not_folder : (f : Path) (x : Name) → under f x ≢ f
under-not_folder [] x e = cc
under-not_folder (a ∷ f) x e = let t : under f x ≡ f = cc in under-not_folder f x t

pub is_below-self : (p : Path) → is_below p p ≡ true
unfolding is_below
is_below-self [] = refl
is_below-self (a ∷ p) = let e : same_name a a ≡ true = (same_name-Decides a a).1 refl in rw (e, is_below-self p) refl

pub is_below-under : (p g : Path) (x : Name) → is_below p g ≡ true → is_below p (under g x) ≡ true
unfolding is_below
is_below-under [] g x e = refl
is_below-under (a ∷ p) [] x e = let n : false ≡ true = e in cc
is_below-under (a ∷ p) (b ∷ g) x e = let s = both _ _ e in let t : same_name a b ≡ true = s.0 in rw (t, is_below-under p g x s.1) refl

-- what lies below a path is that path, or its folder lies there too
pub under-is_below : (p g : Path) (x : Name) → is_below p (under g x) ≡ true → (is_below p g ≡ true) ⊎ (p ≡ under g x)
unfolding is_below
under-is_below [] g x e = inl refl
under-is_below (a ∷ []) [] x e = let s = both _ _ e in inr (let t : a ≡ x = (same_name-Decides a x).0 s.0 in cc)
under-is_below (a ∷ b ∷ p) [] x e = let s = both _ _ e in let n : false ≡ true = s.1 in cc
under-is_below (a ∷ p) (b ∷ g) x e =
    let s = both _ _ e in
    let t : a ≡ b = (same_name-Decides a b).0 s.0 in
    go t (under-is_below p g x s.1)
  where
    go : a ≡ b → (is_below p g ≡ true) ⊎ (p ≡ under g x) → (is_below (a ∷ p) (b ∷ g) ≡ true) ⊎ (a ∷ p ≡ b ∷ under g x)
    go t (inl below) = inl (let h : same_name a b ≡ true = (same_name-Decides a b).1 t in rw (h, below) refl)
    go t (inr is) = inr (cc (t, is))

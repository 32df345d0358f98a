-- The order of paths, of which one is above another.
use Rattle.std.proofs.Common.{◌≡◌, ◌≢◌, true, false, refl, sym, ◌∙◌, ap, subst, [], ◌∷◌, ◌++◌, append-nil, append_assoc}
use Rattle.std.specs.Cmp.Lexicographic.{slice_cmp}
use Rattle.std.specs.Cmp.{IsTotalOrder}
use Rattle.std.specs.Ordering.{nat_cmp, is_eq, ordering_reverse}
use Rattle.std.specs.declared.cmp.Ordering.{Ordering}
use Rattle.std.specs.declared.cmp.Ordering.TheVariants.{Less, Equal, Greater}
use Rattle.std.proofs.lemmas.Cmp.{nat_list_cmp_total, lists_total, eq_by_cmp_equiv}
use Rattle.ost_types.specs.Path.{Name, Path, path_cmp, under}

path_order : IsTotalOrder path_cmp
path_order = lists_total nat_list_cmp_total

equal : (o : Ordering) → is_eq o ≡ true → o ≡ Equal
equal Less e = let n : false ≡ true = e in cc
equal Equal e = refl
equal Greater e = let n : false ≡ true = e in cc

name_itself : (x : Name) → slice_cmp nat_cmp x x ≡ Equal
name_itself x = equal (slice_cmp nat_cmp x x) ((eq_by_cmp_equiv nat_list_cmp_total).refl x)

pub not_both_less : (p q : Path) → path_cmp p q ≡ Less → path_cmp q p ≡ Less → ⊥
not_both_less p q a b = let c : path_cmp p q ≡ Greater = path_order.antisymm p q ∙ rw b refl in let n : Less ≡ Greater = sym a ∙ c in cc

pub not_less_itself : (p : Path) → path_cmp p p ≡ Less → ⊥
not_less_itself p e = not_both_less p p e e

pub less_trans : (p q r : Path) → path_cmp p q ≡ Less → path_cmp q r ≡ Less → path_cmp p r ≡ Less
less_trans p q r a b = path_order.trans p q r a b

-- the same of names
pub name_trans : (x y z : Name) → slice_cmp nat_cmp x y ≡ Less → slice_cmp nat_cmp y z ≡ Less → slice_cmp nat_cmp x z ≡ Less
name_trans x y z a b = nat_list_cmp_total.trans x y z a b

pub not_name_itself : (x : Name) → slice_cmp nat_cmp x x ≡ Less → ⊥
not_name_itself x less = let n : Less ≡ Equal = sym less ∙ name_itself x in cc

-- what is before one path is before another that isn't
pub less_before : (r p q : Path) → path_cmp r p ≡ Less → path_cmp q p ≢ Less → path_cmp r q ≡ Less
less_before r p q before after = by (path_cmp p q) refl
  where
    by : (o : Ordering) → path_cmp p q ≡ o → path_cmp r q ≡ Less
    by Less e = path_order.trans r p q before e
    by Equal e = path_order.antisymm r q ∙ ap ordering_reverse (sym (path_order.congr p q r e)) ∙ sym (path_order.antisymm r p) ∙ before
    by Greater e = absurd (after (path_order.antisymm q p ∙ ap ordering_reverse e))

-- a common front decides nothing
common : (f p q : Path) → path_cmp (f ++ p) (f ++ q) ≡ path_cmp p q
common [] p q = refl
common (x ∷ f) p q = rw (name_itself x) (common f p q)

pub not_less_below : (at rest : Path) → path_cmp (at ++ rest) at ≡ Less → ⊥
not_less_below at [] e = not_less_itself at (subst (λ q. path_cmp q at ≡ Less) (append-nil at) e)
not_less_below at (x ∷ rest) e =
    let g : path_cmp (at ++ x ∷ rest) at ≡ Greater = ap (path_cmp (at ++ x ∷ rest)) (sym (append-nil at)) ∙ common at (x ∷ rest) [] in
    let n : Less ≡ Greater = sym e ∙ g in cc

pub less_by_name : (at : Path) (x y : Name) (r s : Path) → slice_cmp nat_cmp x y ≡ Less → path_cmp (under at x ++ r) (under at y ++ s) ≡ Less
less_by_name at x y r s less =
    ap (λ q. path_cmp q (under at y ++ s)) (append_assoc at (x ∷ []) r)
    ∙ ap (path_cmp (at ++ x ∷ r)) (append_assoc at (y ∷ []) s)
    ∙ common at (x ∷ r) (y ∷ s)
    ∙ rw less refl

-- paths that differ in their last names alone come as these do
by_last : (x y : Name) (o : Ordering) → slice_cmp nat_cmp x y ≡ o → path_cmp (x ∷ []) (y ∷ []) ≡ Less → slice_cmp nat_cmp x y ≡ Less
by_last x y Less is less = is
by_last x y Equal is less = let c : path_cmp (x ∷ []) (y ∷ []) ≡ Equal = rw is refl in let n : Equal ≡ Less = sym c ∙ less in cc
by_last x y Greater is less = let c : path_cmp (x ∷ []) (y ∷ []) ≡ Greater = rw is refl in let n : Greater ≡ Less = sym c ∙ less in cc

pub less_names : (at : Path) (a x y : Name) → path_cmp (at ++ a ∷ x ∷ []) (at ++ a ∷ y ∷ []) ≡ Less → slice_cmp nat_cmp x y ≡ Less
less_names at a x y less = by_last x y (slice_cmp nat_cmp x y) refl (sym (common (a ∷ []) (x ∷ []) (y ∷ [])) ∙ sym (common at (a ∷ x ∷ []) (a ∷ y ∷ [])) ∙ less)

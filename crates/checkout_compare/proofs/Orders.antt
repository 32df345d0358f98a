-- The order of paths, and the lesser of those of which there may be none.
use Rattle.std.proofs.Common.{◌≡◌, ◌⊎◌, inl, inr, Bool, true, false, refl, sym, ◌∙◌, ap, subst, [], ◌∷◌, ◌++◌, Option, Some, None}
use Rattle.std.specs.Prelude.{IsTrue}
use Rattle.std.specs.Cmp.{IsTotalOrder}
use Rattle.std.specs.Cmp.Lexicographic.{slice_cmp}
use Rattle.std.specs.FinMap.{nat_cmp-IsAntisymmetric, slice_cmp-IsAntisymmetric}
use Rattle.std.specs.Ordering.{nat_cmp, ordering_reverse}
use Rattle.std.specs.declared.cmp.Ordering.{Ordering}
use Rattle.std.specs.declared.cmp.Ordering.TheVariants.{Less, Equal, Greater}
use Rattle.std.proofs.lemmas.Cmp.{nat_list_cmp_total, lists_total, tied_itself}
use Rattle.ost_types.specs.Path.{Name, Path, path_cmp, under}
use Rattle.checkout_compare.specs.Order.{ComesBefore, IsLesser, IsUpTo}

pub path_order : IsTotalOrder path_cmp
path_order = lists_total nat_list_cmp_total

same_from_equal : (p q : Path) → path_cmp p q ≡ Equal → p ≡ q
same_from_equal p q e = slice_cmp-IsAntisymmetric (slice_cmp-IsAntisymmetric nat_cmp-IsAntisymmetric) p q e

pub not_itself : (p : Path) → path_cmp p p ≡ Less → ⊥
not_itself p less = let n : Equal ≡ Less = sym (tied_itself path_order p) ∙ less in cc

pub not_both : (p q : Path) → path_cmp p q ≡ Less → path_cmp q p ≡ Less → ⊥
not_both p q less back = not_itself p (path_order.trans p q p less back)

-- what lies below a path comes after it
pub later_below : (f : Path) (x : Name) (rest : Path) → path_cmp f (f ++ x ∷ rest) ≡ Less
later_below [] x rest = refl
later_below (a ∷ f) x rest = rw (tied_itself nat_list_cmp_total a) (later_below f x rest)

-- names in a folder come as they do by themselves
pub less_by_name : (f : Path) (x y : Name) → slice_cmp nat_cmp x y ≡ Less → path_cmp (under f x) (under f y) ≡ Less
less_by_name [] x y less = rw less refl
less_by_name (a ∷ f) x y less = rw (tied_itself nat_list_cmp_total a) (less_by_name f x y less)

-- what comes before a path comes before each that doesn't come before that path
pub before_other : (q p b : Path) → path_cmp q p ≡ Less → ¬ (path_cmp b p ≡ Less) → path_cmp q b ≡ Less
before_other q p b less none = by (path_cmp b p) refl
  where
    by : (o : Ordering) → path_cmp b p ≡ o → path_cmp q b ≡ Less
    by Less is = absurd (none is)
    by Equal is = subst (λ r. path_cmp q r ≡ Less) (sym (same_from_equal b p is)) less
    by Greater is = path_order.trans q p b less (path_order.antisymm p b ∙ ap ordering_reverse is)

-- paths of which neither comes before the other are one
pub not_apart : (p q : Path) → ¬ (path_cmp p q ≡ Less) → ¬ (path_cmp q p ≡ Less) → p ≡ q
not_apart p q first second = by (path_cmp p q) refl
  where
    by : (o : Ordering) → path_cmp p q ≡ o → p ≡ q
    by Less is = absurd (first is)
    by Equal is = same_from_equal p q is
    by Greater is = absurd (second (path_order.antisymm q p ∙ ap ordering_reverse is))

-- ---- of which there may be none

pub up_to_later : (o : Option Path) (p q : Path) → IsUpTo o p → (p ≡ q) ⊎ (path_cmp p q ≡ Less) → IsUpTo o q
up_to_later None p q h later = h
up_to_later (Some b) p q h (inl same) = subst (IsUpTo (Some b)) same h
up_to_later (Some b) p q h (inr less) = λ before. h (path_order.trans p q b less before)

-- none before it, and yet up to what comes before the path
pub no_earlier : (o : Option Path) (p q : Path) → ¬ (ComesBefore o p) → path_cmp q p ≡ Less → IsUpTo o q → ⊥
no_earlier None p q none less h = h
no_earlier (Some b) p q none less h = h (before_other q p b less none)

first_is : (one : Option Path) (p : Path) → ComesBefore one p → IsLesser one (Some p) one
first_is None p less = absurd less
first_is (Some b) p less = record { either = inl refl; first = λ q h. h; second = λ q h. λ before. h (path_order.trans q b p before less) }

second_is : (one : Option Path) (p : Path) → ¬ (ComesBefore one p) → IsLesser one (Some p) (Some p)
second_is None p none = record { either = inr refl; first = λ q h. absurd h; second = λ q h. h }
second_is (Some b) p none = record { either = inr refl; first = λ q h. λ before. h (before_other q p b before none); second = λ q h. h }

pub lesser_first : (one other : Option Path) (p : Path) → other ≡ Some p → ComesBefore one p → IsLesser one other one
lesser_first one other p is less = subst (λ o. IsLesser one o one) (sym is) (first_is one p less)

pub lesser_second : (one other : Option Path) (p : Path) → other ≡ Some p → ¬ (ComesBefore one p) → IsLesser one other (Some p)
lesser_second one other p is none = subst (λ o. IsLesser one o (Some p)) (sym is) (second_is one p none)

-- ---- a test that failed

pub not_so : {P : Type 0} (b : Bool) → b ≡ false → (P → IsTrue b) → ¬ P
not_so b off test = λ p. let n : false ≡ true = sym off ∙ test p in cc

-- A path can be read back from its flat list, and the order of these lists is the order of the paths.
use Rattle.std.proofs.Common.{◌≡◌, ◌≢◌, ℕ, zero, suc, ◌≤◌, Bool, true, false, nat_eq, List, [], ◌∷◌, ◌++◌, length, All, refl, sym, ◌∙◌, ap, arith, length-append, append_assoc}
use Rattle.std.specs.Cmp.Lexicographic.{pointwise, slice_cmp}
use Rattle.std.specs.Ordering.{nat_cmp, ordering_then}
use Rattle.std.specs.declared.cmp.Ordering.{Ordering}
use Rattle.std.specs.declared.cmp.Ordering.TheVariants.{Less, Equal, Greater}
use Rattle.ost_types.specs.Path.{Name, Path, AreNames, IsPath, joined, text_of, path_cmp}
use Rattle.ost_types.specs.Flat.{flat, begun_by, names_of}
use Rattle.ost_types.proofs.Paths.{same_name-Decides}

abbrev pub NoZero : List ℕ → Type 0
NoZero x = All (λ b. b ≢ 0) x

first_not_zero : (b : ℕ) (x : List ℕ) → NoZero (b ∷ x) → b ≢ 0
first_not_zero b x h = h zero b (omega (arith))

rest_no_zero : (b : ℕ) (x : List ℕ) → NoZero (b ∷ x) → NoZero x
rest_no_zero b x h = λ k d less. h (suc k) d (omega (arith, less))

names_of-name : (x t : List ℕ) → NoZero x → names_of (x ++ 0 ∷ t) ≡ x ∷ names_of t
unfolding names_of
names_of-name [] t h = refl
names_of-name (zero ∷ x) t h = absurd (first_not_zero zero x h refl)
names_of-name (suc b ∷ x) t h = ap (λ p. begun_by (suc b) p) (names_of-name x t (rest_no_zero (suc b) x h))

pub names_of-flat : (p : Path) → AreNames p → names_of (flat p) ≡ p
unfolding flat names_of
names_of-flat [] h = refl
names_of-flat (x ∷ p) h = names_of-name x (flat p) h.0.text.no_zero ∙ ap (λ q. x ∷ q) (names_of-flat p h.1)

pub flat-injective : (p q : Path) → AreNames p → AreNames q → flat p ≡ flat q → p ≡ q
flat-injective p q h g e = sym (names_of-flat p h) ∙ ap names_of e ∙ names_of-flat q g

pub flat-append : (p q : Path) → flat (p ++ q) ≡ flat p ++ flat q
unfolding flat
flat-append [] q = refl
flat-append (y ∷ p) q = ap (λ r. y ++ 0 ∷ r) (flat-append p q) ∙ sym (append_assoc y (0 ∷ flat p) (flat q))

pub flat-push : (p : Path) (x : Name) → flat (p ++ x ∷ []) ≡ flat p ++ (x ++ 0 ∷ [])
unfolding flat
flat-push p x = flat-append p (x ∷ [])

length-joined : (p : Path) → length (flat p) ≡ length (joined p)
unfolding flat joined
length-joined [] = refl
length-joined (x ∷ p) = omega (arith, length-append x (0 ∷ flat p), length-append x (joined p), length-joined p)

flat-text : (p : Path) → length (flat p) ≤ length (text_of p)
unfolding flat
flat-text [] = omega arith
flat-text (x ∷ p) = omega (arith, length-joined (x ∷ p))

-- a flat list is no longer than the text of its path
pub length-flat : (p : Path) → IsPath p → length (flat p) ≤ 2048
length-flat p h = omega (arith, flat-text p, h.short)

then_then : (a b c : Ordering) → ordering_then (ordering_then a b) c ≡ ordering_then a (ordering_then b c)
then_then Less b c = refl
then_then Equal b c = refl
then_then Greater b c = refl

-- two names with what follows them compare as the names, and then as what follows
ended-cmp : (x y r s : List ℕ) → NoZero x → NoZero y → slice_cmp nat_cmp (x ++ 0 ∷ r) (y ++ 0 ∷ s) ≡ ordering_then (slice_cmp nat_cmp x y) (slice_cmp nat_cmp r s)
ended-cmp [] [] r s h g = refl
ended-cmp [] (zero ∷ y) r s h g = absurd (first_not_zero zero y g refl)
ended-cmp [] (suc b ∷ y) r s h g = ap (λ o. ordering_then o (slice_cmp nat_cmp r (y ++ 0 ∷ s))) (below b)
  where
    below : (b : ℕ) → nat_cmp 0 (suc b) ≡ Less
    below b = grind arith
ended-cmp (zero ∷ x) [] r s h g = absurd (first_not_zero zero x h refl)
ended-cmp (suc a ∷ x) [] r s h g = ap (λ o. ordering_then o (slice_cmp nat_cmp (x ++ 0 ∷ r) s)) (above a)
  where
    above : (a : ℕ) → nat_cmp (suc a) 0 ≡ Greater
    above a = grind arith
ended-cmp (a ∷ x) (b ∷ y) r s h g =
    ap (λ o. ordering_then (nat_cmp a b) o) (ended-cmp x y r s (rest_no_zero a x h) (rest_no_zero b y g)) ∙ sym (then_then (nat_cmp a b) (slice_cmp nat_cmp x y) (slice_cmp nat_cmp r s))

none_first : (x r : List ℕ) → slice_cmp nat_cmp [] (x ++ 0 ∷ r) ≡ Less
none_first [] r = refl
none_first (b ∷ x) r = refl

none_second : (x r : List ℕ) → slice_cmp nat_cmp (x ++ 0 ∷ r) [] ≡ Greater
none_second [] r = refl
none_second (b ∷ x) r = refl

-- flat lists are in the order of their paths
pub flat-cmp : (p q : Path) → AreNames p → AreNames q → slice_cmp nat_cmp (flat p) (flat q) ≡ path_cmp p q
unfolding flat
flat-cmp [] [] h g = refl
flat-cmp [] (y ∷ q) h g = none_first y (flat q)
flat-cmp (x ∷ p) [] h g = none_second x (flat p)
flat-cmp (x ∷ p) (y ∷ q) h g =
    ended-cmp x y (flat p) (flat q) h.0.text.no_zero g.0.text.no_zero ∙ ap (λ o. ordering_then (slice_cmp nat_cmp x y) o) (flat-cmp p q h.1 g.1)

-- what a test of two flat lists says of their paths
module _ (t s : List ℕ) (p q : Path) (names : AreNames p) (other_names : AreNames q) (first : t ≡ flat p) (second : s ≡ flat q) where
  pub texts_same : (b : Bool) → b ≡ pointwise nat_eq t s → b ≡ true → p ≡ q
  texts_same b test holds = flat-injective p q names other_names (sym first ∙ (same_name-Decides t s).0 (sym test ∙ holds) ∙ second)

  pub texts_apart : (b : Bool) → b ≡ pointwise nat_eq t s → b ≡ false → p ≢ q
  texts_apart b test fails e = let r : true ≡ false = sym ((same_name-Decides t s).1 (first ∙ ap flat e ∙ sym second)) ∙ sym test ∙ fails in cc

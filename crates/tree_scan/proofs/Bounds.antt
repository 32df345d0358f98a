-- The paths in the folder keep the bounds of paths.
use Rattle.std.proofs.Common.{◌≡◌, ◌≤◌, ◌+◌, arith, refl, subst, List, [], ◌∷◌, ◌++◌, length, length-append, map, append_assoc}
use Rattle.std.specs.Prelude.{All, Bool, true}
use Rattle.std.specs.List.{AllByRecursion}
use Rattle.std.proofs.lemmas.List.Elements.{All-from_recursion}
use Rattle.ost_types.specs.Path.{Name, Path, AreNames, IsPath, joined, text_of, under}
use Rattle.tree_scan.specs.Scanning.{AreWithin}
use Rattle.tree_scan.specs.Steps.{AllFit}
use Rattle.tree_scan.proofs.Orders.{both}

names_behind : (at p : Path) → AreNames (at ++ p) → AreNames p
names_behind [] p names = names
names_behind (x ∷ at) p names = names_behind at p names.1

-- the text behind a part of a path is no longer than all of it
joined_behind : (at p : Path) → length (joined p) ≤ length (joined (at ++ p))
unfolding joined
joined_behind [] p = omega arith
joined_behind (x ∷ at) p =
    let rest = joined_behind at p in
    let l : length (x ++ joined (at ++ p)) ≡ length x + length (joined (at ++ p)) = length-append x (joined (at ++ p)) in
    omega (arith, rest, l)

text_some : (x : Name) (at p : Path) → length (text_of (at ++ x ∷ p)) ≡ length (joined (at ++ x ∷ p))
text_some x [] p = refl
text_some x (y ∷ at) p = refl

path_behind : (at p : Path) → IsPath (at ++ p) → IsPath p
path_behind at [] path = record { names = tt; few = omega arith; short = omega arith }
path_behind at (x ∷ p) path =
    let few : length (at ++ x ∷ p) ≤ 80 = path.few in
    let l : length (at ++ x ∷ p) ≡ length at + length (x ∷ p) = length-append at (x ∷ p) in
    let short : length (text_of (at ++ x ∷ p)) ≤ 2048 = path.short in
    let e = text_some x at p in
    let j = joined_behind at (x ∷ p) in
    record { names = names_behind at (x ∷ p) path.names; few = omega (arith, few, l); short = omega (arith, short, e, j) }

module _ (at p : Path) where
  whole : (x : Name) → under (at ++ p) x ≡ at ++ under p x
  whole x = append_assoc at p (x ∷ [])

  inside : (names : List Name) → AllByRecursion (λ x. IsPath (under (at ++ p) x)) names → AllByRecursion (λ x. IsPath (under p x)) names
  inside [] h = tt
  inside (x ∷ names) h = (path_behind at (under p x) (subst IsPath (whole x) h.0), inside names h.1)

  within : (names : List Name) → AllByRecursion (λ x. IsPath (under (at ++ p) x)) names → AreWithin at (map (under p) names)
  within [] h = tt
  within (x ∷ names) h = (subst IsPath (whole x) h.0, within names h.1)

  module _ (folder : Path) (is : folder ≡ at ++ p) (names : List Name) (b : Bool) (fits : AllFit folder names b) (all : b ≡ true) where
    fit : AllByRecursion (λ x. IsPath (under (at ++ p) x)) names
    fit = subst (λ f. AllByRecursion (λ x. IsPath (under f x)) names) is (subst (AllFit folder names) all fits)

    -- names that fit a folder on the disk fit it in the folder that is read
    pub fit_inside : All (λ x. IsPath (under p x)) names
    fit_inside = All-from_recursion (λ x. IsPath (under p x)) names (inside names fit)

    pub children_within : AreWithin at (map (under p) names)
    children_within = within names fit

-- more paths behind the first ones
pub within_more : (at : Path) (front below rest : List Path) → AreWithin at (front ++ rest) → AreWithin at below → AreWithin at (front ++ (below ++ rest))
within_more at [] below rest h g = both (λ p. IsPath (at ++ p)) below rest g h
within_more at (p ∷ front) below rest h g = (h.0, within_more at front below rest h.1 g)

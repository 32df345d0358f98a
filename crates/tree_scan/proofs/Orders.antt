-- The order of paths, of those that wait and of those that were read.
use Rattle.std.proofs.Common.{◌≡◌, List, [], ◌∷◌, ◌++◌, map, refl, sym, ◌∙◌, ap, subst, append-nil, append_assoc}
use Rattle.std.specs.List.{AllByRecursion}
use Rattle.std.specs.List.Sorted.{IsStrictlySortedBy}
use Rattle.std.specs.Cmp.{IsTotalOrder}
use Rattle.std.specs.Cmp.Lexicographic.{slice_cmp}
use Rattle.std.specs.Ordering.{nat_cmp}
use Rattle.std.specs.declared.cmp.Ordering.TheVariants.{Less, Equal, Greater}
use Rattle.std.proofs.lemmas.Cmp.{nat_list_cmp_total, lists_total, tied_itself}
use Rattle.ost_types.specs.declared.node.NodeName.{NodeName}
use Rattle.ost_types.specs.Path.{Name, Path, path_cmp, under}
use Rattle.ost_types.specs.PathMap.{Nodes, IsAscending, paths_of}
use Rattle.tree_scan.specs.SoFar.{ComesBefore, AreInLine, ComesAfter}

path_order : IsTotalOrder path_cmp
path_order = lists_total nat_list_cmp_total

-- a common front decides nothing
common : (f p q : Path) → path_cmp (f ++ p) (f ++ q) ≡ path_cmp p q
common [] p q = refl
common (x ∷ f) p q = rw (tied_itself nat_list_cmp_total x) (common f p q)

less_below : (p : Path) (x : Name) → path_cmp p (under p x) ≡ Less
less_below p x = ap (λ q. path_cmp q (under p x)) (sym (append-nil p)) ∙ common p [] (x ∷ [])

less_by_name : (p : Path) (x y : Name) (rest : Path) → slice_cmp nat_cmp x y ≡ Less → path_cmp (under p x ++ rest) (under p y) ≡ Less
less_by_name p x y rest less = ap (λ q. path_cmp q (under p y)) (append_assoc p (x ∷ []) rest) ∙ common p (x ∷ rest) (y ∷ []) ∙ rw less refl

-- a path below another doesn't come before it
pub not_above : (p rest : Path) → path_cmp (p ++ rest) p ≡ Less → ⊥
not_above p [] less = let n : Equal ≡ Less = sym (common p [] []) ∙ ap (path_cmp (p ++ [])) (append-nil p) ∙ less in cc
not_above p (x ∷ rest) less = let n : Greater ≡ Less = sym (common p (x ∷ rest) []) ∙ ap (path_cmp (p ++ x ∷ rest)) (append-nil p) ∙ less in cc

-- what lies at a path or below it doesn't come before one that the path comes after
pub not_before : (p q rest : Path) → ComesBefore p q → path_cmp (q ++ rest) p ≡ Less → ⊥
not_before p q rest first less = not_above q rest (path_order.trans (q ++ rest) p q less (ap (λ r. path_cmp r q) (sym (append-nil p)) ∙ first []))

module _ {X : Type 0} where
  pub each : (P Q : X → Type 0) → ((x : X) → P x → Q x) → (xs : List X) → AllByRecursion P xs → AllByRecursion Q xs
  each P Q f [] h = tt
  each P Q f (x ∷ xs) h = (f x h.0, each P Q f xs h.1)

  pub both : (P : X → Type 0) (xs ys : List X) → AllByRecursion P xs → AllByRecursion P ys → AllByRecursion P (xs ++ ys)
  both P [] ys h g = g
  both P (x ∷ xs) ys h g = (h.0, both P xs ys h.1 g)

  zipped : (P Q R : X → Type 0) → ((x : X) → P x → Q x → R x) → (xs : List X) → AllByRecursion P xs → AllByRecursion Q xs → AllByRecursion R xs
  zipped P Q R f [] h g = tt
  zipped P Q R f (x ∷ xs) h g = (f x h.0 g.0, zipped P Q R f xs h.1 g.1)

-- a path that comes after all others may be the last
pub ascending_more : (ps : List Path) (p : Path) → IsAscending ps → AllByRecursion (λ q. path_cmp q p ≡ Less) ps → IsAscending (ps ++ p ∷ [])
unfolding IsStrictlySortedBy
ascending_more [] p a h = (tt, tt)
ascending_more (q ∷ ps) p a h = (both (λ y. path_cmp q y ≡ Less) ps (p ∷ []) a.0 (h.0, tt), ascending_more ps p a.1 h.1)

pub paths_push : (found : Nodes) (p : Path) (n : NodeName) → paths_of (found ++ (p, n) ∷ []) ≡ paths_of found ++ p ∷ []
paths_push [] p n = refl
paths_push (x ∷ found) p n = ap (λ l. x.0 ∷ l) (paths_push found p n)

-- ---- the names of a folder come in its place

siblings : (p : Path) (x : Name) (names : List Name) → AllByRecursion (λ y. slice_cmp nat_cmp x y ≡ Less) names → AllByRecursion (ComesBefore (under p x)) (map (under p) names)
siblings p x [] h = tt
siblings p x (y ∷ names) h = (λ rest. less_by_name p x y rest h.0, siblings p x names h.1)

deeper : (p : Path) (x : Name) (q : Path) → ComesBefore p q → ComesBefore (under p x) q
deeper p x q first rest = ap (λ r. path_cmp r q) (append_assoc p (x ∷ []) rest) ∙ first (x ∷ rest)

pub line_children : (p : Path) (names : List Name) (todo : List Path) → IsStrictlySortedBy (slice_cmp nat_cmp) names → AllByRecursion (ComesBefore p) todo → AreInLine todo
    → AreInLine (map (under p) names ++ todo)
unfolding IsStrictlySortedBy
line_children p [] todo sorted first line = line
line_children p (x ∷ names) todo sorted first line = (
  both (ComesBefore (under p x)) (map (under p) names) todo (siblings p x names sorted.0) (each (ComesBefore p) (ComesBefore (under p x)) (deeper p x) todo first),
  line_children p names todo sorted.1 first line,
)

-- ---- one more path was read

module _ (found : Nodes) (p : Path) (n : NodeName) where
  after_more : (q : Path) → ComesAfter found q → path_cmp p q ≡ Less → ComesAfter (found ++ (p, n) ∷ []) q
  after_more q after less = subst (AllByRecursion (λ r. path_cmp r q ≡ Less)) (sym (paths_push found p n)) (both (λ r. path_cmp r q ≡ Less) (paths_of found) (p ∷ []) after (less, tt))

  pub after_rest : (todo : List Path) → AllByRecursion (ComesAfter found) todo → AllByRecursion (ComesBefore p) todo → AllByRecursion (ComesAfter (found ++ (p, n) ∷ [])) todo
  after_rest todo after first = zipped (ComesAfter found) (ComesBefore p) (ComesAfter (found ++ (p, n) ∷ [])) (λ q a f. after_more q a (ap (λ r. path_cmp r q) (sym (append-nil p)) ∙ f [])) todo after first

  after_child : ComesAfter found p → (x : Name) → ComesAfter (found ++ (p, n) ∷ []) (under p x)
  after_child after x = after_more (under p x) (each (λ q. path_cmp q p ≡ Less) (λ q. path_cmp q (under p x) ≡ Less) (λ q less. path_order.trans q p (under p x) less (less_below p x)) (paths_of found) after) (less_below p x)

  pub after_children : ComesAfter found p → (names : List Name) → AllByRecursion (ComesAfter (found ++ (p, n) ∷ [])) (map (under p) names)
  after_children after [] = tt
  after_children after (x ∷ names) = (after_child after x, after_children after names)

-- What lists and maps have.
use Rattle.std.proofs.Common.{◌≡◌, ◌⊎◌, inl, inr, ⊎_elim, arith, refl, sym, subst, List, [], ◌∷◌, ◌++◌, map}
use Rattle.std.specs.Prelude.{Contains}
use Rattle.std.specs.List.{AllByRecursion}
use Rattle.std.proofs.lemmas.List.Elements.{Contains-append_left, Contains-append_right, Contains-append_cases}
use Rattle.ost_types.specs.declared.node.NodeName.{NodeName}
use Rattle.ost_types.specs.Path.{Path}
use Rattle.ost_types.specs.PathMap.{Nodes, paths_of}
use Rattle.checkout.proofs.RemoveLists.{one, tail_in, cons_cases}
use Rattle.tree_scan.proofs.Orders.{paths_push}

pub none_in : {X : Type 0} (x : X) → Contains [] x → ⊥
none_in x (k, less, is) = omega (arith, less)

head_in : {X : Type 0} (x : X) (xs : List X) → Contains (x ∷ xs) x
head_in x xs = (0, omega arith, refl)

pub has_map : {X Y : Type 0} (f : X → Y) (xs : List X) (x : X) → Contains xs x → Contains (map f xs) (f x)
has_map f [] x has = absurd (none_in x has)
has_map f (y ∷ xs) x has = ⊎_elim
    (λ is. subst (λ z. Contains (f y ∷ map f xs) (f z)) (sym is) (head_in (f y) (map f xs)))
    (λ rest. tail_in (f x) (f y) (map f xs) (has_map f xs x rest))
    (cons_cases x y xs has)

pub all_has : {X : Type 0} (P : X → Type 0) (xs : List X) (x : X) → AllByRecursion P xs → Contains xs x → P x
all_has P [] x all has = absurd (none_in x has)
all_has P (y ∷ xs) x all has = ⊎_elim (λ is. subst P (sym is) all.0) (λ rest. all_has P xs x all.1 rest) (cons_cases x y xs has)

-- the path of a pair of a map, and a pair of a path
pub has_path : (m : Nodes) (p : Path) (n : NodeName) → Contains m (p, n) → Contains (paths_of m) p
has_path m p n has = has_map (λ (e : Path × NodeName). e.0) m (p, n) has

pub has_node : (m : Nodes) (p : Path) → Contains (paths_of m) p → (n : NodeName) × Contains m (p, n)
has_node [] p has = absurd (none_in p has)
has_node (x ∷ m) p has = ⊎_elim
    (λ is. (x.1, subst (λ q. Contains (x ∷ m) (q, x.1)) (sym is) (head_in x m)))
    (λ rest. let r = has_node m p rest in (r.0, tail_in (p, r.0) x m r.1))
    (cons_cases p x.0 (paths_of m) has)

-- one more pair
pub more_path : (m : Nodes) (p : Path) (n : NodeName) (q : Path) → Contains (paths_of m) q → Contains (paths_of (m ++ (p, n) ∷ [])) q
more_path m p n q has = subst (λ l. Contains l q) (sym (paths_push m p n)) (Contains-append_left (paths_of m) (p ∷ []) q has)

pub new_path : (m : Nodes) (p : Path) (n : NodeName) → Contains (paths_of (m ++ (p, n) ∷ [])) p
new_path m p n = subst (λ l. Contains l p) (sym (paths_push m p n)) (Contains-append_right (paths_of m) (p ∷ []) p (one p))

pub pair_cases : (m : Nodes) (e y : Path × NodeName) → Contains (m ++ e ∷ []) y → Contains m y ⊎ (y ≡ e)
pair_cases m e y has = ⊎_elim
    (λ a. inl a)
    (λ b. ⊎_elim (λ is. inr is) (λ none. absurd (none_in y none)) (cons_cases y e [] b))
    (Contains-append_cases m (e ∷ []) y has)

-- What the defaults of a tree are.
use Rattle.std.proofs.Common.{◌≡◌, ◌≢◌, inl, inr, ℕ, zero, suc, ◌<◌, ◌||◌, Bool, true, false, [], ◌∷◌, ◌++◌, length, codes, get_or, Some, None, refl, sym, ◌∙◌, ap, subst, arith, append_assoc}
use Rattle.std.specs.Prelude.{All}
use Rattle.std.specs.declared.cmp.Ordering.{Ordering}
use Rattle.std.specs.declared.cmp.Ordering.TheVariants.{Less, Equal, Greater}
use Rattle.std.proofs.lemmas.Bool.{and_parts}
use Rattle.std.proofs.lemmas.List.Elements.{All-contains}
use Rattle.std.proofs.lemmas.Slice.Eq.{bytes_eq-Decides}
use Rattle.ost_types.specs.declared.node.NodeName.{NodeName}
use Rattle.ost_types.specs.declared.node.NodeName.TheVariants.{Folder, Leaf}
use Rattle.ost_types.specs.Path.{Path, IsPath, path_cmp, same_name, under}
use Rattle.ost_types.specs.PathMap.{Nodes, IsAscending, node_at, paths_of}
use Rattle.ost_types.proofs.Paths.{same_or_apart}
use Rattle.checkout.specs.CheckoutFolder.{IsTreeMap}
use Rattle.checkout.specs.CheckoutWork.{IsPlaced}
use Rattle.checkout.proofs.CheckoutMaps.{found_back}
use Rattle.deploy_list.specs.Kernels.{has_defaults, is_defaults, is_usr_etc}
use Rattle.etc_merge.proofs.Finds.{after_earlier, after_none, after_there, ascending_after, ascending_rest, node_first, node_rest, none_of}
use Rattle.etc_merge.proofs.Orders.{apart_from_less, same_from_Equal, turned}
use Rattle.etc_merge.proofs.Trees.{some_of, tree_above}
use Rattle.deploy_etc.specs.Defaults.{AreDefaults, HasDefaults, defaults_path, etc_in}
use Rattle.deploy_etc.proofs.Bounds.{IsPath-without}
use Rattle.deploy_etc.proofs.Cuts.{below_there}
use Rattle.deploy_etc.proofs.TreeMaps.{as_merged}

-- ---- the folder at `/usr/etc`

usr_etc : (p : Path) → is_usr_etc p ≡ true → p ≡ defaults_path
usr_etc [] is = let n : false ≡ true = is in cc
usr_etc (a ∷ []) is = let n : false ≡ true = is in cc
usr_etc (a ∷ b ∷ []) is =
    let both = and_parts (same_name a (codes "usr")) (same_name b (codes "etc")) is in
    let first : a ≡ codes "usr" = (bytes_eq-Decides a (codes "usr")).0 both.0 in
    let second : b ≡ codes "etc" = (bytes_eq-Decides b (codes "etc")).0 both.1 in
    ap (λ x. x ∷ b ∷ []) first ∙ ap (λ x. codes "usr" ∷ x ∷ []) second
usr_etc (a ∷ b ∷ c ∷ p) is = let n : false ≡ true = is in cc

defaults_here : (e : Path × NodeName) (m : Nodes) (n : NodeName) → e.1 ≡ n → is_defaults e.0 n ≡ true → HasDefaults (e ∷ m)
defaults_here e m (Folder meta) node is = (meta, node_first e m defaults_path (usr_etc e.0 is) ∙ ap Some node)
defaults_here e m (Leaf sum) node is = absurd (let n : false ≡ true = is in cc)

-- what stands in the rest stands in the whole
there_in_rest : (e : Path × NodeName) (m : Nodes) (p : Path) (n : NodeName) → IsAscending (paths_of (e ∷ m)) → node_at m p ≡ Some n → node_at (e ∷ m) p ≡ Some n
there_in_rest e m p n h there = node_rest e m p (apart_from_less e.0 p (after_there m e.0 p (ascending_after e m h) (λ none. none_of there none))) ∙ there

pub has_folder : (tree : Nodes) → IsAscending (paths_of tree) → has_defaults tree ≡ true → HasDefaults tree
has_folder [] h has = let n : false ≡ true = has in cc
has_folder (e ∷ m) h has = by (is_defaults e.0 e.1) refl has (has_folder m (ascending_rest e m h))
  where
    by : (b : Bool) → is_defaults e.0 e.1 ≡ b → has_defaults (e ∷ m) ≡ true → (has_defaults m ≡ true → HasDefaults m) → HasDefaults (e ∷ m)
    by true is has rest = defaults_here e m e.1 refl is
    by false is has rest =
        let behind : has_defaults m ≡ true = sym (ap (λ b. b || has_defaults m) is) ∙ has in
        let found = rest behind in
        (found.0, there_in_rest e m defaults_path (Folder found.0) h found.1)

-- ---- the defaults

pub defaults_tree : (tree defaults : Nodes) → IsTreeMap tree → HasDefaults tree → AreDefaults tree defaults → IsTreeMap defaults
defaults_tree tree defaults shape has are = record {
  root = (has.0, are [] ∙ has.1);
  inner = λ f x n there. let m = shape.inner (defaults_path ++ f) x n (sym (are (under f x)) ∙ there) in (m.0, are f ∙ m.1);
}

-- something stands at the path of each node
pub each_there : (m : Nodes) (k : ℕ) (d : Path × NodeName) → k < length m → node_at m (get_or m k d).0 ≢ None
each_there [] k d inside none = omega (arith, inside)
each_there (e ∷ m) zero d inside none = none_of (node_first e m e.0 refl) none
each_there (e ∷ m) (suc k) d inside none = elim (same_or_apart e.0 (get_or m k d).0) [
  | inl same ↦ none_of (node_first e m (get_or m k d).0 same) none
  | inr apart ↦ each_there m k d (omega (arith, inside)) (sym (node_rest e m (get_or m k d).0 apart) ∙ none)
]

-- what holds of each path of a map
pub at_path : (P : Path → Type 0) (m : Nodes) (p : Path) (n : NodeName) → All (λ e. P e.0) m → node_at m p ≡ Some n → P p
at_path P m p n all there = All-contains (λ e. P e.0) m (p, n) all (found_back m p n there)

fits_in : (into : Path) (p : Path) → IsPath (into ++ (defaults_path ++ p)) → IsPath (etc_in into ++ p)
fits_in into p is = subst IsPath (sym (append_assoc into (codes "etc" ∷ []) p)) (IsPath-without into (codes "usr") (codes "etc" ∷ p) is)

pub defaults_placed : (into : Path) (tree defaults : Nodes) → IsPlaced into tree → HasDefaults tree → AreDefaults tree defaults → IsPlaced (etc_in into) defaults
defaults_placed into tree defaults placed has are = record {
  shape = defaults_tree tree defaults placed.shape has are;
  fits = λ k d inside.
      let p = (get_or defaults k d).0 in
      let s = some_of (node_at defaults p) (each_there defaults k d inside) in
      fits_in into p (at_path (λ q. IsPath (into ++ q)) tree (defaults_path ++ p) s.0 placed.fits (sym (are p) ∙ s.1));
}

pub no_defaults : (tree defaults : Nodes) → IsTreeMap tree → node_at tree defaults_path ≡ None → AreDefaults tree defaults → defaults ≡ []
no_defaults tree [] shape none are = refl
no_defaults tree (e ∷ m) shape none are =
    absurd (tree_above tree (as_merged tree shape) defaults_path (defaults_path ++ e.0) (below_there defaults_path e.0)
    (λ gone. none_of (node_first e m e.0 refl) (are e.0 ∙ gone)) none)

-- ---- maps that have the same everywhere

differs : (e f : Path × NodeName) (m n : Nodes) → IsAscending (paths_of (f ∷ n)) → path_cmp e.0 f.0 ≡ Less → node_at (e ∷ m) e.0 ≡ node_at (f ∷ n) e.0 → ⊥
differs e f m n h less same = none_of (node_first e m e.0 refl) (same ∙ after_none (f ∷ n) e.0 (less, after_earlier n e.0 f.0 (ascending_after f n h) less))

rest_same : (e f : Path × NodeName) (m n : Nodes) → IsAscending (paths_of (e ∷ m)) → IsAscending (paths_of (f ∷ n)) → e.0 ≡ f.0 → ((p : Path) → node_at (e ∷ m) p ≡ node_at (f ∷ n) p) → (p : Path) → node_at m p ≡ node_at n p
rest_same e f m n h g first same p = elim (same_or_apart e.0 p) [
  | inl here ↦ subst (λ q. node_at m q ≡ node_at n q) here (after_none m e.0 (ascending_after e m h) ∙ sym (ap (λ q. node_at n q) first ∙ after_none n f.0 (ascending_after f n g)))
  | inr apart ↦ sym (node_rest e m p apart) ∙ same p ∙ node_rest f n p (λ is. apart (first ∙ is))
]

pub one_map : (m n : Nodes) → IsAscending (paths_of m) → IsAscending (paths_of n) → ((p : Path) → node_at m p ≡ node_at n p) → m ≡ n
one_map [] [] h g same = refl
one_map [] (f ∷ n) h g same = absurd (none_of (node_first f n f.0 refl) (sym (same f.0)))
one_map (e ∷ m) [] h g same = absurd (none_of (node_first e m e.0 refl) (same e.0))
one_map (e ∷ m) (f ∷ n) h g same = by (path_cmp e.0 f.0) refl (one_map m n (ascending_rest e m h) (ascending_rest f n g))
  where
    by : (o : Ordering) → path_cmp e.0 f.0 ≡ o → (((p : Path) → node_at m p ≡ node_at n p) → m ≡ n) → e ∷ m ≡ f ∷ n
    by Less is rest = absurd (differs e f m n g is (same e.0))
    by Greater is rest = absurd (differs f e n m h (turned e.0 f.0 is) (sym (same f.0)))
    by Equal is rest =
        let first : e.0 ≡ f.0 = same_from_Equal e.0 f.0 is in
        let found : Some e.1 ≡ Some f.1 = sym (node_first e m e.0 refl) ∙ same e.0 ∙ node_first f n e.0 (sym first) in
        let second : e.1 ≡ f.1 = cc in
        let pair : e ≡ f = ap (λ p. (p, e.1)) first ∙ ap (λ x. (f.0, x)) second in
        ap (λ x. x ∷ m) pair ∙ ap (λ l. f ∷ l) (rest (rest_same e f m n h g first same))

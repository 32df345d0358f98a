-- A map with one pair more is a tree still; and what reads must show.
use Rattle.std.proofs.Common.{◌≡◌, ◌≢◌, ◌⊎◌, inl, inr, ℕ, zero, suc, ◌<◌, arith, [], ◌∷◌, ◌++◌, length, get_or, map, Some, None, refl, sym, ◌∙◌, ap, subst, append-nil, length-append, if◌then◌else◌}
use Rattle.std.specs.Prelude.{◌↔◌, All, Bool, IfOk, IsTrue, Result, Ok, Err}
use Rattle.fs_trait.specs.declared.types.FsErr.{FsErr}
use Rattle.std.proofs.lemmas.List.{map-append, take_at, get_or_at}
use Rattle.std.proofs.lemmas.List.Elements.{All-push}
use Rattle.ost_types.specs.declared.meta.Meta.{Meta}
use Rattle.ost_types.specs.declared.node.NodeName.{NodeName}
use Rattle.ost_types.specs.declared.node.NodeName.TheVariants.{Folder, Leaf}
use Rattle.ost_types.specs.Path.{Name, Path, IsPath, under}
use Rattle.ost_types.specs.PathMap.{Nodes, IsAscending, IsPathMap, paths_of, node_at}
use Rattle.ost_types.proofs.Paths.{same_path-self, same_path-apart, same_or_apart, under-not_root, under-folder, is_in-under, under-is_in}
use Rattle.fs_trait.specs.View.{Disk}
use Rattle.fs_trait.specs.Seen.{shows, IsDirectory}
use Rattle.checkout.specs.CheckoutFolder.{HasLeaves}
use Rattle.checkout.specs.CheckoutWork.{IsPlaced, beginning}
use Rattle.checkout.specs.CheckoutSteps.{HasHome}
use Rattle.checkout.proofs.CheckoutMaps.{push_apart, none_before, found_at, found_back}
use Rattle.checkout_check.specs.Sketches.{Sketched, Takes, into_of, IsThere, CanBegin}

alone_has : (m : Meta) → node_at (([], Folder m) ∷ []) [] ≡ Some (Folder m)
alone_has m = ap (λ b. if b then Some (Folder m) else None) (same_path-self [])

alone_lacks : (m : Meta) (f : Path) (x : Name) → node_at (([], Folder m) ∷ []) (under f x) ≡ None
alone_lacks m f x = ap (λ b. if b then Some (Folder m) else None) (same_path-apart [] (under f x) (λ e. under-not_root f x (sym e)))

pub alone_placed : (into : Path) (m : Meta) → IsPath into → IsPlaced into (([], Folder m) ∷ [])
alone_placed into m path = record {
  shape = record {
    root = (m, alone_has m);
    inner = λ f x n has. let no : None ≡ Some n = sym (alone_lacks m f x) ∙ has in cc;
  };
  fits = fits;
}
  where
    fits : (k : ℕ) (e : Path × NodeName) → k < 1 → IsPath (into ++ (get_or (([], Folder m) ∷ []) k e).0)
    fits zero e inside = subst IsPath (sym (append-nil into)) path
    fits (suc k) e inside = absurd (omega (arith, inside))

-- the next path isn't in the map
next_absent : (m : Nodes) (p : Path) (n : NodeName) → IsAscending (paths_of m ++ p ∷ []) → node_at m p ≡ None
next_absent m p n next =
    let all : IsAscending (paths_of (m ++ (p, n) ∷ [])) = subst IsAscending (sym (map-append (λ (e : Path × NodeName). e.0) m ((p, n) ∷ []))) next in
    let size = length-append m ((p, n) ∷ []) in
    let none = none_before (m ++ (p, n) ∷ []) (length m) (p, n) all (omega (arith, size)) (get_or_at m (p, n) [] (p, n) (length m) refl) in
    ap (λ (k : Nodes). node_at k p) (sym (take_at m ((p, n) ∷ []) (length m) refl)) ∙ none

module _ (into : Path) (m : Nodes) (folder : Path) (name : Name) (n : NodeName) (k : Meta) (was : IsPlaced into m) (next : IsAscending (paths_of m ++ under folder name ∷ [])) (inside : node_at m folder ≡ Some (Folder k)) where
  still : (q : Path) (x : NodeName) → node_at m q ≡ Some x → node_at (m ++ (under folder name, n) ∷ []) q ≡ Some x
  still q x has = by (same_or_apart (under folder name) q)
    where
      by : (under folder name ≡ q) ⊎ (under folder name ≢ q) → node_at (m ++ (under folder name, n) ∷ []) q ≡ Some x
      by (inl same) = let no : None ≡ Some x = sym (next_absent m (under folder name) n next) ∙ ap (node_at m) same ∙ has in cc
      by (inr apart) = push_apart m (under folder name, n) q apart ∙ has

  inner : (f : Path) (x : Name) (y : NodeName) → node_at (m ++ (under folder name, n) ∷ []) (under f x) ≡ Some y → (j : Meta) × (node_at (m ++ (under folder name, n) ∷ []) f ≡ Some (Folder j))
  inner f x y has = by (same_or_apart (under folder name) (under f x))
    where
      by : (under folder name ≡ under f x) ⊎ (under folder name ≢ under f x) → (j : Meta) × (node_at (m ++ (under folder name, n) ∷ []) f ≡ Some (Folder j))
      by (inl same) = (k, still f (Folder k) (ap (node_at m) (sym (under-folder folder f name x same)) ∙ inside))
      by (inr apart) =
          let up = was.shape.inner f x y (sym (push_apart m (under folder name, n) (under f x) apart) ∙ has) in
          (up.0, still f (Folder up.0) up.1)

  pub placed_more : IsPath (into ++ under folder name) → IsPlaced into (m ++ (under folder name, n) ∷ [])
  placed_more fits = record {
    shape = record { root = (was.shape.root.0, still [] (Folder was.shape.root.0) was.shape.root.1); inner = inner };
    fits = All-push (λ (e : Path × NodeName). IsPath (into ++ e.0)) m (under folder name, n) was.fits fits;
  }

-- ---- what reads must show

pub home_shown : (d : Disk) (home : Path) (name : Name) → IsDirectory (shows d home) → HasHome (under home name) d
home_shown d home name is p in_ =
    let at = under-is_in p (under home name) in_ in
    subst (λ q. IsDirectory (shows d q)) (under-folder home p name at.0 at.1) is

pub home_needed : (d : Disk) (home : Path) (name : Name) → HasHome (under home name) d → IsDirectory (shows d home)
home_needed d home name has = has home (is_in-under home name)

pub all_there : (d : Disk) (m : Nodes) → All (λ e. IsThere d e.1) m → HasLeaves d m
all_there d m all p sum has =
    let in_map = found_back m p (Leaf sum) has in
    subst (λ (e : Path × NodeName). IsThere d e.1) in_map.2 (all in_map.0 (p, Leaf sum) in_map.1)

leaf_lacks : (d : Disk) (m : Nodes) (p : Path) (n : NodeName) → (IsThere d n → ⊥) → node_at m p ≡ Some n → HasLeaves d m → ⊥
leaf_lacks d m p (Folder k) none has leaves = none tt
leaf_lacks d m p (Leaf sum) none has leaves = none (leaves p sum has)

pub one_lacks : (d : Disk) (m : Nodes) → IsPathMap m → (k : ℕ) (e : Path × NodeName) → k < length m → e ≡ get_or m k e → (IsThere d e.1 → ⊥) → HasLeaves d m → ⊥
one_lacks d m map k e inside is none leaves = leaf_lacks d m e.0 e.1 none (found_at m k e map.ascending inside (sym is)) leaves

-- ---- for the answers

pub add_placed : (into : Path) (s u : Sketched) → s ≡ u → into ≡ into_of s → IsPlaced into s.tree → (folder : Path) (name : Name) (path : Path) → path ≡ under folder name
    → (n : NodeName) → Takes u folder path → (new : Nodes) → new ≡ s.tree ++ (path, n) ∷ [] → IsPlaced into new
add_placed into s u same is was folder name path at n took new ok =
    let t : Takes s folder (under folder name) = subst (λ q. Takes s folder q) at (subst (λ (a : Sketched). Takes a folder path) (sym same) took) in
    let fits : IsPath (into ++ under folder name) = subst (λ q. IsPath (q ++ under folder name)) (sym is) t.fits in
    let more = placed_more into s.tree folder name n t.inside.0 was t.next t.inside.1 fits in
    subst (IsPlaced into) (sym (ok ∙ ap (λ q. s.tree ++ (q, n) ∷ []) at)) more

pub new_placed : (into : Path) (m : Meta) (first new : Nodes) (root : Path) → first ≡ [] → root ≡ [] → new ≡ first ++ (root, Folder m) ∷ [] → IsPath into → IsPlaced into new
new_placed into m first new root none is ok path =
    subst (IsPlaced into) (sym (ok ∙ ap (λ (k : Nodes). k ++ (root, Folder m) ∷ []) none ∙ ap (λ (q : Path). (q, Folder m) ∷ []) is)) (alone_placed into m path)

pub can_result : (s : Sketched) (d : Disk) (r : Result Bool FsErr) → IsDirectory (shows d s.home) → IfOk r (λ b. IsTrue b ↔ HasLeaves d s.tree) → IfOk r (λ b. IsTrue b ↔ CanBegin s d)
can_result s d (Ok b) home h = (λ t. (home_shown d s.home s.name home, h.0 t), λ can. h.1 can.1)
can_result s d (Err e) home h = h

pub begun_as : (into : Path) (s u : Sketched) → s ≡ u → into ≡ into_of s → beginning into s.tree ≡ beginning (into_of u) u.tree
begun_as into s u same is = ap (λ (p : Path). beginning p s.tree) is ∙ ap (λ (x : Sketched). beginning (into_of x) x.tree) same

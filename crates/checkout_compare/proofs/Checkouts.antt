-- What is told of a folder: that it is the checkout of the tree outside its `etc`, or what is first wrong.
use Rattle.std.proofs.Common.{◌≡◌, ◌⊎◌, inl, inr, ⊎_elim, ℕ, Bool, true, false, refl, sym, ◌∙◌, ap, List, [], ◌∷◌, ◌++◌, Option, Some, None}
use Rattle.std.specs.Prelude.{◌==◌}
use Rattle.std.specs.Bool.{Decides}
use Rattle.std.proofs.lemmas.Bool.Decides.{Decides-eqb}
use Rattle.ost_types.specs.declared.meta.Meta.{Meta}
use Rattle.ost_types.specs.declared.meta.Xattr.{Xattr}
use Rattle.ost_types.specs.declared.node.NodeName.{NodeName}
use Rattle.ost_types.specs.declared.node.NodeName.TheVariants as tree
use Rattle.ost_types.specs.Path.{Path}
use Rattle.ost_types.specs.PathMap.{Nodes, node_at}
use Rattle.fs_trait.specs.View.{Disk}
use Rattle.fs_trait.specs.Seen.{Seen, Vacant, Directory, Symlink, Leaf, shows}
use Rattle.repo_layout.specs.Place.{IsOutsideEtc}
use Rattle.checkout.specs.CheckoutFolder.{IsLeaf, Stands, leaf_path}
use Rattle.checkout_compare.specs.Compare.{AreEmptyAlike, HasFar, IsCheckoutOutsideEtc, IsDeployedOutsideEtc, StandsAs, Tells}
use Rattle.checkout_compare.proofs.Orders.{not_apart}

-- ---- whether two are the same

abbrev Decided : Type 0 → Type 0
Decided P = P ⊎ ¬ P

by_test : (b : Bool) (P : Type 0) → Decides b P → Decided P
by_test true P d = inl (d.0 refl)
by_test false P d = inr (λ p. let n : false ≡ true = d.1 p in cc)

both_of : {P Q R : Type 0} → (P → Q → R) → (R → P) → (R → Q) → Decided P → Decided Q → Decided R
both_of make first second (inl p) (inl q) = inl (make p q)
both_of make first second (inl p) (inr no_q) = inr (λ r. no_q (second r))
both_of make first second (inr no_p) q = inr (λ r. no_p (first r))

numbers : (x y : ℕ) → Decided (x ≡ y)
numbers x y = by_test (x == y) (x ≡ y) (Decides-eqb x y)

module _ {X : Type 0} (each : (x y : X) → Decided (x ≡ y)) where
  lists : (xs ys : List X) → Decided (xs ≡ ys)
  lists [] [] = inl refl
  lists [] (y ∷ ys) = inr (λ e. let n : [] ≡ y ∷ ys = e in cc)
  lists (x ∷ xs) [] = inr (λ e. let n : x ∷ xs ≡ [] = e in cc)
  lists (x ∷ xs) (y ∷ ys) = both_of (λ p q. cc (p, q)) (λ e. cc e) (λ e. cc e) (each x y) (lists xs ys)

bytes : (x y : List ℕ) → Decided (x ≡ y)
bytes = lists numbers

attributes : (x y : Xattr) → Decided (x ≡ y)
attributes x y = both_of
    (λ (p : x.name ≡ y.name) (q : x.value ≡ y.value). ap (λ (n : List ℕ). record x { name = n }) p ∙ ap (λ (v : List ℕ). record y { value = v }) q)
    (λ e. ap (λ (a : Xattr). a.name) e) (λ e. ap (λ (a : Xattr). a.value) e) (bytes x.name y.name) (bytes x.value y.value)

-- the same owners, and the same mode and attributes
abbrev SameOwners : Meta → Meta → Type 0
SameOwners m n = (m.uid ≡ n.uid) × (m.gid ≡ n.gid)

abbrev SameRest : Meta → Meta → Type 0
SameRest m n = (m.mode ≡ n.mode) × (m.xattrs ≡ n.xattrs)

metas : (m n : Meta) → Decided (m ≡ n)
metas m n = both_of
    (λ (p : SameOwners m n) (q : SameRest m n). ap (λ (u : ℕ). record m { uid = u }) p.0 ∙ ap (λ (g : ℕ). record m { uid = n.uid; gid = g }) p.1 ∙ ap (λ (k : ℕ). record n { mode = k; xattrs = m.xattrs }) q.0 ∙ ap (λ (l : List Xattr). record n { xattrs = l }) q.1)
    (λ e. (ap (λ (a : Meta). a.uid) e, ap (λ (a : Meta). a.gid) e)) (λ e. (ap (λ (a : Meta). a.mode) e, ap (λ (a : Meta). a.xattrs) e))
    (both_of (λ p q. (p, q)) (λ r. r.0) (λ r. r.1) (numbers m.uid n.uid) (numbers m.gid n.gid))
    (both_of (λ p q. (p, q)) (λ r. r.0) (λ r. r.1) (numbers m.mode n.mode) (lists attributes m.xattrs n.xattrs))

seens : (s t : Seen) → Decided (s ≡ t)
seens Vacant Vacant = inl refl
seens Vacant (Directory n) = inr (λ e. let n : Vacant ≡ Directory n = e in cc)
seens Vacant (Symlink n u) = inr (λ e. let n : Vacant ≡ Symlink n u = e in cc)
seens Vacant (Leaf j n c) = inr (λ e. let n : Vacant ≡ Leaf j n c = e in cc)
seens (Directory m) Vacant = inr (λ e. let n : Directory m ≡ Vacant = e in cc)
seens (Directory m) (Directory n) = both_of (λ (p : m ≡ n) (q : m ≡ n). ap Directory p) (λ e. let i : Directory m ≡ Directory n = e in cc) (λ e. let i : Directory m ≡ Directory n = e in cc) (metas m n) (metas m n)
seens (Directory m) (Symlink n u) = inr (λ e. let n : Directory m ≡ Symlink n u = e in cc)
seens (Directory m) (Leaf j n c) = inr (λ e. let n : Directory m ≡ Leaf j n c = e in cc)
seens (Symlink m t) Vacant = inr (λ e. let n : Symlink m t ≡ Vacant = e in cc)
seens (Symlink m t) (Directory n) = inr (λ e. let n : Symlink m t ≡ Directory n = e in cc)
seens (Symlink m t) (Symlink n u) =
    both_of (λ (p : m ≡ n) (q : t ≡ u). ap (λ k. Symlink k t) p ∙ ap (Symlink n) q) (λ e. let i : Symlink m t ≡ Symlink n u = e in cc) (λ e. let i : Symlink m t ≡ Symlink n u = e in cc) (metas m n) (bytes t u)
seens (Symlink m t) (Leaf j n c) = inr (λ e. let n : Symlink m t ≡ Leaf j n c = e in cc)
seens (Leaf k m b) Vacant = inr (λ e. let n : Leaf k m b ≡ Vacant = e in cc)
seens (Leaf k m b) (Directory n) = inr (λ e. let n : Leaf k m b ≡ Directory n = e in cc)
seens (Leaf k m b) (Symlink n u) = inr (λ e. let n : Leaf k m b ≡ Symlink n u = e in cc)
seens (Leaf k m b) (Leaf j n c) =
    both_of (λ (p : k ≡ j) (q : (m ≡ n) × (b ≡ c)). ap (λ i. Leaf i m b) p ∙ ap (λ a. Leaf j a b) q.0 ∙ ap (Leaf j n) q.1)
    (λ e. let i : Leaf k m b ≡ Leaf j n c = e in cc)
    (λ e. (let i : Leaf k m b ≡ Leaf j n c = e in cc, let i : Leaf k m b ≡ Leaf j n c = e in cc))
    (numbers k j) (both_of (λ p q. (p, q)) (λ r. r.0) (λ r. r.1) (metas m n) (bytes b c))

-- ---- what stands at a path

leaves : (s : Seen) → Decided (IsLeaf s)
leaves Vacant = inr (λ leaf. leaf)
leaves (Directory m) = inr (λ leaf. leaf)
leaves (Symlink m t) = inl tt
leaves (Leaf k m b) = inl tt

empties : (s t : Seen) → Decided (AreEmptyAlike s t)
empties Vacant t = inr (λ both. both.first)
empties (Directory m) t = inr (λ both. both.first)
empties (Symlink m u) t = inr (λ both. both.first)
empties (Leaf k m b) Vacant = inr (λ both. both.second)
empties (Leaf k m b) (Directory n) = inr (λ both. both.second)
empties (Leaf k m b) (Symlink n u) = inr (λ both. both.second)
empties (Leaf k m b) (Leaf j n c) =
    both_of (λ (p : m ≡ n) (q : (b ≡ []) × (c ≡ [])). record { meta = n; first = (p, q.0); second = (refl, q.1) })
    (λ both. both.first.0 ∙ sym both.second.0) (λ both. (both.first.1, both.second.1))
    (metas m n) (both_of (λ p q. (p, q)) (λ r. r.0) (λ r. r.1) (bytes b []) (bytes c []))

either_of : {P Q : Type 0} → Decided P → Decided Q → Decided (P ⊎ Q)
either_of (inl p) q = inl (inl p)
either_of (inr no_p) (inl q) = inl (inr q)
either_of (inr no_p) (inr no_q) = inr (λ either. ⊎_elim no_p no_q either)

stood : (d : Disk) (into p : Path) (o : Option NodeName) → Decided (StandsAs d into p o)
stood d into p None = seens (shows d (into ++ p)) Vacant
stood d into p (Some (tree.Folder m)) = seens (shows d (into ++ p)) (Directory m)
stood d into p (Some (tree.Leaf sum)) = either_of
    (both_of (λ a b. (a, b)) (λ r. r.0) (λ r. r.1) (leaves (shows d (into ++ p))) (seens (shows d (into ++ p)) (shows d (leaf_path sum))))
    (empties (shows d (into ++ p)) (shows d (leaf_path sum)))

unless_not : {P : Type 0} → Decided P → ¬ (¬ P) → P
unless_not (inl p) no_not = p
unless_not (inr no_p) no_not = absurd (no_not no_p)

pub is_deployed_outside_etc : (d : Disk) (into : Path) (map : Nodes) → Tells d into map None → IsDeployedOutsideEtc d into map
is_deployed_outside_etc d into map none p outside = unless_not (stood d into p (node_at map p)) (λ other. none p (record { outside = outside; wrong = inl other }))

pub nothing_wrong : (d : Disk) (into : Path) (map : Nodes) → IsDeployedOutsideEtc d into map → ((p : Path) → IsOutsideEtc p → ¬ (HasFar d (into ++ p))) → Tells d into map None
nothing_wrong d into map stands near p wrong = ⊎_elim (λ other. other (stands p wrong.outside)) (λ far. near p wrong.outside far) wrong.wrong

-- a checkout by inodes alone is such a folder
stands_strictly : (d : Disk) (into p : Path) (o : Option NodeName) → Stands d into p o → StandsAs d into p o
stands_strictly d into p None stands = stands
stands_strictly d into p (Some (tree.Folder m)) stands = stands
stands_strictly d into p (Some (tree.Leaf sum)) stands = inl stands

pub strict_deployed : (d : Disk) (into : Path) (map : Nodes) → IsCheckoutOutsideEtc d into map → IsDeployedOutsideEtc d into map
strict_deployed d into map stands p outside = stands_strictly d into p (node_at map p) (stands p outside)

-- of two paths that are the first to be wrong, neither comes before the other
pub told_once : (d : Disk) (into : Path) (map : Nodes) (a b : Option Path) → Tells d into map a → Tells d into map b → a ≡ b
told_once d into map None None one other = refl
told_once d into map None (Some q) one other = absurd (one q other.0)
told_once d into map (Some p) None one other = absurd (other p one.0)
told_once d into map (Some p) (Some q) one other = ap Some (not_apart p q (λ less. other.1 p less one.0) (λ less. one.1 q less other.0))

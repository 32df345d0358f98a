-- What a checkout writes, for all others; and its facts stay true under what others may write.
use Rattle.std.proofs.Common.{◌≡◌, ⊎_elim, ℕ, true, refl, sym, ◌∙◌, subst, List, [], ◌∷◌, ◌++◌, take, Some}
use Rattle.ost_types.specs.declared.meta.Meta.{Meta}
use Rattle.ost_types.specs.declared.node.NodeName.{NodeName}
use Rattle.ost_types.specs.declared.node.NodeName.TheVariants.{Folder, Leaf}
use Rattle.ost_types.specs.Path.{Path, is_in, is_below}
use Rattle.ost_types.specs.PathMap.{Nodes, node_at}
use Rattle.ost_types.proofs.Paths.{is_below-self, same_name-Decides}
use Rattle.fs_trait.specs.declared.types.Value.TheVariants.{File}
use Rattle.fs_trait.specs.View.{View}
use Rattle.fs_trait.specs.Seen.{Seen, Vacant, Directory, Leaf as SeenLeaf, shows, MayShow, IsDirectory}
use Rattle.fs_trait.specs.Change.{Writes}
use Rattle.fs_trait.proofs.Effects.{leaf_from}
use Rattle.fs_trait.proofs.Facts.{shows_kept}
use Rattle.checkout.specs.declared.checkout_phase.CheckoutPhase.{CheckoutPhase}
use Rattle.checkout.specs.declared.checkout_phase.CheckoutPhase.TheVariants.{Begin, Make, Ended, Refused}
use Rattle.checkout.specs.CheckoutFolder.{IsLeaf, leaf_path, IsCheckout, HasLeaves}
use Rattle.checkout.specs.CheckoutWork.{Checkout}
use Rattle.checkout.specs.CheckoutSteps.{writes_in, WritesOf, HasHome, Needs, needs_in, value_of}
use Rattle.checkout.proofs.CheckoutMaps.{part_found}
use Rattle.checkout.proofs.CheckoutLemmas.{Stands-kept}

below_before : (g rest : Path) → is_below g (g ++ rest) ≡ true
unfolding is_below
below_before [] rest = refl
below_before (a ∷ g) rest = rw ((same_name-Decides a a).1 refl, below_before g rest) refl

-- Where a write of the next step lies: at the path or below it, where nothing stood. A file that is written is the one at the path of
-- a leaf's object.
pub record Lies (t : Checkout) (v : View) (p : Path) (s : Seen) : Type 0 where
  pub below : is_below t.into p ≡ true
  pub vacant : shows v.now p ≡ Vacant
  pub comes : (n : ℕ) (m : Meta) (b : List ℕ) → s ≡ SeenLeaf n m b → (sum : List ℕ) × (v.now.at (leaf_path sum) ≡ File n)

folder_comes : (t : Checkout) (v : View) (k : Meta) (s : Seen) → s ≡ Directory k → (n : ℕ) (m : Meta) (b : List ℕ) → s ≡ SeenLeaf n m b → (sum : List ℕ) × (v.now.at (leaf_path sum) ≡ File n)
folder_comes t v k s is n m b e = let no : Directory k ≡ SeenLeaf n m b = sym is ∙ e in cc

node_comes : (t : Checkout) (v : View) (node : NodeName) (s : Seen) → MayShow v (value_of node v.now) s → (n : ℕ) (m : Meta) (b : List ℕ) → s ≡ SeenLeaf n m b
    → (sum : List ℕ) × (v.now.at (leaf_path sum) ≡ File n)
node_comes t v (Folder k) s may n m b e = folder_comes t v k s may n m b e
node_comes t v (Leaf sum) s may n m b e = (sum, (leaf_from v (v.now.at (leaf_path sum)) n m b (subst (MayShow v (v.now.at (leaf_path sum))) e may)).0)

lies : (ph : CheckoutPhase) (t : Checkout) (v : View) (p : Path) (s : Seen) → writes_in ph t v p s → Lies t v p s
lies Begin t v p s a = record {
  below = subst (λ q. is_below t.into q ≡ true) (sym a.2) (is_below-self t.into);
  vacant = a.3;
  comes = folder_comes t v a.0 s a.4;
}
lies (Make n) t v p s a = record {
  below = subst (λ q. is_below t.into q ≡ true) (sym a.2) (below_before t.into a.0.0);
  vacant = a.3;
  comes = node_comes t v a.0.1 s a.4;
}
lies Ended t v p s a = absurd a
lies Refused t v p s a = absurd a

pub checkout_lies : (t : Checkout) (v : View) (p : Path) (s : Seen) → WritesOf t v p s → Lies t v p s
checkout_lies t v p s a = lies t.phase t v p s a

-- The writes of others spare the checkout: they write nothing at its path or below it, nor at the objects of its leaves, and leave
-- folders where folders are above it.
pub record Spares (W : Path → Seen → Type 0) (t : Checkout) (v : View) : Type 0 where
  pub below : (p : Path) (s : Seen) → is_below t.into p ≡ true → W p s → ⊥
  pub leaves : (p : Path) (sum : List ℕ) (s : Seen) → node_at t.tree p ≡ Some (Leaf sum) → W (leaf_path sum) s → ⊥
  pub parents : (p : Path) (s : Seen) → is_in p t.into ≡ true → IsDirectory (shows v.now p) → W p s → IsDirectory s

module _ (W : Path → Seen → Type 0) (t : Checkout) (v : View) (spares : Spares W t v) (w : View) (writes : Writes W v w) where
  same_below : (p : Path) → shows w.now (t.into ++ p) ≡ shows v.now (t.into ++ p)
  same_below p = shows_kept W v w (t.into ++ p) writes (λ s a. spares.below (t.into ++ p) s (below_before t.into p) a)

  same_leaf : (p : Path) (sum : List ℕ) → node_at t.tree p ≡ Some (Leaf sum) → shows w.now (leaf_path sum) ≡ shows v.now (leaf_path sum)
  same_leaf p sum has = shows_kept W v w (leaf_path sum) writes (λ s a. spares.leaves p sum s has a)

  home_kept : HasHome t.into v.now → HasHome t.into w.now
  home_kept home p in_ = ⊎_elim (λ same. subst IsDirectory (sym same) (home p in_)) (λ wrote. spares.parents p (shows w.now p) in_ (home p in_) wrote) (writes.now p)

  leaves_kept : HasLeaves v.now t.tree → HasLeaves w.now t.tree
  leaves_kept there p sum has = subst IsLeaf (sym (same_leaf p sum has)) (there p sum has)

  map_kept : (m : Nodes) → ((p : Path) (n : NodeName) → node_at m p ≡ Some n → node_at t.tree p ≡ Some n) → IsCheckout v.now t.into m → IsCheckout w.now t.into m
  map_kept m of is p = Stands-kept v.now w.now t.into p (node_at m p) (same_below p) (λ sum leaf e. same_leaf p sum (of p (Leaf sum) e)) (is p)

  kept_in : (ph : CheckoutPhase) → needs_in ph t v.now → needs_in ph t w.now
  kept_in Begin needs = (home_kept needs.0, leaves_kept needs.1)
  kept_in (Make n) needs = record {
    home = home_kept needs.home;
    made = map_kept (take n t.tree) (λ p x e. part_found t.tree n p x e) needs.made;
    leaves = leaves_kept needs.leaves;
  }
  kept_in Ended needs = map_kept t.tree (λ p x e. e) needs
  kept_in Refused needs = tt

  -- The facts of the checkout stay true.
  pub checkout_kept : Needs t v.now → Needs t w.now
  checkout_kept needs = kept_in t.phase needs

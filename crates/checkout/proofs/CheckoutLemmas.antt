-- What a step of a checkout writes and leaves.
use Rattle.std.proofs.Common.{◌≡◌, ◌≢◌, ◌⊎◌, inl, inr, ℕ, ◌+◌, Bool, true, false, refl, sym, ◌∙◌, ap, subst, [], ◌∷◌, ◌++◌, length, take, Option, Some, None, if◌then◌else◌, append-nil, append_assoc, ltb-false}
use Rattle.std.specs.Prelude.{nat_lt}
use Rattle.std.proofs.lemmas.List.{append_cancel_left, take_all, take_more}
use Rattle.ost_types.specs.declared.node.NodeName.{NodeName}
use Rattle.ost_types.specs.declared.node.NodeName.TheVariants.{Folder, Leaf}
use Rattle.ost_types.specs.Path.{Name, Path, under, is_in}
use Rattle.ost_types.specs.PathMap.{node_at}
use Rattle.ost_types.proofs.Paths.{root_or_under, same_or_apart, is_in-under}
use Rattle.fs_trait.specs.declared.types.Value.{Value}
use Rattle.fs_trait.specs.declared.types.Value.TheVariants as value
use Rattle.fs_trait.specs.declared.types.FsErr.{FsErr}
use Rattle.fs_trait.specs.View.{Disk, View, named}
use Rattle.fs_trait.specs.Image.{is_folder, IsTree}
use Rattle.fs_trait.specs.Effect.{no_new, no_leaf, no_link, unless_leaf}
use Rattle.fs_trait.specs.Seen.{Vacant, Directory, seen, shows, MayShow, IsDirectory}
use Rattle.fs_trait.specs.Change.{Writes, At}
use Rattle.fs_trait.proofs.Ways.{way-there}
use Rattle.fs_trait.proofs.Kept.{weaker}
use Rattle.fs_trait.proofs.Effects.{named-writes, shows_named, shows_named_apart}
use Rattle.fs_trait.proofs.Claims.{folder_shows}
use Rattle.fs_trait.proofs.Facts.{vacant_absent, no_new-free}
use Rattle.fs_trait.proofs.Images.{not_both}
use Rattle.checkout.specs.declared.checkout_phase.CheckoutPhase.TheVariants.{Make, Ended}
use Rattle.checkout.specs.CheckoutFolder.{IsLeaf, leaf_path, Stands, IsCheckout, HasLeaves}
use Rattle.checkout.specs.CheckoutWork.{Checkout, IsNumber, IsMade, reached}
use Rattle.checkout.specs.CheckoutSteps.{value_of, no_make, Makes, HasHome, Ready, Needs}
use Rattle.checkout.proofs.CheckoutMaps.{push_here, push_apart, found_at, none_before, folder_before}

-- a step whose call isn't refused
pub record Step (n : ℕ) (t : Checkout) (v : View) (refusal : Option FsErr) (w : View) : Type 0 where
  pub free : refusal ≡ None
  pub writes : Writes (Makes n t v) v w
  pub after : Needs (reached n t) w.now

-- ---- leaves

leaf_value : (d : Disk) (z : Value) → IsLeaf (seen d z) → (unless_leaf z ≡ None) × (z ≢ value.Absent)
leaf_value d value.Absent is = absurd is
leaf_value d (value.Folder m) is = absurd is
leaf_value d (value.Link m target) is = (refl, λ e. let n : value.Link m target ≡ value.Absent = e in cc)
leaf_value d (value.File n) is = (refl, λ e. let no : value.File n ≡ value.Absent = e in cc)

pub no_leaf-leaf : (d : Disk) (p : Path) → IsTree d → IsLeaf (shows d p) → no_leaf p d ≡ None
unfolding no_leaf
no_leaf-leaf d p tree is = let z = leaf_value d (d.at p) is in rw (way-there d tree p z.1) z.0

no_link-free : (d : Disk) (from to : Path) → no_leaf from d ≡ None → no_new to d ≡ None → no_link from to d ≡ None
unfolding no_link
no_link-free d from to a b = rw a b

pub not_vacant : (d : Disk) (p q : Path) → IsLeaf (shows d p) → shows d q ≡ Vacant → p ≢ q
not_vacant d p q leaf vacant same = subst IsLeaf (ap (shows d) same ∙ vacant) leaf

not_vacant_folder : (d : Disk) (p q : Path) → IsDirectory (shows d p) → shows d q ≡ Vacant → p ≢ q
not_vacant_folder d p q folder vacant same = subst IsDirectory (ap (shows d) same ∙ vacant) folder

-- what stands at a path stands there still, where it and the leaves' objects show what they showed
pub Stands-kept : (d e : Disk) (into p : Path) (x : Option NodeName) → shows e (into ++ p) ≡ shows d (into ++ p)
    → ((sum : _) → IsLeaf (shows d (leaf_path sum)) → x ≡ Some (Leaf sum) → shows e (leaf_path sum) ≡ shows d (leaf_path sum)) → Stands d into p x → Stands e into p x
Stands-kept d e into p None here there is = here ∙ is
Stands-kept d e into p (Some (Folder m)) here there is = here ∙ is
Stands-kept d e into p (Some (Leaf sum)) here there is = (subst IsLeaf (sym here) is.0, here ∙ is.1 ∙ sym (there sum (subst IsLeaf is.1 is.0) refl))

module _ (n : ℕ) (t : Checkout) (e : Path × NodeName) (v : View) (tree : IsTree v.now) (made : IsMade t) (ready : Ready n t v.now) (number : IsNumber t.tree n e) where
  target : Path
  target = t.into ++ e.0

  absent : node_at (take n t.tree) e.0 ≡ None
  absent = none_before t.tree n e made.map.ascending number.0 number.1

  vacant : shows v.now (t.into ++ e.0) ≡ Vacant
  vacant = subst (Stands v.now t.into e.0) absent (ready.made e.0)

  -- the folder in which it is made
  record Parent : Type 0 where
    pub folder : Path
    pub name : Name
    pub is : t.into ++ e.0 ≡ under folder name
    pub there : is_folder (v.now.at folder) ≡ true

  of_root : e.0 ≡ [] → (t.into ≡ []) ⊎ ((g : Path) × (y : Name) × (t.into ≡ under g y)) → Parent
  of_root root (inl top) =
      let here : t.into ++ e.0 ≡ [] = ap (λ q. t.into ++ q) root ∙ append-nil t.into ∙ top in
      absurd (not_both tree.root (ap is_folder (vacant_absent v.now [] (ap (shows v.now) (sym here) ∙ vacant))))
  of_root root (inr w) = record {
    folder = w.0;
    name = w.1;
    is = ap (λ q. t.into ++ q) root ∙ append-nil t.into ∙ w.2;
    there = folder_shows v.now w.0 (ready.home w.0 (subst (λ q. is_in w.0 q ≡ true) (sym w.2) (is_in-under w.0 w.1)));
  }

  of_name : (f : Path) (x : Name) → e.0 ≡ under f x → Parent
  of_name f x at =
      let has : node_at t.tree (under f x) ≡ Some e.1 = ap (node_at t.tree) (sym at) ∙ found_at t.tree n e made.map.ascending number.0 number.1 in
      let up = made.placed.shape.inner f x e.1 has in
      let before : node_at (take n t.tree) f ≡ Some (Folder up.0) = folder_before t.tree n e f x (Folder up.0) made.map.ascending number.0 number.1 at up.1 in
      let shown : shows v.now (t.into ++ f) ≡ Directory up.0 = subst (Stands v.now t.into f) before (ready.made f) in
      record {
        folder = t.into ++ f;
        name = x;
        is = ap (λ q. t.into ++ q) at ∙ sym (append_assoc t.into f (x ∷ []));
        there = folder_shows v.now (t.into ++ f) (subst IsDirectory (sym shown) tt);
      }

  parent : Parent
  parent = by (root_or_under e.0)
    where
      by : (e.0 ≡ []) ⊎ ((f : Path) × (x : Name) × (e.0 ≡ under f x)) → Parent
      by (inl root) = of_root root (root_or_under t.into)
      by (inr w) = of_name w.0 w.1 w.2

  free_new : no_new (t.into ++ e.0) v.now ≡ None
  free_new =
      let gone : shows v.now (under parent.folder parent.name) ≡ Vacant = ap (shows v.now) (sym parent.is) ∙ vacant in
      ap (λ q. no_new q v.now) parent.is ∙ no_new-free v.now parent.folder parent.name tree parent.there (vacant_absent v.now (under parent.folder parent.name) gone)

  found : node_at t.tree e.0 ≡ Some e.1
  found = found_at t.tree n e made.map.ascending number.0 number.1

  leaf_there : (sum : _) → e.1 ≡ Leaf sum → IsLeaf (shows v.now (leaf_path sum))
  leaf_there sum is = ready.leaves e.0 sum (found ∙ ap Some is)

  free : (node : NodeName) → e.1 ≡ node → no_make node (t.into ++ e.0) v.now ≡ None
  free (Folder m) is = free_new
  free (Leaf sum) is = no_link-free v.now (leaf_path sum) (t.into ++ e.0) (no_leaf-leaf v.now (leaf_path sum) tree (leaf_there sum is)) free_new

  after_view : View
  after_view = named (t.into ++ e.0) (value_of e.1 v.now) v

  written : Writes (Makes n t v) v (named (t.into ++ e.0) (value_of e.1 v.now) v)
  written = weaker (At (t.into ++ e.0) (MayShow v (value_of e.1 v.now))) (Makes n t v) v (named (t.into ++ e.0) (value_of e.1 v.now) v)
      (λ p s a. (e, number, a.0, ap (shows v.now) a.0 ∙ vacant, a.1)) (named-writes v (t.into ++ e.0) (value_of e.1 v.now))

  kept : (q : Path) → q ≢ t.into ++ e.0 → shows (named (t.into ++ e.0) (value_of e.1 v.now) v).now q ≡ shows v.now q
  kept q apart = shows_named_apart v (t.into ++ e.0) (value_of e.1 v.now) q (λ s. apart (sym s))

  kept_leaf : (sum : _) → IsLeaf (shows v.now (leaf_path sum)) → shows (named (t.into ++ e.0) (value_of e.1 v.now) v).now (leaf_path sum) ≡ shows v.now (leaf_path sum)
  kept_leaf sum leaf = kept (leaf_path sum) (not_vacant v.now (leaf_path sum) (t.into ++ e.0) leaf vacant)

  stands : (node : NodeName) → e.1 ≡ node → Stands (named (t.into ++ e.0) (value_of e.1 v.now) v).now t.into e.0 (Some node)
  stands (Folder m) is = shows_named v (t.into ++ e.0) (value_of e.1 v.now) ∙ ap (λ k. seen v.now (value_of k v.now)) is
  stands (Leaf sum) is =
      let here : shows (named (t.into ++ e.0) (value_of e.1 v.now) v).now (t.into ++ e.0) ≡ shows v.now (leaf_path sum) = shows_named v (t.into ++ e.0) (value_of e.1 v.now) ∙ ap (λ k. seen v.now (value_of k v.now)) is in
      let leaf = leaf_there sum is in
      (subst IsLeaf (sym here) leaf, here ∙ sym (kept_leaf sum leaf))

  one_more : IsCheckout (named (t.into ++ e.0) (value_of e.1 v.now) v).now t.into (take n t.tree ++ e ∷ [])
  one_more p = by (same_or_apart e.0 p)
    where
      by : (e.0 ≡ p) ⊎ (e.0 ≢ p) → Stands (named (t.into ++ e.0) (value_of e.1 v.now) v).now t.into p (node_at (take n t.tree ++ e ∷ []) p)
      by (inl same) =
          subst (λ q. Stands (named (t.into ++ e.0) (value_of e.1 v.now) v).now t.into q (node_at (take n t.tree ++ e ∷ []) q)) same
          (subst (Stands (named (t.into ++ e.0) (value_of e.1 v.now) v).now t.into e.0) (sym (push_here (take n t.tree) e absent)) (stands e.1 refl))
      by (inr apart) =
          subst (Stands (named (t.into ++ e.0) (value_of e.1 v.now) v).now t.into p) (sym (push_apart (take n t.tree) e p apart))
          (Stands-kept v.now (named (t.into ++ e.0) (value_of e.1 v.now) v).now t.into p (node_at (take n t.tree) p)
          (kept (t.into ++ p) (λ s. apart (sym (append_cancel_left t.into p e.0 s)))) (λ sum leaf is. kept_leaf sum leaf) (ready.made p))

  more : take (n + 1) t.tree ≡ take n t.tree ++ e ∷ []
  more = take_more t.tree n e number.0 ∙ ap (λ y. take n t.tree ++ y ∷ []) number.1

  made_more : IsCheckout (named (t.into ++ e.0) (value_of e.1 v.now) v).now t.into (take (n + 1) t.tree)
  made_more = subst (IsCheckout (named (t.into ++ e.0) (value_of e.1 v.now) v).now t.into) (sym more) one_more

  home_after : HasHome t.into (named (t.into ++ e.0) (value_of e.1 v.now) v).now
  home_after p in_ = subst IsDirectory (sym (kept p (not_vacant_folder v.now p (t.into ++ e.0) (ready.home p in_) vacant))) (ready.home p in_)

  leaves_after : HasLeaves (named (t.into ++ e.0) (value_of e.1 v.now) v).now t.tree
  leaves_after p sum has = let leaf = ready.leaves p sum has in subst IsLeaf (sym (kept_leaf sum leaf)) leaf

  needs_after : (b : Bool) → nat_lt (n + 1) (length t.tree) ≡ b → Needs (record t { phase = if b then Make (n + 1) else Ended }) (named (t.into ++ e.0) (value_of e.1 v.now) v).now
  needs_after true is = record { home = home_after; made = made_more; leaves = leaves_after }
  needs_after false is =
      subst (IsCheckout (named (t.into ++ e.0) (value_of e.1 v.now) v).now t.into) (take_all (n + 1) t.tree (ltb-false (n + 1) (length t.tree) is)) made_more

  pub make_step : Step n t v (no_make e.1 (t.into ++ e.0) v.now) (named (t.into ++ e.0) (value_of e.1 v.now) v)
  make_step = record { free = free e.1 refl; writes = written; after = needs_after (nat_lt (n + 1) (length t.tree)) refl }

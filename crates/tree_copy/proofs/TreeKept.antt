-- What of a copied tree stays true where something is written at one path of it.
use Rattle.std.proofs.Common.{◌≡◌, ◌≢◌, ◌⊎◌, inl, inr, ⊎_elim, ℕ, ◌+◌, Bool, true, false, refl, sym, ◌∙◌, ap, subst, List, [], ◌∷◌, ◌++◌, length, take, Option, Some, None, if◌then◌else◌, ltb-false}
use Rattle.std.specs.Prelude.{nat_lt}
use Rattle.std.proofs.lemmas.List.{append_cancel_left, take_all, take_more}
use Rattle.ost_types.specs.declared.meta.Meta.{Meta}
use Rattle.ost_types.specs.declared.node.NodeName.{NodeName}
use Rattle.ost_types.specs.declared.node.NodeName.TheVariants.{Folder, Leaf}
use Rattle.ost_types.specs.Path.{Path}
use Rattle.ost_types.specs.PathMap.{Nodes, node_at}
use Rattle.ost_types.proofs.Paths.{same_or_apart}
use Rattle.fs_trait.specs.declared.types.Value.TheVariants.{File}
use Rattle.fs_trait.specs.View.{Disk, View}
use Rattle.fs_trait.specs.Seen.{Seen, Vacant, Directory, Symlink, Leaf as SeenLeaf, seen, shows, IsDirectory, NotDirectory}
use Rattle.fs_trait.specs.Change.{Writes, Own}
use Rattle.fs_trait.proofs.Facts.{leaf_file, shows_kept}
use Rattle.checkout.specs.CheckoutFolder.{leaf_path}
use Rattle.checkout.specs.CheckoutWork.{IsNumber}
use Rattle.checkout.specs.CheckoutSteps.{HasHome}
use Rattle.checkout.proofs.CheckoutMaps.{part_found, push_here, push_apart}
use Rattle.tree_copy.specs.declared.phase.TreePhase.TheVariants.{Make, Ended}
use Rattle.tree_copy.specs.TreeFolder.{HasSources, IsAlone, IsCopy, IsCopyOf, IsSource, Stands}
use Rattle.tree_copy.specs.TreeWork.{TreeCopying, reached}
use Rattle.tree_copy.specs.TreeSteps.{Needs}

-- ---- at one path

-- an inode that is given no other name has none
pub alone_kept : (W : Path → Seen → Type 0) (v w : View) (k : ℕ) (at : Path) → Writes W v w → ((q : Path) (s : Seen) → W q s → Own k at q s) → IsAlone v.now k at → IsAlone w.now k at
alone_kept W v w k at writes own was q is =
    let shown : shows w.now q ≡ SeenLeaf k (w.now.meta k) (w.now.bytes k) = ap (seen w.now) is in
    ⊎_elim (λ same. was q (leaf_file v.now q k (w.now.meta k) (w.now.bytes k) (sym same ∙ shown)).0) (λ wrote. own q (shows w.now q) wrote (w.now.meta k) (w.now.bytes k) shown) (writes.now q)

copy_of_kept : (d e : Disk) (p : Path) (s : Seen) → shows e p ≡ shows d p → ((k : ℕ) → d.at p ≡ File k → IsAlone d k p → IsAlone e k p) → IsCopyOf d p s → IsCopyOf e p s
copy_of_kept d e p Vacant same own is = absurd is
copy_of_kept d e p (Directory m) same own is = absurd is
copy_of_kept d e p (Symlink m target) same own is = same ∙ is
copy_of_kept d e p (SeenLeaf n m b) same own is = (is.0, same ∙ is.1, own is.0 (leaf_file d p is.0 m b is.1).0 is.2)

-- what stands at a path stands there still, where it and the leaf's object show what they showed, and its inode got no other name
pub Stands-kept : (d e : Disk) (into p : Path) (x : Option NodeName) → shows e (into ++ p) ≡ shows d (into ++ p)
    → ((sum : List ℕ) → x ≡ Some (Leaf sum) → shows e (leaf_path sum) ≡ shows d (leaf_path sum))
    → ((k : ℕ) → d.at (into ++ p) ≡ File k → IsAlone d k (into ++ p) → IsAlone e k (into ++ p))
    → Stands d into p x → Stands e into p x
Stands-kept d e into p None here there own is = here ∙ is
Stands-kept d e into p (Some (Folder m)) here there own is = here ∙ is
Stands-kept d e into p (Some (Leaf sum)) here there own is =
    subst (IsCopyOf e (into ++ p)) (sym (there sum refl)) (copy_of_kept d e (into ++ p) (shows d (leaf_path sum)) here own is)

-- ---- a change at one path

-- a file that is written stands nowhere but at this path
abbrev pub IsOwn : Path → View → Seen → Type 0
IsOwn at v s = (k : ℕ) (m : Meta) (b : List ℕ) → s ≡ SeenLeaf k m b → (q : Path) → v.now.at q ≡ File k → q ≡ at

-- The change writes at one path alone, puts nothing in a folder's place, and gives no inode that stands elsewhere a name there.
pub record IsAt (W : Path → Seen → Type 0) (at : Path) (v : View) : Type 0 where
  pub place : (p : Path) (s : Seen) → W p s → p ≡ at
  pub folders : (p : Path) (s : Seen) → W p s → NotDirectory (shows v.now p)
  pub own : (p : Path) (s : Seen) → W p s → IsOwn at v s

not_both : (s : Seen) → IsDirectory s → NotDirectory s → ⊥
not_both Vacant is not = is
not_both (Directory m) is not = not
not_both (Symlink m l) is not = is
not_both (SeenLeaf n m b) is not = is

module _ (W : Path → Seen → Type 0) (at : Path) (v w : View) (is_at : IsAt W at v) (writes : Writes W v w) where
  -- elsewhere all is as it was
  pub off : (p : Path) → p ≢ at → shows w.now p ≡ shows v.now p
  off p apart = shows_kept W v w p writes (λ s a. apart (is_at.place p s a))

  alone_off : (p : Path) → p ≢ at → (k : ℕ) → v.now.at p ≡ File k → IsAlone v.now k p → IsAlone w.now k p
  alone_off p apart k is alone = alone_kept W v w k p writes (λ q s a m b e. absurd (apart (is_at.own q s a k m b e p is))) alone

  pub home_kept : (into : Path) → HasHome into v.now → HasHome into w.now
  home_kept into home p in_ =
      subst IsDirectory (sym (shows_kept W v w p writes (λ s a. not_both (shows v.now p) (home p in_) (is_at.folders p s a)))) (home p in_)

  module _ (tree : Nodes) (apart : (p : Path) (sum : List ℕ) → node_at tree p ≡ Some (Leaf sum) → leaf_path sum ≢ at) where
    pub sources_kept : HasSources v.now tree → HasSources w.now tree
    sources_kept there p sum has = subst IsSource (sym (off (leaf_path sum) (apart p sum has))) (there p sum has)

    pub others_kept : (into : Path) (n : ℕ) → ((p : Path) → into ++ p ≢ at → Stands v.now into p (node_at (take n tree) p))
        → (p : Path) → into ++ p ≢ at → Stands w.now into p (node_at (take n tree) p)
    others_kept into n others p away =
        Stands-kept v.now w.now into p (node_at (take n tree) p) (off (into ++ p) away)
        (λ sum has. off (leaf_path sum) (apart p sum (part_found tree n p (Leaf sum) has))) (alone_off (into ++ p) away) (others p away)

-- ---- one node more

-- where all other paths are as those before a node say, and the node stands at its own, one node more is copied
pub one_more : (d : Disk) (into : Path) (tree : Nodes) (n : ℕ) (e : Path × NodeName) → IsNumber tree n e → node_at (take n tree) e.0 ≡ None
    → ((p : Path) → into ++ p ≢ into ++ e.0 → Stands d into p (node_at (take n tree) p)) → Stands d into e.0 (Some e.1) → IsCopy d into (take (n + 1) tree)
one_more d into tree n e number absent others here =
    subst (IsCopy d into) (sym (take_more tree n e number.0 ∙ ap (λ y. take n tree ++ y ∷ []) number.1)) (λ p. by p (same_or_apart e.0 p))
  where
    by : (p : Path) → (e.0 ≡ p) ⊎ (e.0 ≢ p) → Stands d into p (node_at (take n tree ++ e ∷ []) p)
    by p (inl same) =
        subst (λ q. Stands d into q (node_at (take n tree ++ e ∷ []) q)) same
        (subst (Stands d into e.0) (sym (push_here (take n tree) e absent)) here)
    by p (inr apart) =
        subst (Stands d into p) (sym (push_apart (take n tree) e p apart))
        (others p (λ s. apart (sym (append_cancel_left into p e.0 s))))

-- so the next node is ready to be made, or the folder is a copy of the map
pub next_needs : (n : ℕ) (t : TreeCopying) (v : View) → HasHome t.into v.now → HasSources v.now t.tree → IsCopy v.now t.into (take (n + 1) t.tree) → Needs (reached n t) v
next_needs n t v home sources made = by (nat_lt (n + 1) (length t.tree)) refl
  where
    by : (b : Bool) → nat_lt (n + 1) (length t.tree) ≡ b → Needs (record t { phase = if b then Make (n + 1) else Ended }) v
    by true is = record { home = home; made = made; sources = sources }
    by false is = subst (IsCopy v.now t.into) (take_all (n + 1) t.tree (ltb-false (n + 1) (length t.tree) is)) made

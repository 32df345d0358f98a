-- Where a copy of a tree writes, for all others; and its facts stay true under what others may write.
use Rattle.std.proofs.Common.{◌≡◌, ◌⊎◌, inl, inr, ⊎_elim, ℕ, true, refl, sym, ◌∙◌, ap, subst, List, [], ◌∷◌, ◌++◌, take, Some, append-nil, append_assoc}
use Rattle.ost_types.specs.declared.meta.Meta.{Meta}
use Rattle.ost_types.specs.declared.node.NodeName.{NodeName}
use Rattle.ost_types.specs.declared.node.NodeName.TheVariants.{Leaf}
use Rattle.ost_types.specs.Path.{Name, Path, under, is_in, is_below}
use Rattle.ost_types.specs.PathMap.{Nodes, node_at}
use Rattle.ost_types.proofs.Paths.{is_below-self, root_or_under, under-folder, under-is_in}
use Rattle.fs_trait.specs.declared.types.Value.{Value}
use Rattle.fs_trait.specs.declared.types.Value.TheVariants.{Absent, Folder, Link, File}
use Rattle.fs_trait.specs.View.{View}
use Rattle.fs_trait.specs.Image.{Holds}
use Rattle.fs_trait.specs.Seen.{Seen, Vacant, Directory, Symlink, Leaf as SeenLeaf, shows, MayBe, IsDirectory, NotDirectory}
use Rattle.fs_trait.specs.Change.{Writes, Harmless, Own}
use Rattle.fs_trait.proofs.Claims.{is_below-before}
use Rattle.fs_trait.proofs.Facts.{may_held, shows_kept}
use Rattle.file_copy.specs.Copying.{Copying}
use Rattle.file_copy.proofs.CopyLemmas.{at_stage}
use Rattle.file_copy.proofs.Stable as copy
use Rattle.checkout.specs.CheckoutFolder.{leaf_path}
use Rattle.checkout.specs.CheckoutSteps.{HasHome, value_of}
use Rattle.checkout.proofs.CheckoutMaps.{part_found}
use Rattle.tree_copy.specs.declared.phase.TreePhase.{TreePhase}
use Rattle.tree_copy.specs.declared.phase.TreePhase.TheVariants.{Begin, Make, Copy, Ended, Refused}
use Rattle.tree_copy.specs.TreeFolder.{HasSources, IsAlone, IsSource, Stands}
use Rattle.tree_copy.specs.TreeWork.{TreeCopying}
use Rattle.tree_copy.specs.TreeSteps.{Copies, IsMadeOf, IsOfLeaf, Needs, WritesOf, needs_in, writes_in}
use Rattle.tree_copy.proofs.TreeKept.{Stands-kept, alone_kept}
use Rattle.tree_copy.proofs.TreeCopies.{stage_held}

-- ---- its own writes

-- the file is at this path that is being copied
abbrev pub IsCopied : TreePhase → Path → Type 0
IsCopied (Copy n c) p = p ≡ c.stage
IsCopied ph p = ⊥

-- Where a write of the next step lies: at the path or below it, where nothing stood or the file is that is being copied. It takes no
-- folder's place; and a file that is written stands at no other path, nor stood there since that was last synced.
pub record LiesIn (ph : TreePhase) (t : TreeCopying) (v : View) (p : Path) (s : Seen) : Type 0 where
  pub below : is_below t.into p ≡ true
  pub place : (shows v.now p ≡ Vacant) ⊎ IsCopied ph p
  pub folders : NotDirectory (shows v.now p)
  pub own : (k : ℕ) (m : Meta) (b : List ℕ) → s ≡ SeenLeaf k m b → (q : Path) → Holds v q (File k) → q ≡ p

abbrev pub Lies : TreeCopying → View → Path → Seen → Type 0
Lies t = LiesIn t.phase t

no_file : (z : Value) (s : Seen) → IsMadeOf z s → (k : ℕ) (m : Meta) (b : List ℕ) → s ≡ SeenLeaf k m b → ⊥
no_file Absent s is k m b e = absurd is
no_file (Folder x) s is k m b e = let no_ : Directory x ≡ SeenLeaf k m b = sym is ∙ e in cc
no_file (Link x target) s is k m b e = let no_ : Symlink x target ≡ SeenLeaf k m b = sym is ∙ e in cc
no_file (File n) s is k m b e = absurd is

below_at : (into rest p : Path) → p ≡ into ++ rest → is_below into p ≡ true
below_at into rest p is = subst (λ q. is_below into q ≡ true) (sym is) (is_below-before into rest)

lies : (ph : TreePhase) (t : TreeCopying) (v : View) → needs_in ph t v → (p : Path) (s : Seen) → writes_in ph t v p s → LiesIn ph t v p s
lies Begin t v needs p s a = record {
  below = subst (λ q. is_below t.into q ≡ true) (sym a.2) (is_below-self t.into);
  place = inl a.3;
  folders = subst NotDirectory (sym a.3) tt;
  own = λ k m b e q held. absurd (no_file (Folder a.0) s a.4 k m b e);
}
lies (Make n) t v needs p s a = record {
  below = below_at t.into a.0.0 p a.2;
  place = inl a.3;
  folders = subst NotDirectory (sym a.3) tt;
  own = λ k m b e q held. absurd (no_file (value_of a.0.1 v.now) s a.4 k m b e);
}
lies (Copy n c) t v needs p s a =
    let at = at_stage c v p s a in
    record {
      below = below_at t.into needs.leaf.path p (at ∙ needs.leaf.stage);
      place = inr at;
      folders = (copy.copy_lies c v needs.copy p s a).folders;
      own = λ k m b e q held. stage_held c v needs.copy p s a k m b e q held ∙ sym at;
    }
lies Ended t v needs p s a = absurd a
lies Refused t v needs p s a = absurd a

pub copy_lies : (t : TreeCopying) (v : View) → Needs t v → (p : Path) (s : Seen) → WritesOf t v p s → Lies t v p s
copy_lies t v needs p s a = lies t.phase t v needs p s a

-- ---- the writes of others

-- They spare the copy: they write nothing at its path or below it, nor at the objects of its leaves, leave folders where folders are
-- above it, and give the inodes of its files no other name.
pub record Spares (W : Path → Seen → Type 0) (t : TreeCopying) (v : View) : Type 0 where
  pub below : (p : Path) (s : Seen) → is_below t.into p ≡ true → W p s → ⊥
  pub sources : (p : Path) (sum : List ℕ) (s : Seen) → node_at t.tree p ≡ Some (Leaf sum) → W (leaf_path sum) s → ⊥
  pub parents : (p : Path) (s : Seen) → is_in p t.into ≡ true → IsDirectory (shows v.now p) → W p s → IsDirectory s
  pub own : (p : Path) (k : ℕ) → v.now.at (t.into ++ p) ≡ File k → IsAlone v.now k (t.into ++ p) → (q : Path) (s : Seen) → W q s → Own k (t.into ++ p) q s

-- what is above a path below the folder is above the folder, or below it too
above : (into rest p : Path) → is_in p (into ++ rest) ≡ true → (is_in p into ≡ true) ⊎ (is_below into p ≡ true)
above into rest p in_ = by (root_or_under rest)
  where
    by : (rest ≡ []) ⊎ ((f : Path) × (x : Name) × (rest ≡ under f x)) → (is_in p into ≡ true) ⊎ (is_below into p ≡ true)
    by (inl root) = inl (subst (λ q. is_in p q ≡ true) (ap (λ q. into ++ q) root ∙ append-nil into) in_)
    by (inr w) =
        let at = under-is_in p (into ++ rest) in_ in
        let path : into ++ rest ≡ under (into ++ w.0) w.1 = ap (λ q. into ++ q) w.2 ∙ sym (append_assoc into w.0 (w.1 ∷ [])) in
        inr (below_at into w.0 p (under-folder p (into ++ w.0) at.0 w.1 (sym at.1 ∙ path)))

module _ (W : Path → Seen → Type 0) (t : TreeCopying) (v : View) (spares : Spares W t v) (w : View) (writes : Writes W v w) where
  same_below : (p : Path) → shows w.now (t.into ++ p) ≡ shows v.now (t.into ++ p)
  same_below p = shows_kept W v w (t.into ++ p) writes (λ s a. spares.below (t.into ++ p) s (is_below-before t.into p) a)

  same_source : (p : Path) (sum : List ℕ) → node_at t.tree p ≡ Some (Leaf sum) → shows w.now (leaf_path sum) ≡ shows v.now (leaf_path sum)
  same_source p sum has = shows_kept W v w (leaf_path sum) writes (λ s a. spares.sources p sum s has a)

  home_kept : HasHome t.into v.now → HasHome t.into w.now
  home_kept home p in_ = ⊎_elim (λ same. subst IsDirectory (sym same) (home p in_)) (λ wrote. spares.parents p (shows w.now p) in_ (home p in_) wrote) (writes.now p)

  sources_kept : HasSources v.now t.tree → HasSources w.now t.tree
  sources_kept there p sum has = subst IsSource (sym (same_source p sum has)) (there p sum has)

  stands_kept : (m : Nodes) → ((p : Path) (n : NodeName) → node_at m p ≡ Some n → node_at t.tree p ≡ Some n) → (p : Path) → Stands v.now t.into p (node_at m p) → Stands w.now t.into p (node_at m p)
  stands_kept m of p is = Stands-kept v.now w.now t.into p (node_at m p) (same_below p) (λ sum e. same_source p sum (of p (Leaf sum) e))
      (λ k at alone. alone_kept W v w k (t.into ++ p) writes (spares.own p k at alone) alone) is

  module _ (n : ℕ) (c : Copying) (needs : Copies n c t v) where
    abbrev leaf : IsOfLeaf c t
    leaf = needs.leaf

    from_out : (s : Seen) → W c.from s → ⊥
    from_out s a = spares.sources leaf.path leaf.sum s leaf.listed (subst (λ q. W q s) leaf.from a)

    parents_on : (p : Path) (s : Seen) → is_in p c.stage ≡ true → IsDirectory (shows v.now p) → W p s → IsDirectory s
    parents_on p s in_ folder a =
        ⊎_elim (λ up. spares.parents p s up folder a) (λ below. absurd (spares.below p s below a)) (above t.into leaf.path p (subst (λ q. is_in p q ≡ true) leaf.stage in_))

    own_on : (k : ℕ) → v.now.at c.stage ≡ File k → ((p : Path) (s : Seen) → MayBe v p s → Own k c.stage p s) → Harmless W (Own k c.stage)
    own_on k at firm =
        subst (λ q. Harmless W (Own k q)) (sym leaf.stage)
        (spares.own leaf.path k (subst (λ q. v.now.at q ≡ File k) leaf.stage at)
        (λ q is. firm q (SeenLeaf k (v.now.meta k) (v.now.bytes k)) (may_held v q k (inl (sym is))) (v.now.meta k) (v.now.bytes k) refl ∙ leaf.stage))

    copy_spared : copy.Spares W c v
    copy_spared = record {
      staged = record {
        stage = λ s a. spares.below c.stage s (below_at t.into leaf.path c.stage leaf.stage) a;
        parents = parents_on;
        own = own_on;
      };
      source = from_out;
    }

    copies_kept : Copies n c t w
    copies_kept = record {
      leaf = needs.leaf;
      home = home_kept needs.home;
      others = λ p away. stands_kept (take n t.tree) (λ q x e. part_found t.tree n q x e) p (needs.others p away);
      sources = sources_kept needs.sources;
      apart = needs.apart;
      source = (needs.source.0, needs.source.1, shows_kept W v w c.from writes from_out ∙ needs.source.2);
      copy = copy.copy_kept W c v copy_spared needs.copy w writes;
    }

  kept_in : (ph : TreePhase) → needs_in ph t v → needs_in ph t w
  kept_in Begin needs = (home_kept needs.0, sources_kept needs.1)
  kept_in (Make n) needs = record {
    home = home_kept needs.home;
    made = λ p. stands_kept (take n t.tree) (λ q x e. part_found t.tree n q x e) p (needs.made p);
    sources = sources_kept needs.sources;
  }
  kept_in (Copy n c) needs = copies_kept n c needs
  kept_in Ended needs = λ p. stands_kept t.tree (λ q x e. e) p (needs p)
  kept_in Refused needs = tt

  -- The facts of the copy stay true.
  pub copy_kept : Needs t v → Needs t w
  copy_kept needs = kept_in t.phase needs

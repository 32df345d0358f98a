-- What making a node of the map writes and leaves, and what the copy of its file begins with.
use Rattle.std.proofs.Common.{◌≡◌, ◌≢◌, ◌⊎◌, inl, inr, ℕ, true, refl, sym, ◌∙◌, ap, subst, List, [], ◌∷◌, ◌++◌, take, Some, None, append-nil, append_assoc}
use Rattle.ost_types.specs.declared.node.NodeName.{NodeName}
use Rattle.ost_types.specs.declared.node.NodeName.TheVariants.{Folder, Leaf}
use Rattle.ost_types.specs.Path.{Name, Path, under, is_in}
use Rattle.ost_types.specs.PathMap.{node_at}
use Rattle.ost_types.proofs.Paths.{root_or_under, is_in-under, under-is_in, under-folder}
use Rattle.fs_trait.specs.declared.types.Value.{Value}
use Rattle.fs_trait.specs.declared.types.Value.TheVariants as value
use Rattle.fs_trait.specs.View.{Disk, View, named}
use Rattle.fs_trait.specs.Image.{is_folder, IsTree}
use Rattle.fs_trait.specs.Effect.{no_new}
use Rattle.fs_trait.specs.Seen.{Seen, Vacant, Directory, Symlink, Leaf as SeenLeaf, seen, shows, bytes_in, MayShow, IsDirectory, NotDirectory}
use Rattle.fs_trait.specs.Change.{Writes, At}
use Rattle.fs_trait.proofs.Kept.{weaker}
use Rattle.fs_trait.proofs.Effects.{named-writes, shows_named}
use Rattle.fs_trait.proofs.Claims.{folder_shows, reads_shows}
use Rattle.fs_trait.proofs.Facts.{vacant_absent, no_new-free}
use Rattle.fs_trait.proofs.Images.{not_both}
use Rattle.fs_trait.proofs.Answering.{Step}
use Rattle.file_copy.specs.Copying as copy
use Rattle.file_copy.proofs.Stable.{copy_new}
use Rattle.checkout.specs.CheckoutFolder.{leaf_path}
use Rattle.checkout.specs.CheckoutWork.{IsNumber}
use Rattle.checkout.specs.CheckoutSteps.{HasHome, value_of}
use Rattle.checkout.proofs.CheckoutMaps.{found_at, none_before, folder_before}
use Rattle.tree_copy.specs.declared.phase.TreePhase.TheVariants.{Copy}
use Rattle.tree_copy.specs.TreeFolder.{IsCopyOf, IsSource, Stands}
use Rattle.tree_copy.specs.TreeWork.{IsMade, TreeCopying, reached}
use Rattle.tree_copy.specs.TreeSteps.{Copies, IsMadeOf, Makes, Needs, Ready}
use Rattle.tree_copy.proofs.TreeKept.{IsAt, IsOwn, home_kept, next_needs, off, one_more, others_kept, sources_kept}

-- a folder or a link
abbrev pub IsPlain : Value → Type 0
IsPlain (value.Folder m) = Unit {0}
IsPlain (value.Link m target) = Unit {0}
IsPlain z = ⊥

plain_made : (v : View) (z : Value) (s : Seen) → IsPlain z → MayShow v z s → IsMadeOf z s
plain_made v value.Absent s plain may = absurd plain
plain_made v (value.Folder m) s plain may = may
plain_made v (value.Link m target) s plain may = may
plain_made v (value.File n) s plain may = absurd plain

no_file : (at : Path) (v : View) (z : Value) (s : Seen) → IsMadeOf z s → IsOwn at v s
no_file at v value.Absent s is = absurd is
no_file at v (value.Folder x) s is = λ k m b e q held. let no_ : Directory x ≡ SeenLeaf k m b = sym is ∙ e in cc
no_file at v (value.Link x target) s is = λ k m b e q held. let no_ : Symlink x target ≡ SeenLeaf k m b = sym is ∙ e in cc
no_file at v (value.File n) s is = absurd is

-- where a node is made: a name in a folder that is there
pub record IsPlace (at : Path) (d : Disk) : Type 0 where
  pub folder : Path
  pub name : Name
  pub is : at ≡ under folder name
  pub there : IsDirectory (shows d folder)

pub place_new : (at : Path) (d : Disk) → IsTree d → IsPlace at d → shows d at ≡ Vacant → no_new at d ≡ None
place_new at d tree place vacant =
    let gone : shows d (under place.folder place.name) ≡ Vacant = ap (shows d) (sym place.is) ∙ vacant in
    ap (λ q. no_new q d) place.is ∙ no_new-free d place.folder place.name tree (folder_shows d place.folder place.there) (vacant_absent d (under place.folder place.name) gone)

place_parents : (at : Path) (d : Disk) → IsPlace at d → (p : Path) → is_in p at ≡ true → IsDirectory (shows d p)
place_parents at d place p in_ =
    let above = under-is_in p at in_ in
    let same : place.folder ≡ p = under-folder place.folder p place.name above.0 (sym place.is ∙ above.1) in
    subst (λ q. IsDirectory (shows d q)) same place.there

-- the root of the map stands in the folder above it
pub root_place : (into : Path) (d : Disk) → IsTree d → HasHome into d → shows d into ≡ Vacant → IsPlace into d
root_place into d tree home vacant = by (root_or_under into)
  where
    by : (into ≡ []) ⊎ ((g : Path) × (y : Name) × (into ≡ under g y)) → IsPlace into d
    by (inl top) = absurd (not_both tree.root (ap is_folder (vacant_absent d [] (ap (shows d) (sym top) ∙ vacant))))
    by (inr w) = record { folder = w.0; name = w.1; is = w.2; there = home w.0 (subst (λ q. is_in w.0 q ≡ true) (sym w.2) (is_in-under w.0 w.1)) }

module _ (n : ℕ) (t : TreeCopying) (e : Path × NodeName) (v : View) (tree : IsTree v.now) (made : IsMade t) (ready : Ready n t v.now) (number : IsNumber t.tree n e) where
  absent : node_at (take n t.tree) e.0 ≡ None
  absent = none_before t.tree n e made.map.ascending number.0 number.1

  vacant : shows v.now (t.into ++ e.0) ≡ Vacant
  vacant = subst (Stands v.now t.into e.0) absent (ready.made e.0)

  found : node_at t.tree e.0 ≡ Some e.1
  found = found_at t.tree n e made.map.ascending number.0 number.1

  place : IsPlace (t.into ++ e.0) v.now
  place = by (root_or_under e.0)
    where
      by : (e.0 ≡ []) ⊎ ((f : Path) × (x : Name) × (e.0 ≡ under f x)) → IsPlace (t.into ++ e.0) v.now
      by (inl root) =
          let here : t.into ≡ t.into ++ e.0 = sym (ap (λ q. t.into ++ q) root ∙ append-nil t.into) in
          subst (λ q. IsPlace q v.now) here (root_place t.into v.now tree ready.home (ap (shows v.now) here ∙ vacant))
      by (inr w) =
          let has : node_at t.tree (under w.0 w.1) ≡ Some e.1 = ap (node_at t.tree) (sym w.2) ∙ found in
          let up = made.placed.shape.inner w.0 w.1 e.1 has in
          let before : node_at (take n t.tree) w.0 ≡ Some (Folder up.0) = folder_before t.tree n e w.0 w.1 (Folder up.0) made.map.ascending number.0 number.1 w.2 up.1 in
          let shown : shows v.now (t.into ++ w.0) ≡ Directory up.0 = subst (Stands v.now t.into w.0) before (ready.made w.0) in
          record {
            folder = t.into ++ w.0;
            name = w.1;
            is = ap (λ q. t.into ++ q) w.2 ∙ sym (append_assoc t.into w.0 (w.1 ∷ []));
            there = subst IsDirectory (sym shown) tt;
          }

  -- nothing stands there, so the objects stand elsewhere
  apart : (p : Path) (sum : List ℕ) → node_at t.tree p ≡ Some (Leaf sum) → leaf_path sum ≢ t.into ++ e.0
  apart p sum has same = subst IsSource (ap (shows v.now) same ∙ vacant) (ready.sources p sum has)

  -- ---- a folder or a link

  module _ (z : Value) (is : z ≡ value_of e.1 v.now) (plain : IsPlain z) where
    writes : Writes (At (t.into ++ e.0) (MayShow v z)) v (named (t.into ++ e.0) z v)
    writes = named-writes v (t.into ++ e.0) z

    is_at : IsAt (At (t.into ++ e.0) (MayShow v z)) (t.into ++ e.0) v
    is_at = record {
      place = λ p s a. a.0;
      folders = λ p s a. subst NotDirectory (sym (ap (shows v.now) a.0 ∙ vacant)) tt;
      own = λ p s a. no_file (t.into ++ e.0) v z s (plain_made v z s plain a.1);
    }

    written : Writes (Makes n t v) v (named (t.into ++ e.0) z v)
    written = weaker (At (t.into ++ e.0) (MayShow v z)) (Makes n t v) v (named (t.into ++ e.0) z v)
        (λ p s a. (e, number, a.0, ap (shows v.now) a.0 ∙ vacant, subst (λ y. IsMadeOf y s) is (plain_made v z s plain a.1))) (named-writes v (t.into ++ e.0) z)

    here : shows (named (t.into ++ e.0) z v).now (t.into ++ e.0) ≡ seen v.now z
    here = shows_named v (t.into ++ e.0) z

    link_stands : (sum : List ℕ) → node_at t.tree e.0 ≡ Some (Leaf sum) → (y : Value) → y ≡ v.now.at (leaf_path sum) → z ≡ y → IsPlain y → Stands (named (t.into ++ e.0) z v).now t.into e.0 (Some (Leaf sum))
    link_stands sum has value.Absent at same ok = absurd ok
    link_stands sum has (value.Folder m) at same ok =
        let shown : shows v.now (leaf_path sum) ≡ Directory m = ap (seen v.now) (sym at) in
        absurd (subst IsSource shown (ready.sources e.0 sum has))
    link_stands sum has (value.Link m target) at same ok =
        let shown : shows (named (t.into ++ e.0) z v).now (leaf_path sum) ≡ Symlink m target =
        off (At (t.into ++ e.0) (MayShow v z)) (t.into ++ e.0) v (named (t.into ++ e.0) z v) is_at writes (leaf_path sum) (apart e.0 sum has) ∙ ap (seen v.now) (sym at) in
        subst (IsCopyOf (named (t.into ++ e.0) z v).now (t.into ++ e.0)) (sym shown) (here ∙ ap (seen v.now) same)
    link_stands sum has (value.File k) at same ok = absurd ok

    stands : (node : NodeName) → e.1 ≡ node → Stands (named (t.into ++ e.0) z v).now t.into e.0 (Some node)
    stands (Folder m) same = here ∙ ap (seen v.now) (is ∙ ap (λ k. value_of k v.now) same)
    stands (Leaf sum) same =
        let at : z ≡ v.now.at (leaf_path sum) = is ∙ ap (λ k. value_of k v.now) same in
        link_stands sum (found ∙ ap Some same) z at refl plain

    make_after : Needs (reached n t) (named (t.into ++ e.0) z v)
    make_after = next_needs n t (named (t.into ++ e.0) z v)
        (home_kept (At (t.into ++ e.0) (MayShow v z)) (t.into ++ e.0) v (named (t.into ++ e.0) z v) is_at writes t.into ready.home)
        (sources_kept (At (t.into ++ e.0) (MayShow v z)) (t.into ++ e.0) v (named (t.into ++ e.0) z v) is_at writes t.tree apart ready.sources)
        (one_more (named (t.into ++ e.0) z v).now t.into t.tree n e number absent
        (others_kept (At (t.into ++ e.0) (MayShow v z)) (t.into ++ e.0) v (named (t.into ++ e.0) z v) is_at writes t.tree apart t.into n (λ p away. ready.made p))
        (stands e.1 refl))

    pub make_step : Step (Makes n t v) (Needs (reached n t)) v (no_new (t.into ++ e.0) v.now) (named (t.into ++ e.0) z v)
    make_step = record { free = place_new (t.into ++ e.0) v.now tree place vacant; writes = written; after = make_after }

  -- ---- a file

  pub copy_begins : (sum : List ℕ) → e.1 ≡ Leaf sum → (k : ℕ) → v.now.at (leaf_path sum) ≡ value.File k
      → Copies n (copy.begun (leaf_path sum) (t.into ++ e.0) (v.now.meta k)) (record t { phase = Copy n (copy.begun (leaf_path sum) (t.into ++ e.0) (v.now.meta k)) }) v
  copy_begins sum is k at =
      let shown : shows v.now (leaf_path sum) ≡ SeenLeaf k (v.now.meta k) (v.now.bytes k) = ap (seen v.now) at in
      record {
        leaf = record { path = e.0; sum = sum; listed = found ∙ ap Some is; from = refl; stage = refl };
        home = ready.home;
        others = λ p away. ready.made p;
        sources = ready.sources;
        apart = apart;
        source = (k, v.now.bytes k, shown);
        copy = copy_new (leaf_path sum) (t.into ++ e.0) (v.now.meta k) v (v.now.bytes k) (apart e.0 sum (found ∙ ap Some is))
            (reads_shows v.now (leaf_path sum) ∙ ap bytes_in shown) (place.folder, place.name, place.is) (subst NotDirectory (sym vacant) tt)
            (place_parents (t.into ++ e.0) v.now place);
      }

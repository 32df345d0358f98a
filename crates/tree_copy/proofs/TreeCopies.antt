-- What a step of the copy of a file writes and leaves.
use Rattle.std.proofs.Common.{◌≡◌, ◌≢◌, inl, ℕ, refl, sym, ◌∙◌, ap, subst, List, [], ◌++◌, take, Some, if◌then◌else◌}
use Rattle.ost_types.specs.declared.meta.Meta.{Meta}
use Rattle.ost_types.specs.declared.node.NodeName.TheVariants.{Leaf}
use Rattle.ost_types.specs.Path.{Path}
use Rattle.ost_types.specs.PathMap.{node_at}
use Rattle.fs_trait.specs.declared.types.Value.TheVariants.{File}
use Rattle.fs_trait.specs.View.{View}
use Rattle.fs_trait.specs.Image.{Holds}
use Rattle.fs_trait.specs.Seen.{Seen, Vacant, Leaf as SeenLeaf, shows, bytes_in}
use Rattle.fs_trait.specs.Change.{Writes, Meets}
use Rattle.fs_trait.proofs.Claims.{reads_shows}
use Rattle.fs_trait.proofs.Facts.{leaf_file, may_held}
use Rattle.staging.specs.declared.phase.Phase.{Phase}
use Rattle.staging.specs.declared.phase.Phase.TheVariants as staged
use Rattle.staging.specs.Steps as staging
use Rattle.file_copy.specs.Copying.{Copying, draft}
use Rattle.file_copy.specs.CopySteps as copying
use Rattle.file_copy.proofs.CopyLemmas.{at_stage}
use Rattle.file_copy.proofs.PutLemmas.{IsSameCopy}
use Rattle.file_copy.proofs.Stable.{copy_lies}
use Rattle.checkout.specs.CheckoutFolder.{leaf_path}
use Rattle.checkout.specs.CheckoutSteps.{HasHome}
use Rattle.checkout.proofs.CheckoutMaps.{none_before}
use Rattle.tree_copy.specs.declared.phase.TreePhase.TheVariants.{Copy}
use Rattle.tree_copy.specs.TreeFolder.{HasSources, IsAlone, IsCopyOf, Stands}
use Rattle.tree_copy.specs.TreeWork.{IsMade, IsPair, TreeCopying, copied, is_whole, reached}
use Rattle.tree_copy.specs.TreeSteps.{Copies, Needs}
use Rattle.tree_copy.proofs.TreeKept.{IsAt, home_kept, next_needs, off, one_more, others_kept, sources_kept}

-- ---- a file that is written is a new one, or the one at the staging path, which stands nowhere else

module _ (c : Copying) (v : View) (needs : copying.Needs c v) where
  held_in : (ph : Phase) → Meets (staging.firm_in ph (draft c needs.bytes) needs.staged.inode) (staging.here_in ph (draft c needs.bytes) needs.staged.inode) v
      → (p : Path) (s : Seen) → staging.writes_in ph (draft c []) v p s → (k : ℕ) (m : Meta) (b : List ℕ) → s ≡ SeenLeaf k m b → (q : Path) → Holds v q (File k) → q ≡ c.stage
  held_in staged.Clear meets p s a k m b e q held = let no_ : Vacant ≡ SeenLeaf k m b = sym a.1 ∙ e in cc
  held_in staged.Create meets p s a k m b e q held =
      let l : SeenLeaf a.1.0 c.meta a.1.1.0 ≡ SeenLeaf k m b = sym a.1.1.1 ∙ e in
      let same : k ≡ a.1.0 = cc in
      absurd (a.1.2 q (subst (λ i. Holds v q (File i)) same held))
  held_in staged.Append meets p s a k m b e q held =
      let l : SeenLeaf a.1.0 c.meta a.1.1.0 ≡ SeenLeaf k m b = sym a.1.1.1 ∙ e in
      let new : k ≡ a.1.0 = cc in
      let here = leaf_file v.now c.stage needs.staged.inode c.meta (take c.written needs.bytes) (meets.here c.stage refl) in
      let f : File a.1.0 ≡ File needs.staged.inode = sym a.1.2 ∙ here.0 in
      let old : a.1.0 ≡ needs.staged.inode = cc in
      meets.firm q (SeenLeaf needs.staged.inode (v.now.meta needs.staged.inode) (v.now.bytes needs.staged.inode))
      (may_held v q needs.staged.inode (subst (λ i. Holds v q (File i)) (new ∙ old) held)) (v.now.meta needs.staged.inode) (v.now.bytes needs.staged.inode) refl
  held_in staged.SyncFile meets p s a k m b e q held = absurd a
  held_in staged.Ended meets p s a k m b e q held = absurd a

  pub stage_held : (p : Path) (s : Seen) → copying.WritesOf c v p s → (k : ℕ) (m : Meta) (b : List ℕ) → s ≡ SeenLeaf k m b → (q : Path) → Holds v q (File k) → q ≡ c.stage
  stage_held = held_in c.phase needs.staged.meets

  pub stage_at : IsAt (copying.WritesOf c v) c.stage v
  stage_at = record {
    place = at_stage c v;
    folders = λ p s a. (copy_lies c v needs p s a).folders;
    own = λ p s a k m b e q is. stage_held p s a k m b e q (inl (sym is));
  }

-- ---- what stands at the staging path once all bytes are there

pub record HasWhole (c : Copying) (v : View) (bytes : List ℕ) : Type 0 where
  pub inode : ℕ
  pub here : shows v.now c.stage ≡ SeenLeaf inode c.meta bytes
  pub alone : IsAlone v.now inode c.stage

pub copy_whole : (c : Copying) (v : View) (needs : copying.Needs c v) → c.phase ≡ staged.SyncFile → HasWhole c v needs.bytes
copy_whole c v needs is =
    let n = needs.staged.inode in
    record {
      inode = n;
      here = subst (λ ph. staging.here_in ph (draft c needs.bytes) n c.stage (shows v.now c.stage)) is (needs.staged.meets.here c.stage) refl;
      alone = λ q at. subst (λ ph. staging.firm_in ph (draft c needs.bytes) n q (SeenLeaf n (v.now.meta n) (v.now.bytes n))) is
          (needs.staged.meets.firm q (SeenLeaf n (v.now.meta n) (v.now.bytes n)) (may_held v q n (inl (sym at)))) (v.now.meta n) (v.now.bytes n) refl;
    }

-- ---- a step

module _ (n : ℕ) (c : Copying) (t : TreeCopying) (v : View) (made : IsMade t) (pair : IsPair n c t.into t.tree) (needs : Copies n c t v)
    (d : Copying) (same : IsSameCopy c d) (w : View) (writes : Writes (copying.WritesOf c v) v w) (next : copying.Needs d w) where
  is_at : IsAt (copying.WritesOf c v) c.stage v
  is_at = stage_at c v needs.copy

  home : HasHome t.into w.now
  home = home_kept (copying.WritesOf c v) c.stage v w is_at writes t.into needs.home

  sources : HasSources w.now t.tree
  sources = sources_kept (copying.WritesOf c v) c.stage v w is_at writes t.tree needs.apart needs.sources

  others : (p : Path) → t.into ++ p ≢ c.stage → Stands w.now t.into p (node_at (take n t.tree) p)
  others = others_kept (copying.WritesOf c v) c.stage v w is_at writes t.tree needs.apart t.into n needs.others

  from_kept : shows w.now c.from ≡ SeenLeaf needs.source.0 c.meta needs.source.1
  from_kept = off (copying.WritesOf c v) c.stage v w is_at writes c.from needs.copy.apart ∙ needs.source.2

  source : shows w.now d.from ≡ SeenLeaf needs.source.0 d.meta needs.source.1
  source = ap (shows w.now) same.from ∙ from_kept ∙ ap (λ m. SeenLeaf needs.source.0 m needs.source.1) (sym same.meta)

  on : Copies n d (record t { phase = Copy n d }) w
  on = record {
    leaf = record { path = needs.leaf.path; sum = needs.leaf.sum; listed = needs.leaf.listed; from = same.from ∙ needs.leaf.from; stage = same.stage ∙ needs.leaf.stage };
    home = home;
    others = λ p away. others p (λ e. away (e ∙ sym same.stage));
    sources = sources;
    apart = λ p sum has e. needs.apart p sum has (e ∙ same.stage);
    source = (needs.source.0, needs.source.1, source);
    copy = next;
  }

  all_bytes : next.bytes ≡ needs.source.1
  all_bytes =
      let e : Some next.bytes ≡ Some needs.source.1 = sym next.source ∙ reads_shows w.now d.from ∙ ap bytes_in source in
      cc

  stands : d.phase ≡ staged.SyncFile → Stands w.now t.into pair.path (Some (Leaf pair.sum))
  stands is =
      let whole = copy_whole d w next is in
      let shown : shows w.now (leaf_path pair.sum) ≡ SeenLeaf needs.source.0 c.meta needs.source.1 = ap (shows w.now) (sym pair.source) ∙ from_kept in
      let here : shows w.now d.stage ≡ SeenLeaf whole.inode c.meta needs.source.1 =
      whole.here ∙ ap (λ m. SeenLeaf whole.inode m next.bytes) same.meta ∙ ap (SeenLeaf whole.inode c.meta) all_bytes in
      let copied_ : IsCopyOf w.now d.stage (SeenLeaf needs.source.0 c.meta needs.source.1) = (whole.inode, here, whole.alone) in
      subst (IsCopyOf w.now (t.into ++ pair.path)) (sym shown) (subst (λ q. IsCopyOf w.now q (SeenLeaf needs.source.0 c.meta needs.source.1)) (same.stage ∙ pair.target) copied_)

  ends : d.phase ≡ staged.SyncFile → Needs (reached n t) w
  ends is = next_needs n t w home sources
      (one_more w.now t.into t.tree n (pair.path, Leaf pair.sum) pair.number
      (none_before t.tree n (pair.path, Leaf pair.sum) made.map.ascending pair.number.0 pair.number.1)
      (λ p away. others p (λ e. away (e ∙ pair.target))) (stands is))

  by_phase : (ph : Phase) → d.phase ≡ ph → Needs (if is_whole ph then reached n t else record t { phase = Copy n d }) w
  by_phase staged.Clear is = on
  by_phase staged.Create is = on
  by_phase staged.Append is = on
  by_phase staged.SyncFile is = ends is
  by_phase staged.Ended is = on

  pub copied_needs : Needs (copied n d t) w
  copied_needs = by_phase d.phase refl

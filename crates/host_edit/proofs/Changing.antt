-- What each step writes and leaves.
use Rattle.std.proofs.Common.{◌≡◌, ◌≢◌, ◌⊎◌, inl, inr, ⊎_elim, ℕ, Bool, true, false, refl, sym, ◌∙◌, ap, subst, List, None}
use Rattle.std.proofs.lemmas.Bool.Decides.{Decides-eqb}
use Rattle.ost_types.specs.declared.meta.Meta.{Meta}
use Rattle.ost_types.specs.Path.{Name, Path, is_in, under}
use Rattle.ost_types.proofs.Paths.{is_in-self, is_in-under, under-not_root}
use Rattle.fs_trait.specs.declared.types.Value.{Value}
use Rattle.fs_trait.specs.declared.types.Value.TheVariants as value
use Rattle.fs_trait.specs.View.{Disk, View, folder_synced, moved, named}
use Rattle.fs_trait.specs.Image.{IsTree, is_folder}
use Rattle.fs_trait.specs.Effect.{HasNames, if_folder, no_folder, no_leaf, no_move, no_new, no_rmdir, one_inode, unless_leaf}
use Rattle.fs_trait.specs.Seen.{Seen, Vacant, Directory, Symlink, Leaf, seen, shows, MayBe, MayShow, IsDirectory}
use Rattle.fs_trait.specs.Change.{At, Fixed, Moves, Own, Writes}
use Rattle.fs_trait.proofs.Answering.{Step}
use Rattle.fs_trait.proofs.Claims.{folder_shows}
use Rattle.fs_trait.proofs.Effects.{folder_synced-firm, folder_synced-writes, moved-writes, named-writes, shows_moved, shows_named}
use Rattle.fs_trait.proofs.Facts.{leaf_file, may_held, no_folder_shown, no_new-free, shows_kept, vacant_absent}
use Rattle.fs_trait.proofs.Kept.{weaker}
use Rattle.fs_trait.proofs.Puts.{same_inode}
use Rattle.fs_trait.proofs.Refusals.{no_folder-there}
use Rattle.fs_trait.proofs.Ways.{way-folder, way-there}
use Rattle.staging.specs.declared.phase.Phase.TheVariants as stage
use Rattle.staging.specs.Draft.{Draft}
use Rattle.staging.specs.Steps as staging
use Rattle.staging.proofs.StepLemmas.{meta_shown}
use Rattle.host_edit.specs.declared.change.Change.{Change}
use Rattle.host_edit.specs.declared.change.Change.TheVariants as change
use Rattle.host_edit.specs.declared.phase.Phase.{Phase}
use Rattle.host_edit.specs.declared.phase.Phase.TheVariants as phase
use Rattle.host_edit.specs.Editing.{Editing, IsMade, IsMadeChange, fits, in_phase}
use Rattle.host_edit.specs.Steps.{IsShown, IsStaged, IsStagedLeaf, IsSureFile, Needs, ShowsNew, WritesOf, needs_in, writes_in}
use Rattle.host_edit.specs.There.{HasParent, IsLeaf}
use Rattle.host_edit.proofs.Places.{not_both, not_true, stage_not_above, stage_not_at}

-- ---- what a path has that shows this

link_value : (d : Disk) (z : Value) (m : Meta) (t : List ℕ) → seen d z ≡ Symlink m t → z ≡ value.Link m t
link_value d value.Absent m t e = let n : Vacant ≡ Symlink m t = e in cc
link_value d (value.Folder k) m t e = let n : Directory k ≡ Symlink m t = e in cc
link_value d (value.File k) m t e = let n : Leaf k (d.meta k) (d.bytes k) ≡ Symlink m t = e in cc
link_value d (value.Link k l) m t e =
    let n : Symlink k l ≡ Symlink m t = e in
    let i : k ≡ m = cc in
    let j : l ≡ t = cc in
    ap (λ x. value.Link x l) i ∙ ap (value.Link m) j

folder_value : (d : Disk) (z : Value) (m : Meta) → seen d z ≡ Directory m → z ≡ value.Folder m
folder_value d value.Absent m e = let n : Vacant ≡ Directory m = e in cc
folder_value d (value.Link k l) m e = let n : Symlink k l ≡ Directory m = e in cc
folder_value d (value.File k) m e = let n : Leaf k (d.meta k) (d.bytes k) ≡ Directory m = e in cc
folder_value d (value.Folder k) m e =
    let n : Directory k ≡ Directory m = e in
    let i : k ≡ m = cc in
    ap value.Folder i

leaf_value : (d : Disk) (z : Value) → IsLeaf (seen d z) → (unless_leaf z ≡ None) × (z ≢ value.Absent)
leaf_value d value.Absent is = absurd is
leaf_value d (value.Folder m) is = absurd is
leaf_value d (value.Link m t) is = (refl, λ e. let n : value.Link m t ≡ value.Absent = e in cc)
leaf_value d (value.File n) is = (refl, λ e. let m : value.File n ≡ value.Absent = e in cc)

same_leaf : (n : ℕ) (m : Meta) (b : List ℕ) (k : ℕ) (l : Meta) (c : List ℕ) → Leaf n m b ≡ Leaf k l c → (m ≡ l) × (b ≡ c)
same_leaf n m b k l c e =
    let i : m ≡ l = cc in
    let j : b ≡ c = cc in
    (i, j)

-- ---- which calls aren't refused

no_leaf-free : (d : Disk) (p : Path) → IsTree d → d.at p ≢ value.Absent → unless_leaf (d.at p) ≡ None → no_leaf p d ≡ None
unfolding no_leaf
no_leaf-free d p tree there leaf = rw (way-there d tree p there) leaf

no_move-free : (d : Disk) (from f : Path) (x : Name) → IsTree d → d.at from ≢ value.Absent → unless_leaf (d.at from) ≡ None → is_folder (d.at f) ≡ true → is_folder (d.at (under f x)) ≡ false → no_move from (under f x) d ≡ None
unfolding no_move
no_move-free d from f x tree there leaf folder no_ = rw (no_leaf-free d from tree there leaf, way-folder d tree f x folder) (by (d.at (under f x)) no_)
  where
    by : (z : Value) → is_folder z ≡ false → if_folder z ≡ None
    by value.Absent e = refl
    by (value.Link m l) e = refl
    by (value.File n) e = refl
    by (value.Folder m) e = let n : true ≡ false = e in cc

no_rmdir-free : (d : Disk) (p : Path) → IsTree d → is_folder (d.at p) ≡ true → no_rmdir false p d ≡ None
unfolding no_rmdir
no_rmdir-free d p tree folder = rw (no_folder-there d tree p folder) refl

-- ---- folders of a path that isn't written

pub parent_kept : (at : Path) (W : Path → Seen → Type 0) (v w : View) → Writes W v w → ((p : Path) (s : Seen) → W p s → is_in p at ≡ true → ⊥) → HasParent v.now at → HasParent w.now at
parent_kept at W v w writes apart was f in_ = subst IsDirectory (sym (shows_kept W v w f writes (λ s a. apart f s a in_))) (was f in_)

pub not_in_itself : (at p : Path) → p ≡ at → is_in p at ≡ true → ⊥
not_in_itself at p e in_ = not_both (subst (λ q. is_in q at ≡ true) e in_) (is_in-self at)

parent_folder : (d : Disk) (at f : Path) (x : Name) → at ≡ under f x → HasParent d at → is_folder (d.at f) ≡ true
parent_folder d at f x is has = folder_shows d f (has f (subst (λ q. is_in f q ≡ true) (sym is) (is_in-under f x)))

-- ---- a file that is staged, and one that is shown

module _ (d : Draft) (v : View) (needs : staging.Needs d v) (ended : d.phase ≡ stage.Ended) where
  file_firm : (p : Path) (s : Seen) → MayBe v p s → Own needs.inode d.stage p s × Fixed d.stage needs.inode d.bytes p s
  file_firm p s may = subst (λ ph. staging.firm_in ph d needs.inode p s) ended (needs.meets.firm p s may)

  pub file_here : shows v.now d.stage ≡ Leaf needs.inode d.meta d.bytes
  file_here = subst (λ ph. staging.here_in ph d needs.inode d.stage (shows v.now d.stage)) ended (needs.meets.here d.stage) refl

  file_at : v.now.at d.stage ≡ value.File needs.inode
  file_at = (leaf_file v.now d.stage needs.inode d.meta d.bytes file_here).0

  file_whole : (s : Seen) → MayShow v (v.now.at d.stage) s → staging.IsWhole d v s
  file_whole s shown =
      let n = needs.inode in
      let a : MayShow v (value.File n) s = subst (λ z. MayShow v z s) file_at shown in
      let fixed = (file_firm d.stage s (record { value = v.now.at d.stage; held = inl refl; shown = shown })).1 (v.now.meta n) a.0 refl a.1 in
      (n, a.1 ∙ ap (λ m. Leaf n m a.0) (meta_shown v.now d.stage n d.meta d.bytes file_here) ∙ ap (Leaf n d.meta) fixed, file_at)

  file_apart : (at : Path) → d.stage ≢ at → one_inode (v.now.at d.stage) (v.now.at at) ≡ false
  file_apart at apart = subst (λ z. one_inode z (v.now.at at) ≡ false) (sym file_at) (by (v.now.at at) refl)
    where
      differs : (k : ℕ) → v.now.at at ≡ value.File k → (needs.inode ≡ k) ⊎ (needs.inode ≢ k) → one_inode (value.File needs.inode) (value.File k) ≡ false
      differs k is (inl e) = absurd (apart (sym ((file_firm at _ (may_held v at needs.inode (inl (sym (is ∙ ap value.File (sym e)))))).0 (v.now.meta needs.inode) (v.now.bytes needs.inode) refl)))
      differs k is (inr other) = not_true _ (λ same. other ((Decides-eqb needs.inode k).0 same))

      by : (z : Value) → v.now.at at ≡ z → one_inode (value.File needs.inode) z ≡ false
      by value.Absent is = refl
      by (value.Folder m) is = refl
      by (value.Link m l) is = refl
      by (value.File k) is = differs k is (same_inode needs.inode k)

sure_shows : (d : Draft) (at : Path) (v : View) → IsSureFile d at v → (s : Seen) → MayShow v (v.now.at at) s → (n : ℕ) × (s ≡ Leaf n d.meta d.bytes)
sure_shows d at v file s shown =
    let n = file.inode in
    let is = (leaf_file v.now at n d.meta d.bytes file.here).0 in
    let a : MayShow v (value.File n) s = subst (λ z. MayShow v z s) is shown in
    let b = file.sure (v.now.meta n) a.0 (record { value = v.now.at at; held = inl refl; shown = subst (λ x. MayShow v (v.now.at at) x) a.1 shown }) in
    (n, a.1 ∙ ap (λ m. Leaf n m a.0) b.0 ∙ ap (Leaf n d.meta) b.1)

-- what stands at the path may show no more than what the edit says
pub shown_sure : (c : Change) (at : Path) (v : View) → IsShown c at v → (s : Seen) → MayShow v (v.now.at at) s → ShowsNew c s
shown_sure (change.File d) at v is s shown = sure_shows d at v is s shown
shown_sure (change.Link m t) at v is s shown = subst (λ z. MayShow v z s) (link_value v.now (v.now.at at) m t is) shown
shown_sure (change.Folder m) at v is s shown = subst (λ z. MayShow v z s) (folder_value v.now (v.now.at at) m is) shown
shown_sure change.Nothing at v is s shown = subst (λ z. MayShow v z s) (vacant_absent v.now at is) shown

-- ---- what is staged is renamed to the path

module _ (stage_path at : Path) (v : View) (apart : stage_path ≢ at) where
  -- what it is, by what the edit puts there
  pub record CanMove (c : Change) : Type 0 where
    pub leaf : (unless_leaf (v.now.at stage_path) ≡ None) × (v.now.at stage_path ≢ value.Absent)
    pub two_inodes : one_inode (v.now.at stage_path) (v.now.at at) ≡ false
    pub whole : (s : Seen) → MayShow v (v.now.at stage_path) s → IsStagedLeaf c v s
    pub shown : Writes (Moves stage_path at (IsStagedLeaf c v)) v (moved stage_path at v) → IsShown c at (moved stage_path at v)

  moves : (c : Change) → ((s : Seen) → MayShow v (v.now.at stage_path) s → IsStagedLeaf c v s) → Writes (Moves stage_path at (IsStagedLeaf c v)) v (moved stage_path at v)
  moves c whole = weaker _ _ v (moved stage_path at v) (λ p s a. ⊎_elim (λ b. inl (b.0, whole s b.1)) (λ b. inr b) a) (moved-writes v stage_path at)

  ready_link : (m : Meta) (t : List ℕ) → shows v.now stage_path ≡ Symlink m t → CanMove (change.Link m t)
  ready_link m t is =
      let z = link_value v.now (v.now.at stage_path) m t is in
      record {
        leaf = subst (λ y. (unless_leaf y ≡ None) × (y ≢ value.Absent)) (sym z) (refl, λ e. let n : value.Link m t ≡ value.Absent = e in cc);
        two_inodes = subst (λ y. one_inode y (v.now.at at) ≡ false) (sym z) refl;
        whole = λ s shown. subst (λ y. MayShow v y s) z shown;
        shown = λ w. shows_moved v stage_path at apart ∙ is;
      }

  ready_file : (d : Draft) → d.stage ≡ stage_path → staging.Needs d v → d.phase ≡ stage.Ended → CanMove (change.File d)
  ready_file d e needs ended =
      let here = subst (λ q. shows v.now q ≡ Leaf needs.inode d.meta d.bytes) e (file_here d v needs ended) in
      let is = subst (λ q. v.now.at q ≡ value.File needs.inode) e (file_at d v needs ended) in
      record {
        leaf = subst (λ y. (unless_leaf y ≡ None) × (y ≢ value.Absent)) (sym is) (refl, λ e. let n : value.File needs.inode ≡ value.Absent = e in cc);
        two_inodes = subst (λ q. one_inode (v.now.at q) (v.now.at at) ≡ false) e (file_apart d v needs ended at (λ same. apart (sym e ∙ same)));
        whole = λ s shown. file_whole d v needs ended s (subst (λ q. MayShow v (v.now.at q) s) (sym e) shown);
        shown = λ w. record {
          inode = needs.inode;
          here = shows_moved v stage_path at apart ∙ here;
          sure = λ m b may. ⊎_elim
              (λ old. absurd (apart (sym (((file_firm d v needs ended at (Leaf needs.inode m b) old).0 m b refl) ∙ e))))
              (λ wrote. ⊎_elim (λ a. same_leaf needs.inode m b a.1.0 d.meta d.bytes a.1.1) (λ a. let c : Leaf needs.inode m b ≡ Vacant = a.1 in cc) wrote)
              (w.only at (Leaf needs.inode m b) may);
        };
      }

module _ (t : Editing) (v : View) (tree : IsTree v.now) (needs : Needs t v) where
  pub meets_in : (ph : Phase) → t.phase ≡ ph → needs_in ph t v
  meets_in ph is = subst (λ f. needs_in f t v) is needs.meets

  pub fits_in : (ph : Phase) → t.phase ≡ ph → fits ph t.change
  fits_in ph is = subst (λ f. fits f t.change) is needs.made.fits

  pub made_in : (ph : Phase) → fits ph t.change → IsMade (in_phase ph t)
  made_in ph fit = record { apart = needs.made.apart; change = needs.made.change; fits = fit }

  pub stage_needs : (d : Draft) → t.change ≡ change.File d → t.phase ≡ phase.Stage → staging.Needs d v
  stage_needs d e is = subst (λ c. IsStaged c t.stage v) e (meets_in phase.Stage is)

  pub apart : t.stage ≢ t.at
  apart = stage_not_at t.stage t.at needs.made.apart

  pub ready : t.phase ≡ phase.Replace → CanMove t.stage t.at v apart t.change
  ready is = by t.change refl needs.made.change (fits_in phase.Replace is) (meets_in phase.Replace is).0
    where
      by : (c : Change) → t.change ≡ c → IsMadeChange t.stage c → fits phase.Replace c → IsStaged c t.stage v → CanMove t.stage t.at v apart c
      by (change.File d) e made fit staged = ready_file t.stage t.at v apart d made staged fit
      by (change.Link m l) e made fit staged = ready_link t.stage t.at v apart m l staged
      by (change.Folder m) e made fit staged = absurd fit
      by change.Nothing e made fit staged = absurd fit

  pub replace : t.phase ≡ phase.Replace → Step (WritesOf t v) (Needs (in_phase phase.Sync t)) v (no_move t.stage t.at v.now) (moved t.stage t.at v)
  replace is =
      let w = moved t.stage t.at v in
      let now = meets_in phase.Replace is in
      let r = ready is in
      let inside = needs.made.apart.inside in
      let writes : Writes (writes_in phase.Replace t v) v w = moves t.stage t.at v apart t.change r.whole in
      record {
        free = subst (λ q. is_folder (v.now.at q) ≡ false → no_move t.stage q v.now ≡ None) (sym inside.2)
            (no_move-free v.now t.stage inside.0 inside.1 tree r.leaf.1 r.leaf.0 (parent_folder v.now t.at inside.0 inside.1 inside.2 now.2))
            (no_folder_shown v.now t.at now.1);
        writes = subst (λ ph. Writes (writes_in ph t v) v w) (sym is) writes;
        after = record {
          made = made_in phase.Sync tt;
          meets = (
            r.shown writes,
            parent_kept t.at (writes_in phase.Replace t v) v w writes (λ p s a in_. ⊎_elim (λ b. not_in_itself t.at p b.0 in_) (λ b. stage_not_above t.stage t.at needs.made.apart p b.0 in_) a) now.2,
          );
        };
      }

  -- another value at the path
  module _ (ph : Phase) (is : t.phase ≡ ph) (z : Value) (new : (s : Seen) → MayShow v z s → ShowsNew t.change s) (like : (p : Path) (s : Seen) → (p ≡ t.at) × ShowsNew t.change s → writes_in ph t v p s) where
    at_path : Writes (At t.at (ShowsNew t.change)) v (named t.at z v)
    at_path = weaker _ _ v (named t.at z v) (λ p s a. (a.0, new s a.1)) (named-writes v t.at z)

    put_writes : Writes (WritesOf t v) v (named t.at z v)
    put_writes = subst (λ f. Writes (writes_in f t v) v (named t.at z v)) (sym is) (weaker _ _ v (named t.at z v) like at_path)

    put_after : HasParent v.now t.at → IsShown t.change t.at (named t.at z v) → Needs (in_phase phase.Sync t) (named t.at z v)
    put_after parent shown = record {
      made = made_in phase.Sync tt;
      meets = (shown, parent_kept t.at (At t.at (ShowsNew t.change)) v (named t.at z v) at_path (λ p s a in_. not_in_itself t.at p a.0 in_) parent);
    }

  pub make_folder : (m : Meta) → t.change ≡ change.Folder m → t.phase ≡ phase.MakeFolder → Step (WritesOf t v) (Needs (in_phase phase.Sync t)) v (no_new t.at v.now) (named t.at (value.Folder m) v)
  make_folder m e is =
      let z = value.Folder m in
      let now = meets_in phase.MakeFolder is in
      let inside = needs.made.apart.inside in
      let new : (s : Seen) → s ≡ Directory m → ShowsNew t.change s = λ s a. subst (λ c. ShowsNew c s) (sym e) a in
      record {
        free = subst (λ q. v.now.at q ≡ value.Absent → no_new q v.now ≡ None) (sym inside.2) (no_new-free v.now inside.0 inside.1 tree (parent_folder v.now t.at inside.0 inside.1 inside.2 now.1)) (vacant_absent v.now t.at now.0);
        writes = put_writes phase.MakeFolder is z new (λ p s a. a);
        after = put_after phase.MakeFolder is z new (λ p s a. a) now.1 (subst (λ c. IsShown c t.at (named t.at z v)) (sym e) (shows_named v t.at z));
      }

  unlinks : (c : Change) → fits phase.Unlink c → c ≡ change.Nothing
  unlinks (change.File d) fit = absurd fit
  unlinks (change.Link m l) fit = absurd fit
  unlinks (change.Folder m) fit = absurd fit
  unlinks change.Nothing fit = refl

  rmdirs : (c : Change) → fits phase.RemoveFolder c → c ≡ change.Nothing
  rmdirs (change.File d) fit = absurd fit
  rmdirs (change.Link m l) fit = absurd fit
  rmdirs (change.Folder m) fit = absurd fit
  rmdirs change.Nothing fit = refl

  pub unlink : t.phase ≡ phase.Unlink → Step (WritesOf t v) (Needs (in_phase phase.Sync t)) v (no_leaf t.at v.now) (named t.at value.Absent v)
  unlink is =
      let now = meets_in phase.Unlink is in
      let e = unlinks t.change (fits_in phase.Unlink is) in
      let new : (s : Seen) → s ≡ Vacant → ShowsNew t.change s = λ s a. subst (λ c. ShowsNew c s) (sym e) a in
      let leaf = leaf_value v.now (v.now.at t.at) now.0 in
      record {
        free = no_leaf-free v.now t.at tree leaf.1 leaf.0;
        writes = put_writes phase.Unlink is value.Absent new (λ p s a. a);
        after = put_after phase.Unlink is value.Absent new (λ p s a. a) now.1 (subst (λ c. IsShown c t.at (named t.at value.Absent v)) (sym e) (shows_named v t.at value.Absent));
      }

  pub none_named : t.phase ≡ phase.RemoveFolder → HasNames true t.at v.now → ⊥
  none_named is names =
      let now = meets_in phase.RemoveFolder is in
      ⊎_elim (λ root. under-not_root needs.made.apart.inside.0 needs.made.apart.inside.1 (sym needs.made.apart.inside.2 ∙ root)) (λ some. some.1 (vacant_absent v.now (under t.at some.0) (now.0.1 some.0))) names

  remove_empty : t.phase ≡ phase.RemoveFolder → Step (WritesOf t v) (Needs (in_phase phase.Sync t)) v (no_rmdir false t.at v.now) (named t.at value.Absent v)
  remove_empty is =
      let now = meets_in phase.RemoveFolder is in
      let e = rmdirs t.change (fits_in phase.RemoveFolder is) in
      let new : (s : Seen) → s ≡ Vacant → ShowsNew t.change s = λ s a. subst (λ c. ShowsNew c s) (sym e) a in
      record {
        free = no_rmdir-free v.now t.at tree (folder_shows v.now t.at now.0.0);
        writes = put_writes phase.RemoveFolder is value.Absent new (λ p s a. a);
        after = put_after phase.RemoveFolder is value.Absent new (λ p s a. a) now.1 (subst (λ c. IsShown c t.at (named t.at value.Absent v)) (sym e) (shows_named v t.at value.Absent));
      }

  pub remove_folder : t.phase ≡ phase.RemoveFolder → (b : Bool) → HasNames b t.at v.now → Step (WritesOf t v) (Needs (in_phase phase.Sync t)) v (no_rmdir b t.at v.now) (named t.at value.Absent v)
  remove_folder is true names = absurd (none_named is names)
  remove_folder is false names = remove_empty is

  -- the sync
  pub sync : (f : Path) → ((x : Name) × (t.at ≡ under f x)) → t.phase ≡ phase.Sync → Step (WritesOf t v) (Needs (in_phase phase.Ended t)) v (no_folder f v.now) (folder_synced f v)
  sync f inside is =
      let w = folder_synced f v in
      let now = meets_in phase.Sync is in
      record {
        free = no_folder-there v.now tree f (parent_folder v.now t.at f inside.0 inside.1 now.1);
        writes = subst (λ ph. Writes (writes_in ph t v) v w) (sym is) (folder_synced-writes v f);
        after = record {
          made = made_in phase.Ended tt;
          meets = λ s may. shown_sure t.change t.at v now.0 s
              (subst (λ q. MayBe w q s → MayShow v (v.now.at q) s) (sym inside.1) (folder_synced-firm v f inside.0 s) may);
        };
      }

  -- what an earlier task left at the staging path
  at_stage : (W : Path → Seen → Type 0) (w : View) → Writes W v w → ((p : Path) (s : Seen) → W p s → p ≡ t.stage) → HasParent v.now t.stage → HasParent w.now t.stage
  at_stage W w writes lies = parent_kept t.stage W v w writes (λ p s a in_. not_in_itself t.stage p (lies p s a) in_)

  links : (c : Change) → fits phase.Clear c → fits phase.Link c
  links (change.File d) fit = absurd fit
  links (change.Link m l) fit = tt
  links (change.Folder m) fit = absurd fit
  links change.Nothing fit = absurd fit

  pub clear_vacant : t.phase ≡ phase.Clear → v.now.at t.stage ≡ value.Absent → Needs (in_phase phase.Link t) v
  clear_vacant is none = record { made = made_in phase.Link (links t.change (fits_in phase.Clear is)); meets = (ap (seen v.now) none, (meets_in phase.Clear is).1) }

  pub clear : t.phase ≡ phase.Clear → v.now.at t.stage ≢ value.Absent → Step (WritesOf t v) (Needs (in_phase phase.Link t)) v (no_leaf t.stage v.now) (named t.stage value.Absent v)
  clear is there =
      let w = named t.stage value.Absent v in
      let now = meets_in phase.Clear is in
      let writes : Writes (writes_in phase.Clear t v) v w = named-writes v t.stage value.Absent in
      record {
        free = no_leaf-free v.now t.stage tree there (by (v.now.at t.stage) there (no_folder_shown v.now t.stage now.0));
        writes = subst (λ ph. Writes (writes_in ph t v) v w) (sym is) writes;
        after = record {
          made = made_in phase.Link (links t.change (fits_in phase.Clear is));
          meets = (shows_named v t.stage value.Absent, at_stage (writes_in phase.Clear t v) w writes (λ p s a. a.0) now.1);
        };
      }
    where
      by : (z : Value) → z ≢ value.Absent → is_folder z ≡ false → unless_leaf z ≡ None
      by value.Absent there no_ = absurd (there refl)
      by (value.Folder m) there no_ = let n : true ≡ false = no_ in cc
      by (value.Link m l) there no_ = refl
      by (value.File n) there no_ = refl

  -- the link at the staging path
  pub link : (m : Meta) (l : List ℕ) → t.change ≡ change.Link m l → t.phase ≡ phase.Link → Step (WritesOf t v) (Needs (in_phase phase.Look t)) v (no_new t.stage v.now) (named t.stage (value.Link m l) v)
  link m l e is =
      let w = named t.stage (value.Link m l) v in
      let now = meets_in phase.Link is in
      let g = needs.made.apart.staging in
      let writes : Writes (writes_in phase.Link t v) v w =
      weaker _ (writes_in phase.Link t v) v w (λ p s a. (a.0, subst (λ c. ShowsNew c s) (sym e) a.1)) (named-writes v t.stage (value.Link m l)) in
      record {
        free = subst (λ q. v.now.at q ≡ value.Absent → no_new q v.now ≡ None) (sym g.2) (no_new-free v.now g.0 g.1 tree (parent_folder v.now t.stage g.0 g.1 g.2 now.1)) (vacant_absent v.now t.stage now.0);
        writes = subst (λ ph. Writes (writes_in ph t v) v w) (sym is) writes;
        after = record {
          made = made_in phase.Look (subst (fits phase.Look) (sym e) tt);
          meets = subst (λ c. IsStaged c t.stage w) (sym e) (shows_named v t.stage (value.Link m l));
        };
      }

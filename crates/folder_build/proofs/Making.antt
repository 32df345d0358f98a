-- What a step that makes a node writes and leaves.
use Rattle.std.proofs.Common.{◌≡◌, ◌≢◌, ◌⊎◌, inl, inr, ⊎_elim, ℕ, ◌+◌, Bool, true, false, refl, sym, ◌∙◌, ap, subst, List, [], ◌∷◌, ◌++◌, length, take, get_or, Option, Some, None, Result, Err, if◌then◌else◌, ltb-true, ltb-false}
use Rattle.std.specs.Prelude.{nat_lt}
use Rattle.std.proofs.lemmas.List.{take_all, take_more, get_or_default}
use Rattle.ost_types.specs.Path.{Name, Path, under, is_in, is_below}
use Rattle.ost_types.proofs.Paths.{root_or_under, same_or_apart, is_in-under, under-is_in, under-is_below}
use Rattle.fs_trait.specs.declared.types.Value.{Value}
use Rattle.fs_trait.specs.declared.types.Value.TheVariants as value
use Rattle.fs_trait.specs.declared.types.FsErr.{FsErr}
use Rattle.fs_trait.specs.declared.types.FsErr.TheVariants.{Failed, NoMemory}
use Rattle.fs_trait.specs.View.{Disk, View, named, created, extended}
use Rattle.ost_types.specs.declared.meta.Meta.{Meta}
use Rattle.fs_trait.specs.Image.{Holds, is_folder, IsTree, Told}
use Rattle.std.specs.Prelude.{IsErrOf}
use Rattle.fs_trait.specs.Effect.{Fails, IsFresh, inode_of, no_file, no_new}
use Rattle.fs_trait.specs.Seen.{Seen, Vacant, Directory, Symlink, Leaf, seen, shows, MayShow, MayBe, IsDirectory}
use Rattle.fs_trait.specs.Change.{Writes, At, OfInode}
use Rattle.fs_trait.proofs.Kept.{weaker}
use Rattle.fs_trait.proofs.Effects.{named-writes, created-writes, extended-writes_own, shows_named, shows_named_apart, shows_created, shows_extended, leaf_held}
use Rattle.fs_trait.proofs.Claims.{folder_shows}
use Rattle.fs_trait.proofs.Facts.{vacant_absent, no_new-free, shows_kept, leaf_file, may_held, under-not_below}
use Rattle.fs_trait.proofs.Refusals.{no_file-there}
use Rattle.fs_trait.proofs.Answering.{Step}
use Rattle.checkout.proofs.RemoveBelow.{not_true}
use Rattle.folder_build.specs.declared.node.Content.TheVariants.{Folder, File, Link}
use Rattle.folder_build.specs.declared.node.NewNode.{NewNode}
use Rattle.folder_build.specs.declared.phase.Phase.{Phase}
use Rattle.folder_build.specs.declared.phase.Phase.TheVariants as phase
use Rattle.folder_build.specs.Node.{IsBuilt, IsContent, content_at, file_meta, folder_meta, link_meta}
use Rattle.folder_build.specs.Build.{Building, IsMade, IsNumber, IsWithin, MayFollow, reached}
use Rattle.folder_build.specs.Steps.{HasHome, IsBegun, IsOpen, Needs, WritesOf, needs_in, refuses_in, writes_in}
use Rattle.folder_build.proofs.Nodes.{push_here, push_apart, push_found}

pub as_is : (t u : Building) → t ≡ u → (v : View) (After : View → Type 0) (refusal : Option FsErr) (w : View) → Step (WritesOf t v) After v refusal w → Step (WritesOf u v) After v refusal w
as_is t u same v After refusal w step = subst (λ a. Step (WritesOf a v) After v refusal w) same step

pub failed : (ph : Phase) (v : View) → refuses_in ph v Failed
failed (phase.Clear c) v = tt
failed (phase.Make n) v = tt
failed (phase.Write n) v = tt
failed phase.Ended v = tt

pub no_memory : (ph : Phase) (v : View) → refuses_in ph v NoMemory
no_memory (phase.Clear c) v = tt
no_memory (phase.Make n) v = tt
no_memory (phase.Write n) v = tt
no_memory phase.Ended v = tt

-- a path of the folder isn't one above it
pub off_home : (top p q : Path) → is_below top p ≡ true → is_in q top ≡ true → q ≡ p → ⊥
off_home top p q below in_ same =
    let x = under-is_in q top in_ in
    let b : is_below (under q x.0) q ≡ true = subst (λ r. is_below r q ≡ true) x.1 (subst (λ r. is_below top r ≡ true) (sym same) below) in
    not_true (is_below (under q x.0) q) (under-not_below q x.0) b

pub home_kept : (top : Path) (W : Path → Seen → Type 0) (v w : View) → Writes W v w → ((p : Path) (s : Seen) → W p s → is_below top p ≡ true) → HasHome top v.now → HasHome top w.now
home_kept top W v w writes where_ home p in_ =
    subst IsDirectory (sym (shows_kept W v w p writes (λ s a. off_home top p p (where_ p s a) in_ refl))) (home p in_)

-- the task once that node is whole
module _ (n : ℕ) (t : Building) (made : IsMade t) (w : View) (home : HasHome t.top w.now) (built : IsBuilt w.now t.top (take (n + 1) t.nodes)) where
  reached_by : (b : Bool) → nat_lt (n + 1) (length t.nodes) ≡ b → Needs (record t { phase = if b then phase.Make (n + 1) else phase.Ended }) w
  reached_by true is = record { made = record { plan = made.plan; within = ltb-true (n + 1) (length t.nodes) is }; home = home; meets = built }
  reached_by false is = record {
    made = record { plan = made.plan; within = tt };
    home = home;
    meets = subst (IsBuilt w.now t.top) (take_all (n + 1) t.nodes (ltb-false (n + 1) (length t.nodes) is)) built;
  }

  pub needs_reached : Needs (reached n t) w
  needs_reached = reached_by (nat_lt (n + 1) (length t.nodes)) refl

-- ---- the node of a number

pub same_node : (nodes : List NewNode) (n : ℕ) (a b : NewNode) → IsNumber nodes n a → IsNumber nodes n b → a ≡ b
same_node nodes n a b one two = sym one.1 ∙ get_or_default nodes n a b one.0 ∙ two.1

module _ (n : ℕ) (t : Building) (e : NewNode) (made : IsMade t) (number : IsNumber t.nodes n e) where
  follows : MayFollow t.top (take n t.nodes) e
  follows = made.plan.each n e number

  more : take (n + 1) t.nodes ≡ take n t.nodes ++ e ∷ []
  more = take_more t.nodes n e number.0 ∙ ap (λ y. take n t.nodes ++ y ∷ []) number.1

  -- with this node the folder has one more
  grown : (d : Disk) → content_at (take n t.nodes) e.at ≡ None → IsContent (Some e.what) (shows d e.at)
      → ((p : Path) → is_below t.top p ≡ true → p ≢ e.at → IsContent (content_at (take n t.nodes) p) (shows d p)) → IsBuilt d t.top (take (n + 1) t.nodes)
  grown d none here others p below = by (same_or_apart e.at p)
    where
      by : (e.at ≡ p) ⊎ (e.at ≢ p) → IsContent (content_at (take (n + 1) t.nodes) p) (shows d p)
      by (inl same) =
          let c : content_at (take (n + 1) t.nodes) e.at ≡ Some e.what = ap (λ m. content_at m e.at) more ∙ push_here (take n t.nodes) e none in
          subst (λ q. IsContent (content_at (take (n + 1) t.nodes) q) (shows d q)) same (subst (λ x. IsContent x (shows d e.at)) (sym c) here)
      by (inr apart) =
          let c : content_at (take (n + 1) t.nodes) p ≡ content_at (take n t.nodes) p = ap (λ m. content_at m p) more ∙ push_apart (take n t.nodes) e p apart in
          subst (λ x. IsContent x (shows d p)) (sym c) (others p below (λ s. apart (sym s)))

  -- a folder that is there already
  same_grown : (d : Disk) → e.what ≡ Folder → content_at (take n t.nodes) e.at ≡ Some Folder → IsBuilt d t.top (take n t.nodes) → IsBuilt d t.top (take (n + 1) t.nodes)
  same_grown d is has built p below = by (same_or_apart e.at p)
    where
      by : (e.at ≡ p) ⊎ (e.at ≢ p) → IsContent (content_at (take (n + 1) t.nodes) p) (shows d p)
      by (inl same) =
          let h : content_at (take n t.nodes) p ≡ Some Folder = subst (λ q. content_at (take n t.nodes) q ≡ Some Folder) same has in
          let c : content_at (take (n + 1) t.nodes) p ≡ Some Folder = ap (λ m. content_at m p) more ∙ push_found (take n t.nodes) e p Folder h in
          subst (λ x. IsContent x (shows d p)) (h ∙ sym c) (built p below)
      by (inr apart) =
          let c : content_at (take (n + 1) t.nodes) p ≡ content_at (take n t.nodes) p = ap (λ m. content_at m p) more ∙ push_apart (take n t.nodes) e p apart in
          subst (λ x. IsContent x (shows d p)) (sym c) (built p below)

  module _ (v : View) (tree : IsTree v.now) (home : HasHome t.top v.now) (built : IsBuilt v.now t.top (take n t.nodes)) where
    -- the folder in which it is made
    record Parent : Type 0 where
      pub folder : Path
      pub name : Name
      pub is : e.at ≡ under folder name
      pub there : is_folder (v.now.at folder) ≡ true

    at_top : e.at ≡ t.top → (t.top ≡ []) ⊎ ((f : Path) × (x : Name) × (t.top ≡ under f x)) → Parent
    at_top is (inl root) = absurd (made.plan.below_root root)
    at_top is (inr w) = record {
      folder = w.0;
      name = w.1;
      is = is ∙ w.2;
      there = folder_shows v.now w.0 (home w.0 (subst (λ q. is_in w.0 q ≡ true) (sym w.2) (is_in-under w.0 w.1)));
    }

    inside : (f : Path) (x : Name) → e.at ≡ under f x → content_at (take n t.nodes) f ≡ Some Folder → (is_below t.top f ≡ true) ⊎ (t.top ≡ under f x) → Parent
    inside f x is has (inl below) =
        let shown : shows v.now f ≡ Directory folder_meta = subst (λ c. IsContent c (shows v.now f)) has (built f below) in
        record { folder = f; name = x; is = is; there = folder_shows v.now f (subst IsDirectory (sym shown) tt) }
    inside f x is has (inr top) = at_top (is ∙ sym top) (root_or_under t.top)

    parent_by : (e.at ≡ t.top) ⊎ ((f : Path) × (x : Name) × (e.at ≡ under f x) × (content_at (take n t.nodes) f ≡ Some Folder)) → Parent
    parent_by (inl is) = at_top is (root_or_under t.top)
    parent_by (inr w) = inside w.0 w.1 w.2 w.3 (under-is_below t.top w.0 w.1 (subst (λ q. is_below t.top q ≡ true) w.2 follows.below))

    parent : Parent
    parent = parent_by follows.parent

    none_vacant : content_at (take n t.nodes) e.at ≡ None → shows v.now e.at ≡ Vacant
    none_vacant none = subst (λ c. IsContent c (shows v.now e.at)) none (built e.at follows.below)

    -- nothing is there exactly where the nodes before it have nothing there
    vacant_none : shows v.now e.at ≡ Vacant → content_at (take n t.nodes) e.at ≡ None
    vacant_none vacant = by follows.free
      where
        by : (content_at (take n t.nodes) e.at ≡ None) ⊎ ((e.what ≡ Folder) × (content_at (take n t.nodes) e.at ≡ Some Folder)) → content_at (take n t.nodes) e.at ≡ None
        by (inl none) = none
        by (inr w) =
            let shown : shows v.now e.at ≡ Directory folder_meta = subst (λ c. IsContent c (shows v.now e.at)) w.1 (built e.at follows.below) in
            let no : Vacant ≡ Directory folder_meta = sym vacant ∙ shown in cc

    free_new : shows v.now e.at ≡ Vacant → no_new e.at v.now ≡ None
    free_new vacant =
        let gone : shows v.now (under parent.folder parent.name) ≡ Vacant = ap (shows v.now) (sym parent.is) ∙ vacant in
        ap (λ q. no_new q v.now) parent.is ∙ no_new-free v.now parent.folder parent.name tree parent.there (vacant_absent v.now (under parent.folder parent.name) gone)

    -- 1. a folder or a link
    module _ (x : Value) (vacant : shows v.now e.at ≡ Vacant) (begins : (s : Seen) → MayShow v x s → IsBegun e.what v s) (ends : IsContent (Some e.what) (seen v.now x)) where
      wrote : Writes (writes_in (phase.Make n) t v) v (named e.at x v)
      wrote = weaker (At e.at (MayShow v x)) (writes_in (phase.Make n) t v) v (named e.at x v) (λ p s a. (e, number, a.0, ap (shows v.now) a.0 ∙ vacant, begins s a.1)) (named-writes v e.at x)

      node_home : HasHome t.top (named e.at x v).now
      node_home = home_kept t.top (writes_in (phase.Make n) t v) v (named e.at x v) wrote
          (λ p s a. subst (λ q. is_below t.top q ≡ true) (sym (a.2 ∙ ap (λ (y : NewNode). y.at) (same_node t.nodes n a.0 e a.1 number))) follows.below) home

      node_built : IsBuilt (named e.at x v).now t.top (take (n + 1) t.nodes)
      node_built = grown (named e.at x v).now (vacant_none vacant) (subst (IsContent (Some e.what)) (sym (shows_named v e.at x)) ends)
          (λ p below apart. subst (IsContent (content_at (take n t.nodes) p)) (sym (shows_named_apart v e.at x p (λ s. apart (sym s)))) (built p below))

      pub node_step : Step (writes_in (phase.Make n) t v) (Needs (reached n t)) v (no_new e.at v.now) (named e.at x v)
      node_step = record { free = free_new vacant; writes = wrote; after = needs_reached n t made (named e.at x v) node_home node_built }

    pub folder_step : e.what ≡ Folder → shows v.now e.at ≡ Vacant → Step (writes_in (phase.Make n) t v) (Needs (reached n t)) v (no_new e.at v.now) (named e.at (value.Folder folder_meta) v)
    folder_step is vacant = node_step (value.Folder folder_meta) vacant (λ s a. subst (λ c. IsBegun c v s) (sym is) a) (subst (λ c. IsContent (Some c) (Directory folder_meta)) (sym is) refl)

    pub link_step : (target : List ℕ) → e.what ≡ Link target → Step (writes_in (phase.Make n) t v) (Needs (reached n t)) v (no_new e.at v.now) (named e.at (value.Link link_meta target) v)
    link_step target is = node_step (value.Link link_meta target) (none_vacant (not_folder follows.free)) (λ s a. subst (λ c. IsBegun c v s) (sym is) a) (subst (λ c. IsContent (Some c) (Symlink link_meta target)) (sym is) refl)
      where
        not_folder : (content_at (take n t.nodes) e.at ≡ None) ⊎ ((e.what ≡ Folder) × (content_at (take n t.nodes) e.at ≡ Some Folder)) → content_at (take n t.nodes) e.at ≡ None
        not_folder (inl none) = none
        not_folder (inr w) = let no : Link target ≡ Folder = sym is ∙ w.0 in cc

    -- 2. a folder that is there already
    pub kept_step : e.what ≡ Folder → (shows v.now e.at ≡ Vacant → ⊥) → Needs (reached n t) v
    kept_step is there = needs_reached n t made v home (same_grown v.now is (by follows.free) built)
      where
        by : (content_at (take n t.nodes) e.at ≡ None) ⊎ ((e.what ≡ Folder) × (content_at (take n t.nodes) e.at ≡ Some Folder)) → content_at (take n t.nodes) e.at ≡ Some Folder
        by (inl none) = absurd (there (none_vacant none))
        by (inr w) = w.1

    -- 3. a file, without its bytes
    pub file_step : (bytes : List ℕ) → e.what ≡ File bytes → (k : ℕ) → IsFresh k v
        → Step (writes_in (phase.Make n) t v) (Needs (record t { phase = phase.Write n })) v (no_new e.at v.now) (created e.at file_meta k v)
    file_step bytes is k fresh =
        let m = file_meta in
        let w = created e.at m k v in
        let none = not_folder follows.free in
        let vacant = none_vacant none in
        let writes : Writes (writes_in (phase.Make n) t v) v w =
        weaker (At e.at (OfInode k m)) (writes_in (phase.Make n) t v) v w (λ p s a. (e, number, a.0, ap (shows v.now) a.0 ∙ vacant, subst (λ c. IsBegun c v s) (sym is) (k, a.1, fresh))) (created-writes v e.at m k fresh) in
        record {
          free = free_new vacant;
          writes = writes;
          after = record {
            made = record { plan = made.plan; within = (number.0, λ a at. (bytes, ap (λ (y : NewNode). y.what) (same_node t.nodes n a e at number) ∙ is)) };
            home = home_kept t.top (writes_in (phase.Make n) t v) v w writes (λ p s a. subst (λ q. is_below t.top q ≡ true) (sym (at_node a.0 a.1 p a.2)) follows.below) home;
            meets = record {
              node = e;
              number = number;
              inode = k;
              empty = shows_created v e.at m k;
              free = none;
              others = λ p below apart. subst (IsContent (content_at (take n t.nodes) p)) (sym (shows_kept (writes_in (phase.Make n) t v) v w p writes (λ s a. apart (at_node a.0 a.1 p a.2)))) (built p below);
              own = λ p s may l b shown. ⊎_elim (λ old. absurd (fresh p (leaf_held v p k l b (subst (MayBe v p) shown old)))) (λ wrote. at_node wrote.0 wrote.1 p wrote.2) (writes.only p s may);
            };
          };
        }
      where
        not_folder : (content_at (take n t.nodes) e.at ≡ None) ⊎ ((e.what ≡ Folder) × (content_at (take n t.nodes) e.at ≡ Some Folder)) → content_at (take n t.nodes) e.at ≡ None
        not_folder (inl none) = none
        not_folder (inr w) = let no : File bytes ≡ Folder = sym is ∙ w.0 in cc

        at_node : (a : NewNode) → IsNumber t.nodes n a → (p : Path) → p ≡ a.at → p ≡ e.at
        at_node a at p here = here ∙ ap (λ (y : NewNode). y.at) (same_node t.nodes n a e at number)

-- 4. its bytes
module _ (n : ℕ) (t : Building) (v : View) (tree : IsTree v.now) (made : IsMade t) (home : HasHome t.top v.now) (begun : IsOpen n t v) where
  at_begun : (a : NewNode) → IsNumber t.nodes n a → (p : Path) → p ≡ a.at → p ≡ begun.node.at
  at_begun a at p here = here ∙ ap (λ (y : NewNode). y.at) (same_node t.nodes n a begun.node at begun.number)

  write_inode : (bytes : List ℕ) → begun.node.what ≡ File bytes → Step (writes_in (phase.Write n) t v) (Needs (reached n t)) v (no_file begun.node.at v.now) (extended begun.inode bytes v)
  write_inode bytes is =
      let k = begun.inode in
      let e = begun.node in
      let w = extended k bytes v in
      let file = leaf_file v.now e.at k file_meta [] begun.empty in
      let meta : v.now.meta k ≡ file_meta = meta_of k e.at begun.empty in
      let own : (q : Path) → Holds v q (value.File k) → q ≡ e.at = λ q held. begun.own q _ (may_held v q k held) (v.now.meta k) (v.now.bytes k) refl in
      let writes : Writes (writes_in (phase.Write n) t v) v w =
      weaker (At e.at (OfInode k (v.now.meta k))) (writes_in (phase.Write n) t v) v w
      (λ p s a. (e, begun.number, a.0, (k, subst (λ m. OfInode k m s) meta a.1, ap v.now.at a.0 ∙ file.0))) (extended-writes_own v k bytes e.at own) in
      let follow = made.plan.each n e begun.number in
      let here : shows w.now e.at ≡ Leaf k file_meta bytes =
      shows_extended v k bytes e.at file.0 ∙ ap (λ c. Leaf k (v.now.meta k) (c ++ bytes)) file.1 ∙ ap (λ m. Leaf k m bytes) meta in
      record {
        free = no_file-there v.now tree e.at k file.0;
        writes = writes;
        after = needs_reached n t made w
            (home_kept t.top (writes_in (phase.Write n) t v) v w writes (λ p s a. subst (λ q. is_below t.top q ≡ true) (sym (at_begun a.0 a.1 p a.2)) follow.below) home)
            (grown n t e made begun.number w.now begun.free (subst (λ c. IsContent (Some c) (shows w.now e.at)) (sym is) (k, here))
            (λ p below apart. subst (IsContent (content_at (take n t.nodes) p)) (sym (shows_kept (writes_in (phase.Write n) t v) v w p writes (λ s a. apart (at_begun a.0 a.1 p a.2)))) (begun.others p below apart)));
      }
    where
      meta_of : (k : ℕ) (p : Path) → shows v.now p ≡ Leaf k file_meta [] → v.now.meta k ≡ file_meta
      meta_of k p is =
          let l : Leaf k (v.now.meta k) (v.now.bytes k) ≡ Leaf k file_meta [] = sym (ap (seen v.now) (leaf_file v.now p k file_meta [] is).0) ∙ is in cc

  pub write_step : (e : NewNode) → IsNumber t.nodes n e → (bytes : List ℕ) → e.what ≡ File bytes
      → Step (writes_in (phase.Write n) t v) (Needs (reached n t)) v (no_file e.at v.now) (extended (inode_of (v.now.at e.at)) bytes v)
  write_step e number bytes is =
      let same : begun.node ≡ e = same_node t.nodes n begun.node e begun.number number in
      let file = leaf_file v.now begun.node.at begun.inode file_meta [] begun.empty in
      let k : begun.inode ≡ inode_of (v.now.at e.at) = sym (ap inode_of (ap (λ (y : NewNode). v.now.at y.at) (sym same) ∙ file.0)) in
      subst (λ i. Step (writes_in (phase.Write n) t v) (Needs (reached n t)) v (no_file e.at v.now) (extended i bytes v)) k
      (subst (λ (y : NewNode). Step (writes_in (phase.Write n) t v) (Needs (reached n t)) v (no_file y.at v.now) (extended begun.inode bytes v)) same
      (write_inode bytes (ap (λ (y : NewNode). y.what) same ∙ is)))

-- ---- the steps, by what the calls before gave

pub needs_as : (t u got : Building) (n : ℕ) → t ≡ u → got ≡ reached n u → (view : Option View) → Told view (Needs (reached n t)) → Told view (λ w. Needs got w)
needs_as t u got n same is view told = (told.0, told.1, subst (λ a. Needs a told.0) (ap (reached n) same ∙ sym is) told.2)

module _ (n : ℕ) (t u : Building) (same : t ≡ u) (v : View) (tree : IsTree v.now) (needs : Needs t v) (is : t.phase ≡ phase.Make n) (e : NewNode) (number : IsNumber t.nodes n e) where
  built_now : IsBuilt v.now t.top (take n t.nodes)
  built_now = subst (λ ph. needs_in ph t v) is needs.meets

  in_phase : (After : View → Type 0) (refusal : Option FsErr) (w : View) → Step (writes_in (phase.Make n) t v) After v refusal w → Step (WritesOf u v) After v refusal w
  in_phase After refusal w step = as_is t u same v After refusal w (subst (λ ph. Step (writes_in ph t v) After v refusal w) (sym is) step)

  pub folder_at : e.what ≡ Folder → shows v.now e.at ≡ Vacant → (m : Meta) → m ≡ folder_meta → Step (WritesOf u v) (Needs (reached n t)) v (no_new e.at v.now) (named e.at (value.Folder m) v)
  folder_at what vacant m plain =
      subst (λ k. Step (WritesOf u v) (Needs (reached n t)) v (no_new e.at v.now) (named e.at (value.Folder k) v)) (sym plain)
      (in_phase (Needs (reached n t)) (no_new e.at v.now) (named e.at (value.Folder folder_meta) v) (folder_step n t e needs.made number v tree needs.home built_now what vacant))

  pub link_at : (target : List ℕ) → e.what ≡ Link target → (m : Meta) → m ≡ link_meta → Step (WritesOf u v) (Needs (reached n t)) v (no_new e.at v.now) (named e.at (value.Link m target) v)
  link_at target what m plain =
      subst (λ k. Step (WritesOf u v) (Needs (reached n t)) v (no_new e.at v.now) (named e.at (value.Link k target) v)) (sym plain)
      (in_phase (Needs (reached n t)) (no_new e.at v.now) (named e.at (value.Link link_meta target) v) (link_step n t e needs.made number v tree needs.home built_now target what))

  pub file_at : (bytes : List ℕ) → e.what ≡ File bytes → (m : Meta) → m ≡ file_meta → (k : ℕ) → IsFresh k v
      → Step (WritesOf u v) (Needs (record t { phase = phase.Write n })) v (no_new e.at v.now) (created e.at m k v)
  file_at bytes what m plain k fresh =
      subst (λ a. Step (WritesOf u v) (Needs (record t { phase = phase.Write n })) v (no_new e.at v.now) (created e.at a k v)) (sym plain)
      (in_phase (Needs (record t { phase = phase.Write n })) (no_new e.at v.now) (created e.at file_meta k v) (file_step n t e needs.made number v tree needs.home built_now bytes what k fresh))

  pub kept_at : e.what ≡ Folder → (shows v.now e.at ≡ Vacant → ⊥) → Needs (reached n t) v
  kept_at what there = kept_step n t e needs.made number v tree needs.home built_now what there

pub write_at : (n : ℕ) (t u : Building) → t ≡ u → (v : View) → IsTree v.now → Needs t v → t.phase ≡ phase.Write n → (e : NewNode) → IsNumber t.nodes n e → (bytes : List ℕ) → e.what ≡ File bytes → (read : List ℕ) → read ≡ bytes
    → Step (WritesOf u v) (Needs (reached n t)) v (no_file e.at v.now) (extended (inode_of (v.now.at e.at)) read v)
write_at n t u same v tree needs is e number bytes what read here =
    subst (λ b. Step (WritesOf u v) (Needs (reached n t)) v (no_file e.at v.now) (extended (inode_of (v.now.at e.at)) b v)) (sym here)
    (as_is t u same v (Needs (reached n t)) (no_file e.at v.now) (extended (inode_of (v.now.at e.at)) bytes v)
    (subst (λ ph. Step (writes_in ph t v) (Needs (reached n t)) v (no_file e.at v.now) (extended (inode_of (v.now.at e.at)) bytes v)) (sym is)
    (write_step n t v tree needs.made needs.home (subst (λ ph. needs_in ph t v) is needs.meets) e number bytes what)))

-- the node that was read
pub number_make : (t : Building) (n : ℕ) → IsMade t → t.phase ≡ phase.Make n → (e : NewNode) → e ≡ get_or t.nodes n e → IsNumber t.nodes n e
number_make t n made is e read = (subst (λ ph. IsWithin ph t.top t.nodes) is made.within, sym read)

pub number_write : (t : Building) (n : ℕ) → IsMade t → t.phase ≡ phase.Write n → (e : NewNode) → e ≡ get_or t.nodes n e → IsNumber t.nodes n e
number_write t n made is e read = ((subst (λ ph. IsWithin ph t.top t.nodes) is made.within).0, sym read)

-- a call that wants for memory leaves the view as it was
pub unchanged_as : {T : Type 0} (e : FsErr) (r : Result T FsErr) → r ≡ Err e → (f : FsErr) → e ≡ f → IsErrOf r NoMemory → (refusal : Option FsErr) (v w : View) (view : Option View) → Fails refusal v w f view → view ≡ Some v
unchanged_as {T} e r is f same memory refusal v w view fails =
    let m : IsErrOf {T = T} (Err e) NoMemory = subst (λ x. IsErrOf x NoMemory) is memory in
    let n : e ≡ NoMemory = cc in
    subst (λ x. Fails refusal v w x view) (sym same ∙ n) fails

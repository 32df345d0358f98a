-- What each step of putting a link at a path writes and leaves.
use Rattle.std.proofs.Common.{◌≡◌, ◌≢◌, inl, inr, ⊎_elim, ℕ, true, false, refl, sym, ◌∙◌, ap, subst, List, Option, Some, None}
use Rattle.ost_types.specs.declared.meta.Meta.{Meta}
use Rattle.ost_types.specs.Path.{Name, Path, under, is_in, is_below}
use Rattle.ost_types.proofs.Paths.{is_in-under, is_in-self, under-is_in, is_below-self, is_below-under}
use Rattle.fs_trait.specs.declared.types.Value.{Value}
use Rattle.fs_trait.specs.declared.types.Value.TheVariants as value
use Rattle.fs_trait.specs.declared.types.FsErr.{FsErr}
use Rattle.fs_trait.specs.declared.types.FsErr.TheVariants.{Failed, Exists, Missing, NotFolder, NotEmpty, NoMemory}
use Rattle.fs_trait.specs.declared.task.StepResult.TheVariants.{Done}
use Rattle.fs_trait.specs.View.{Disk, View, named, moved}
use Rattle.fs_trait.specs.Image.{is_folder, IsTree, Told}
use Rattle.fs_trait.specs.Effect.{Fails, if_folder, no_leaf, no_move, no_new, one_inode, unless_leaf, way}
use Rattle.fs_trait.specs.Seen.{Seen, Vacant, Directory, Symlink, Leaf, seen, shows, MayShow, IsDirectory}
use Rattle.fs_trait.specs.Change.{Writes, At, Moves}
use Rattle.fs_trait.proofs.Kept.{weaker}
use Rattle.fs_trait.proofs.Effects.{named-writes, moved-writes, shows_named, shows_moved}
use Rattle.fs_trait.proofs.Ways.{way-folder, way-there}
use Rattle.fs_trait.proofs.Claims.{folder_shows}
use Rattle.fs_trait.proofs.Facts.{vacant_absent, no_new-free, shows_kept, Fails-writes}
use Rattle.fs_trait.proofs.Answering.{Step}
use Rattle.checkout.specs.Remove as removal
use Rattle.checkout.specs.Remove.{Removing, turn_in}
use Rattle.checkout.specs.RemoveSteps as steps
use Rattle.checkout.proofs.RemoveBelow.{not_true}
use Rattle.checkout.proofs.RemoveRuns.{same_at}
use Rattle.folder_build.specs.declared.link.LinkPhase.{LinkPhase}
use Rattle.folder_build.specs.declared.link.LinkPhase.TheVariants as phase
use Rattle.folder_build.specs.Node.{link_meta}
use Rattle.folder_build.specs.Steps.{HasHome}
use Rattle.folder_build.specs.Link.{IsClear, IsMade, IsPlaced, IsWithin, Linking}
use Rattle.folder_build.specs.LinkSteps.{IsTheLink, Needs, Refuses, WritesOf, needs_in, refuses_in, writes_in}
use Rattle.folder_build.proofs.Making.{off_home}
use Rattle.folder_build.proofs.Clearing.{ended}

pub as_is : (t u : Linking) → t ≡ u → (v : View) (After : View → Type 0) (refusal : Option FsErr) (w : View) → Step (WritesOf t v) After v refusal w → Step (WritesOf u v) After v refusal w
as_is t u same v After refusal w step = subst (λ a. Step (WritesOf a v) After v refusal w) same step

pub failed : (ph : LinkPhase) (t : Linking) (v : View) → refuses_in ph t v Failed
failed (phase.Clear c) t v = tt
failed phase.Make t v = tt
failed phase.Replace t v = tt
failed phase.Ended t v = tt

pub no_memory : (ph : LinkPhase) (t : Linking) (v : View) → refuses_in ph t v NoMemory
no_memory (phase.Clear c) t v = tt
no_memory phase.Make t v = tt
no_memory phase.Replace t v = tt
no_memory phase.Ended t v = tt

pub written_as : (t u : Linking) → t ≡ u → (ph : LinkPhase) → t.phase ≡ ph → (v : View) (view : Option View) → Told view (λ w. Writes (writes_in ph t v) v w) → Told view (λ w. Writes (WritesOf u v) v w)
written_as t u e ph is v view told = (told.0, told.1, subst (λ x. Writes (WritesOf x v) v told.0) e (subst (λ f. Writes (writes_in f t v) v told.0) (sym is) told.2))

home_apart : (top : Path) (W : Path → Seen → Type 0) (v w : View) → Writes W v w → ((p : Path) (s : Seen) → W p s → is_in p top ≡ true → ⊥) → HasHome top v.now → HasHome top w.now
home_apart top W v w writes apart home p in_ = subst IsDirectory (sym (shows_kept W v w p writes (λ s a. apart p s a in_))) (home p in_)

-- a folder that a path is in is above it
in_below : (f p : Path) → is_in f p ≡ true → is_below f p ≡ true
in_below f p in_ = let x = under-is_in f p in_ in subst (λ q. is_below f q ≡ true) (sym x.1) (is_below-under f f x.0 (is_below-self f))

link_value : (d : Disk) (z : Value) (m : Meta) (t : List ℕ) → seen d z ≡ Symlink m t → z ≡ value.Link m t
link_value d value.Absent m t e = let n : Vacant ≡ Symlink m t = e in cc
link_value d (value.Folder k) m t e = let n : Directory k ≡ Symlink m t = e in cc
link_value d (value.File k) m t e = let n : Leaf k (d.meta k) (d.bytes k) ≡ Symlink m t = e in cc
link_value d (value.Link k l) m t e =
    let n : Symlink k l ≡ Symlink m t = e in
    let i : k ≡ m = cc in
    let j : l ≡ t = cc in
    ap (λ x. value.Link x l) i ∙ ap (value.Link m) j

module _ (t : Linking) (v : View) (tree : IsTree v.now) (needs : Needs t v) where
  meets_in : (ph : LinkPhase) → t.phase ≡ ph → needs_in ph t v
  meets_in ph is = subst (λ f. needs_in f t v) is needs.meets

  placed : IsPlaced t.stage t.at
  placed = needs.made.placed

  parent_there : (top f : Path) (x : Name) → top ≡ under f x → HasHome top v.now → is_folder (v.now.at f) ≡ true
  parent_there top f x is home = folder_shows v.now f (home f (subst (λ q. is_in f q ≡ true) (sym is) (is_in-under f x)))

  off_stage : (p : Path) → p ≡ t.stage → is_in p t.stage ≡ true → ⊥
  off_stage p e in_ = not_true (is_in t.stage t.stage) (is_in-self t.stage) (subst (λ q. is_in q t.stage ≡ true) e in_)

  off_stage_at : (p : Path) → p ≡ t.stage → is_in p t.at ≡ true → ⊥
  off_stage_at p e in_ = not_true (is_below t.stage t.at) placed.aside (subst (λ q. is_below q t.at ≡ true) e (in_below p t.at in_))

  off_at : (p : Path) → p ≡ t.at → is_in p t.at ≡ true → ⊥
  off_at p e in_ = not_true (is_in t.at t.at) (is_in-self t.at) (subst (λ q. is_in q t.at ≡ true) e in_)

  off_at_stage : (p : Path) → p ≡ t.at → is_in p t.stage ≡ true → ⊥
  off_at_stage p e in_ = not_true (is_below t.at t.stage) placed.apart (subst (λ q. is_below q t.stage ≡ true) e (in_below p t.stage in_))

  -- 1. the link at the staging path
  make_in : Needs t v → shows v.now t.stage ≡ Vacant
      → Step (writes_in phase.Make t v) (Needs (record t { phase = phase.Replace })) v (no_new t.stage v.now) (named t.stage (value.Link link_meta t.target) v)
  make_in n vacant =
      let w = named t.stage (value.Link link_meta t.target) v in
      let g = placed.staging in
      let writes : Writes (writes_in phase.Make t v) v w =
      weaker (At t.stage (MayShow v (value.Link link_meta t.target))) (writes_in phase.Make t v) v w (λ p s a. (a.0, ap (shows v.now) a.0 ∙ vacant, a.1)) (named-writes v t.stage (value.Link link_meta t.target)) in
      record {
        free = subst (λ q. v.now.at q ≡ value.Absent → no_new q v.now ≡ None) (sym g.2) (no_new-free v.now g.0 g.1 tree (parent_there t.stage g.0 g.1 g.2 needs.home)) (vacant_absent v.now t.stage vacant);
        writes = writes;
        after = record {
          made = record { placed = placed; target = needs.made.target; within = tt };
          home = home_apart t.stage (writes_in phase.Make t v) v w writes (λ p s a. off_stage p a.0) needs.home;
          folder = home_apart t.at (writes_in phase.Make t v) v w writes (λ p s a. off_stage_at p a.0) needs.folder;
          meets = shows_named v t.stage (value.Link link_meta t.target);
        };
      }

  pub make : t.phase ≡ phase.Make → Step (WritesOf t v) (Needs (record t { phase = phase.Replace })) v (no_new t.stage v.now) (named t.stage (value.Link link_meta t.target) v)
  make is = subst (λ ph. Step (writes_in ph t v) (Needs (record t { phase = phase.Replace })) v (no_new t.stage v.now) (named t.stage (value.Link link_meta t.target) v)) (sym is) (make_in needs (meets_in phase.Make is))

  -- 2. the rename
  value_there : t.phase ≡ phase.Replace → v.now.at t.stage ≡ value.Link link_meta t.target
  value_there is = link_value v.now (v.now.at t.stage) link_meta t.target (meets_in phase.Replace is)

  apart_paths : t.stage ≢ t.at
  apart_paths e = not_true (is_below t.stage t.at) placed.aside (subst (λ q. is_below t.stage q ≡ true) e (is_below-self t.stage))

  pub two_inodes : t.phase ≡ phase.Replace → one_inode (v.now.at t.stage) (v.now.at t.at) ≡ false
  two_inodes is = subst (λ z. one_inode z (v.now.at t.at) ≡ false) (sym (value_there is)) refl

  link_free : (z : Value) → z ≡ value.Link link_meta t.target → unless_leaf z ≡ None
  link_free z is = subst (λ y. unless_leaf y ≡ None) (sym is) refl

  pub refusal : t.phase ≡ phase.Replace → no_move t.stage t.at v.now ≡ if_folder (v.now.at t.at)
  unfolding no_move no_leaf
  refusal is =
      let z = value_there is in
      let g = placed.inside in
      let to : way_to_at ≡ None = subst (λ q. way v.now q ≡ None) (sym g.2) (way-folder v.now tree g.0 g.1 (parent_there t.at g.0 g.1 g.2 needs.folder)) in
      rw (way-there v.now tree t.stage (λ none. let n : value.Link link_meta t.target ≡ value.Absent = sym z ∙ none in cc), link_free (v.now.at t.stage) z, to) refl
    where
      way_to_at : Option FsErr
      way_to_at = way v.now t.at

  pub replace_writes : t.phase ≡ phase.Replace → Writes (WritesOf t v) v (moved t.stage t.at v)
  replace_writes is = subst (λ ph. Writes (writes_in ph t v) v (moved t.stage t.at v)) (sym is)
      (weaker (Moves t.stage t.at (MayShow v (v.now.at t.stage))) (Moves t.stage t.at (IsTheLink t.target)) v (moved t.stage t.at v)
      (λ p s a. ⊎_elim (λ b. inl (b.0, subst (λ z. MayShow v z s) (value_there is) b.1)) (λ b. inr b) a) (moved-writes v t.stage t.at))

  moved_apart : (p : Path) → ((p ≡ t.at) → ⊥) → ((p ≡ t.stage) → ⊥) → t.phase ≡ phase.Replace → shows (moved t.stage t.at v).now p ≡ shows v.now p
  moved_apart p one two is = shows_kept (WritesOf t v) v (moved t.stage t.at v) p (replace_writes is)
      (λ s a. ⊎_elim (λ b. one b.0) (λ b. two b.0) (subst (λ ph. writes_in ph t v p s) is a))

  pub replaced : t.phase ≡ phase.Replace → Needs (record t { phase = phase.Ended }) (moved t.stage t.at v)
  replaced is = record {
    made = record { placed = placed; target = needs.made.target; within = tt };
    home = λ p in_. subst IsDirectory (sym (moved_apart p (λ e. off_at_stage p e in_) (λ e. off_stage p e in_) is)) (needs.home p in_);
    folder = λ p in_. subst IsDirectory (sym (moved_apart p (λ e. off_at p e in_) (λ e. off_stage_at p e in_) is)) (needs.folder p in_);
    meets = shows_moved v t.stage t.at apart_paths ∙ meets_in phase.Replace is;
  }

  folder_there : (z : Value) → if_folder z ≡ Some Exists → IsDirectory (seen v.now z)
  folder_there value.Absent e = let n : None ≡ Some Exists = e in cc
  folder_there (value.Folder m) e = tt
  folder_there (value.Link m l) e = let n : None ≡ Some Exists = e in cc
  folder_there (value.File k) e = let n : None ≡ Some Exists = e in cc

  only_exists : (z : Value) (e : FsErr) → if_folder z ≡ Some e → e ≡ Exists
  only_exists value.Absent e is = let n : None ≡ Some e = is in cc
  only_exists (value.Folder m) e is = let n : Some Exists ≡ Some e = is in cc
  only_exists (value.Link m l) e is = let n : None ≡ Some e = is in cc
  only_exists (value.File k) e is = let n : None ≡ Some e = is in cc

  refused : (e : FsErr) → t.phase ≡ phase.Replace → no_move t.stage t.at v.now ≡ Some e → refuses_in phase.Replace t v e
  refused e is no_ =
      let r : if_folder (v.now.at t.at) ≡ Some e = sym (refusal is) ∙ no_ in
      let x = only_exists (v.now.at t.at) e r in
      subst (refuses_in phase.Replace t v) (sym x) (folder_there (v.now.at t.at) (r ∙ ap Some x))

  pub replace_fails : t.phase ≡ phase.Replace → (e : FsErr) (view : Option View) → Fails (no_move t.stage t.at v.now) v (moved t.stage t.at v) e view → Refuses t v e
  replace_fails is e view fails = subst (λ ph. refuses_in ph t v e) (sym is) (by e fails)
    where
      by : (e : FsErr) → Fails (no_move t.stage t.at v.now) v (moved t.stage t.at v) e view → refuses_in phase.Replace t v e
      by Failed fails = tt
      by NoMemory fails = tt
      by Exists fails = refused Exists is fails.0
      by Missing fails = refused Missing is fails.0
      by NotFolder fails = refused NotFolder is fails.0
      by NotEmpty fails = refused NotEmpty is fails.0

-- ---- the steps that remove what stood at the staging path

pub is_clear : (ph : LinkPhase) (c : Removing) → ph ≡ phase.Clear c → IsClear ph
is_clear ph c is = subst IsClear (sym is) tt

module _ (c : Removing) (t : Linking) (is : t.phase ≡ phase.Clear c) (v : View) (needs : Needs t v) where
  pub clear_needs : steps.Needs c v
  clear_needs = subst (λ ph. needs_in ph t v) is needs.meets

  at : c.at ≡ t.stage
  at = subst (λ ph. IsWithin ph t.stage) is needs.made.within

  on_stage : (p : Path) (s : Seen) → steps.WritesOf c v p s → is_below t.stage p ≡ true
  on_stage p s a = subst (λ r. is_below r p ≡ true) at a.0.below

  home_after : (w : View) → Writes (steps.WritesOf c v) v w → HasHome t.stage w.now
  home_after w writes = home_apart t.stage (steps.WritesOf c v) v w writes (λ p s a in_. off_home t.stage p p (on_stage p s a) in_ refl) needs.home

  below_above : (p : Path) → is_below t.stage p ≡ true → is_in p t.at ≡ true → ⊥
  below_above p below in_ =
      let x = under-is_in p t.at in_ in
      not_true (is_below t.stage t.at) needs.made.placed.aside (subst (λ q. is_below t.stage q ≡ true) (sym x.1) (is_below-under t.stage p x.0 below))

  folder_after : (w : View) → Writes (steps.WritesOf c v) v w → HasHome t.at w.now
  folder_after w writes = home_apart t.at (steps.WritesOf c v) v w writes (λ p s a in_. below_above p (on_stage p s a) in_) needs.folder

  pub clear_goes : (d : Removing) → removal.Follows (removal.act c) c d → (w : View) → Writes (steps.WritesOf c v) v w → steps.Needs d w → Needs (record t { phase = phase.Clear d }) w
  clear_goes d follows w writes after = record {
    made = record { placed = needs.made.placed; target = needs.made.target; within = same_at c d follows ∙ at };
    home = home_after w writes;
    folder = folder_after w writes;
    meets = after;
  }

  pub clear_ends : (d : Removing) → removal.Follows (removal.act c) c d → Done tt ≡ turn_in d.phase → (w : View) → Writes (steps.WritesOf c v) v w → steps.Needs d w → Needs (record t { phase = phase.Make }) w
  clear_ends d follows last w writes after = record {
    made = record { placed = needs.made.placed; target = needs.made.target; within = tt };
    home = home_after w writes;
    folder = folder_after w writes;
    meets = ap (shows w.now) (sym (same_at c d follows ∙ at)) ∙ subst (λ ph. steps.known_in ph d w.now) (ended d.phase last) after.known;
  }

pub made_goes : (t : Linking) (c d : Removing) → t.phase ≡ phase.Clear c → IsMade t → removal.Follows (removal.act c) c d → IsMade (record t { phase = phase.Clear d })
made_goes t c d is made follows = record { placed = made.placed; target = made.target; within = same_at c d follows ∙ subst (λ ph. IsWithin ph t.stage) is made.within }

-- ---- the steps, by what the calls before gave

module _ (t u : Linking) (same : t ≡ u) (v : View) (tree : IsTree v.now) (needs : Needs t v) where
  pub make_at : t.phase ≡ phase.Make → (m : Meta) → m ≡ link_meta → Step (WritesOf u v) (Needs (record t { phase = phase.Replace })) v (no_new t.stage v.now) (named t.stage (value.Link m t.target) v)
  make_at is m plain =
      subst (λ k. Step (WritesOf u v) (Needs (record t { phase = phase.Replace })) v (no_new t.stage v.now) (named t.stage (value.Link k t.target) v)) (sym plain)
      (as_is t u same v (Needs (record t { phase = phase.Replace })) (no_new t.stage v.now) (named t.stage (value.Link link_meta t.target) v) (make t v tree needs is))

  written_to : t.phase ≡ phase.Replace → Writes (WritesOf u v) v (moved t.stage t.at v)
  written_to is = subst (λ a. Writes (WritesOf a v) v (moved t.stage t.at v)) same (replace_writes t v tree needs is)

  pub replace_err_writes : t.phase ≡ phase.Replace → (e : FsErr) (view : Option View) → Fails (no_move t.stage t.at v.now) v (moved t.stage t.at v) e view → Told view (λ x. Writes (WritesOf u v) v x)
  replace_err_writes is e view fails = Fails-writes (WritesOf u v) (no_move t.stage t.at v.now) v (moved t.stage t.at v) e view fails (written_to is)

  pub replace_err_fails : t.phase ≡ phase.Replace → (e : FsErr) (view : Option View) → Fails (no_move t.stage t.at v.now) v (moved t.stage t.at v) e view → Refuses u v e
  replace_err_fails is e view fails = subst (λ a. Refuses a v e) same (replace_fails t v tree needs is e view fails)

  pub replace_ok_writes : t.phase ≡ phase.Replace → (view : Option View) → (no_move t.stage t.at v.now ≡ None) × (view ≡ Some (moved t.stage t.at v)) → Told view (λ x. Writes (WritesOf u v) v x)
  replace_ok_writes is view done = (moved t.stage t.at v, done.1, written_to is)

  pub replace_ok_after : t.phase ≡ phase.Replace → (view : Option View) → (no_move t.stage t.at v.now ≡ None) × (view ≡ Some (moved t.stage t.at v)) → Told view (Needs (record t { phase = phase.Ended }))
  replace_ok_after is view done = (moved t.stage t.at v, done.1, replaced t v tree needs is)

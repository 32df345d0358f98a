-- What each step of putting a copy writes and leaves.
use Rattle.std.proofs.Common.{◌≡◌, ◌≢◌, ◌⊎◌, Decides, inl, inr, ⊎_elim, ℕ, true, false, refl, sym, ◌∙◌, ap, subst, List, Option, Some, None, Ok, Result}
use Rattle.std.specs.Prelude.{◌==◌, Bool}
use Rattle.std.proofs.lemmas.Bool.Decides.{Decides-eqb}
use Rattle.ost_types.specs.Path.{Path, is_in}
use Rattle.ost_types.proofs.Paths.{is_in-under, is_in-self}
use Rattle.fs_trait.specs.declared.types.Value.{Value}
use Rattle.fs_trait.specs.declared.types.Value.TheVariants as value
use Rattle.fs_trait.specs.declared.types.FsErr.{FsErr}
use Rattle.fs_trait.specs.declared.types.FsErr.TheVariants.{Failed, Exists, Missing, NotFolder, NotEmpty, NoMemory}
use Rattle.fs_trait.specs.declared.task.StepResult.{StepResult}
use Rattle.fs_trait.specs.declared.task.StepResult.TheVariants.{More, Done}
use Rattle.fs_trait.specs.View.{Disk, View, moved}
use Rattle.fs_trait.specs.Image.{is_folder, IsTree, Told, reads}
use Rattle.fs_trait.specs.Effect.{Fails, if_folder, no_leaf, no_move, one_inode, unless_leaf, way}
use Rattle.fs_trait.specs.Seen.{Seen, Vacant, Directory, Symlink, Leaf, seen, shows, bytes_in, MayBe, MayShow, IsDirectory, NotDirectory}
use Rattle.fs_trait.specs.Change.{Writes, Meets, Moves}
use Rattle.fs_trait.proofs.Kept.{weaker}
use Rattle.fs_trait.proofs.Images.{not_both}
use Rattle.fs_trait.proofs.Effects.{moved-writes, shows_moved}
use Rattle.fs_trait.proofs.Ways.{way-folder, way-there}
use Rattle.fs_trait.proofs.Claims.{folder_shows, reads_shows}
use Rattle.fs_trait.proofs.Facts.{leaf_file, may_held, shows_kept, Fails-writes}
use Rattle.fs_trait.proofs.Puts.{same_inode}
use Rattle.staging.specs.declared.phase.Phase.{Phase}
use Rattle.staging.specs.declared.phase.Phase.TheVariants as staged
use Rattle.staging.specs.Draft.{is_last}
use Rattle.staging.specs.Steps as staging
use Rattle.staging.proofs.StepLemmas.{meta_shown}
use Rattle.staging.proofs.Stable.{staging_lies}
use Rattle.file_copy.specs.declared.putting.PutPhase.{PutPhase}
use Rattle.file_copy.specs.declared.putting.PutPhase.TheVariants as phase
use Rattle.file_copy.specs.Comparing as compare
use Rattle.file_copy.specs.Comparing.{AreSame, Answers, Comparing}
use Rattle.file_copy.specs.Copying as copy
use Rattle.file_copy.specs.Copying.{Copying, draft}
use Rattle.file_copy.specs.CopySteps as copying
use Rattle.file_copy.specs.Putting.{Differs, IsMade, IsStepped, Putting, after, goes_in}
use Rattle.file_copy.specs.PutSteps.{IsCopy, IsPlaced, Needs, Refuses, WritesOf, needs_in, refuses_in, writes_in}
use Rattle.file_copy.proofs.CopyLemmas.{unalike}

pub failed : (ph : PutPhase) (t : Putting) (v : View) → refuses_in ph t v Failed
failed phase.Compare t v = tt
failed phase.Copy t v = tt
failed phase.Replace t v = tt
failed phase.Ended t v = tt

pub no_memory : (ph : PutPhase) (t : Putting) (v : View) → refuses_in ph t v NoMemory
no_memory phase.Compare t v = tt
no_memory phase.Copy t v = tt
no_memory phase.Replace t v = tt
no_memory phase.Ended t v = tt

-- ---- the comparison

module _ (t : Putting) (v : View) (needs : Needs t v) where
  pub compare_needs : t.phase ≡ phase.Compare → compare.Needs t.comparing v.now
  compare_needs is = (subst (λ ph. needs_in ph t v) is needs.meets).0

  copy_waits : t.phase ≡ phase.Compare → copying.Needs t.copying v
  copy_waits is = (subst (λ ph. needs_in ph t v) is needs.meets).1

  -- a comparison of the same paths
  same_paths : (c : Comparing) → c ≡ record t.comparing { phase = c.phase } → (c.one ≡ t.at) × (c.other ≡ t.copying.from)
  same_paths c is = (ap (λ (x : Comparing). x.one) is ∙ needs.made.target, ap (λ (x : Comparing). x.other) is ∙ needs.made.source)

  pub compare_goes : t.phase ≡ phase.Compare → (c : Comparing) → c ≡ record t.comparing { phase = c.phase } → compare.Needs c v.now → Needs (record t { comparing = c }) v
  compare_goes is c same knows = record {
    made = record { target = (same_paths c same).0; source = (same_paths c same).1 };
    placed = needs.placed;
    home = needs.home;
    meets = subst (λ ph. needs_in ph (record t { comparing = c }) v) (sym is) (knows, copy_waits is);
  }

  pub compare_ends : t.phase ≡ phase.Compare → (c : Comparing) → c ≡ record t.comparing { phase = c.phase } → (same : Bool) → Answers v.now t.comparing same → Needs (record t { comparing = c; phase = after same }) v
  compare_ends is c paths true answer = record {
    made = record { target = (same_paths c paths).0; source = (same_paths c paths).1 };
    placed = needs.placed;
    home = needs.home;
    meets = subst (λ p. AreSame v.now p t.copying.from) needs.made.target (subst (AreSame v.now t.comparing.one) needs.made.source (answer.0 refl));
  }
  compare_ends is c paths false answer = record {
    made = record { target = (same_paths c paths).0; source = (same_paths c paths).1 };
    placed = needs.placed;
    home = needs.home;
    meets = copy_waits is;
  }

-- no step of a comparison changes its paths
pub compare_same : (old new : Comparing) (r : Result (StepResult Bool) FsErr) (turn : StepResult Bool) → r ≡ Ok turn → compare.IsStepped old r new → new ≡ record old { phase = new.phase }
compare_same old new r turn is stepped = (subst (λ x. compare.IsStepped old x new) is stepped).1

-- what is copied goes over other bytes
pub compare_differs : (t u new : Putting) → t ≡ u → IsMade t → (d : Disk) (same : Bool) → Answers d t.comparing same → new.phase ≡ after same → Differs u new d
compare_differs t u new e made d true answer is = λ was next. let n : phase.Ended ≡ phase.Copy = sym is ∙ next in cc
compare_differs t u new e made d false answer is = λ was next same.
    let here : AreSame d t.at t.copying.from = subst (λ (x : Putting). AreSame d x.at x.copying.from) (sym e) same in
    let n : false ≡ true = answer.1 (subst (λ p. AreSame d p t.comparing.other) (sym made.target) (subst (AreSame d t.at) (sym made.source) here)) in
    cc

-- ---- the copying

-- no step of it changes its paths and attributes
pub record IsSameCopy (t new : Copying) : Type 0 where
  pub from : new.from ≡ t.from
  pub stage : new.stage ≡ t.stage
  pub meta : new.meta ≡ t.meta

same_copy : (ph : Phase) (t new : Copying) → copy.goes_in ph t new → IsSameCopy t new
same_copy staged.Clear t new is = record { from = ap (λ (x : Copying). x.from) is; stage = ap (λ (x : Copying). x.stage) is; meta = ap (λ (x : Copying). x.meta) is }
same_copy staged.Create t new is = record { from = ap (λ (x : Copying). x.from) is.1; stage = ap (λ (x : Copying). x.stage) is.1; meta = ap (λ (x : Copying). x.meta) is.1 }
same_copy staged.Append t new is = record { from = ap (λ (x : Copying). x.from) is.3; stage = ap (λ (x : Copying). x.stage) is.3; meta = ap (λ (x : Copying). x.meta) is.3 }
same_copy staged.SyncFile t new is = record { from = ap (λ (x : Copying). x.from) is; stage = ap (λ (x : Copying). x.stage) is; meta = ap (λ (x : Copying). x.meta) is }
same_copy staged.Ended t new is = record { from = ap (λ (x : Copying). x.from) is; stage = ap (λ (x : Copying). x.stage) is; meta = ap (λ (x : Copying). x.meta) is }

pub copy_same : (t new : Copying) → copy.goes_in t.phase t new → IsSameCopy t new
copy_same t new goes = same_copy t.phase t new goes

-- the step behind which it is done leaves it ended
pub last_ends : (ph : Phase) (t new : Copying) → t.phase ≡ ph → copy.goes_in ph t new → is_last ph ≡ true → new.phase ≡ staged.Ended
last_ends staged.Clear t new at goes last = let n : false ≡ true = last in cc
last_ends staged.Create t new at goes last = let n : false ≡ true = last in cc
last_ends staged.Append t new at goes last = let n : false ≡ true = last in cc
last_ends staged.SyncFile t new at goes last = ap (λ (x : Copying). x.phase) goes
last_ends staged.Ended t new at goes last = ap (λ (x : Copying). x.phase) goes ∙ at

copy_made : (t : Putting) (c : Copying) → IsMade t → IsSameCopy t.copying c → IsMade (record t { copying = c })
copy_made t c made same = record { target = made.target; source = made.source ∙ sym same.from }

-- the steps as the task's
pub stepped_as : {T : Type 0} (old new : Copying) (r : Result (StepResult T) FsErr) (turn : StepResult T) → r ≡ Ok turn → copy.IsStepped old r new → copy.IsStepped old (Ok turn) new
stepped_as old new r turn is stepped = subst (λ x. copy.IsStepped old x new) is stepped

pub copy_more : (t u : Putting) → t ≡ u → u.phase ≡ phase.Copy → (c : Copying) → copy.IsStepped {T = Unit {0}} t.copying (Ok More) c → IsStepped u (Ok More) (record t { copying = c })
copy_more t u same is c stepped = subst (λ ph. goes_in ph u More (record t { copying = c })) (sym is)
    (inl (c, subst (λ (x : Putting). copy.IsStepped {T = Unit {0}} x.copying (Ok More) c) same stepped, ap (λ (x : Putting). record x { copying = c }) same))

pub copy_last : (t u : Putting) → t ≡ u → u.phase ≡ phase.Copy → (c : Copying) → copy.IsStepped {T = Unit {0}} t.copying (Ok (Done tt)) c → IsStepped u (Ok More) (record t { copying = c; phase = phase.Replace })
copy_last t u same is c stepped = subst (λ ph. goes_in ph u More (record t { copying = c; phase = phase.Replace })) (sym is)
    (inr (c, subst (λ (x : Putting). copy.IsStepped {T = Unit {0}} x.copying (Ok (Done tt)) c) same stepped, ap (λ (x : Putting). record x { copying = c; phase = phase.Replace }) same))

placed_as : (t : Putting) (c : Copying) → IsSameCopy t.copying c → IsPlaced t.copying.from t.copying.stage t.at → IsPlaced c.from c.stage t.at
placed_as t c same placed = record {
  inside = placed.inside;
  apart = λ e. placed.apart (sym same.stage ∙ e);
  other = λ e. placed.other (sym same.from ∙ e);
}

-- no folder stands at the staging path, so it leads to no target
home_kept : (c : Copying) (v : View) (needs : copying.Needs c v) (at : Path) → ((p : Path) → is_in p at ≡ true → IsDirectory (shows v.now p)) → (w : View) → Writes (copying.WritesOf c v) v w
    → (p : Path) → is_in p at ≡ true → IsDirectory (shows w.now p)
home_kept c v needs at home w writes p in_ =
    subst IsDirectory (sym (shows_kept (copying.WritesOf c v) v w p writes (λ s a. no_both (shows v.now p) (home p in_) (staging_lies (draft c needs.bytes) v needs.staged p s (unalike c needs.bytes v p s a)).folders))) (home p in_)
  where
    no_both : (s : Seen) → IsDirectory s → NotDirectory s → ⊥
    no_both Vacant is not = is
    no_both (Directory m) is not = not
    no_both (Symlink m l) is not = is
    no_both (Leaf n m b) is not = is

module _ (t : Putting) (v : View) (needs : Needs t v) (is : t.phase ≡ phase.Copy) where
  pub copy_needs : copying.Needs t.copying v
  copy_needs = subst (λ ph. needs_in ph t v) is needs.meets

  pub copy_goes : (c : Copying) → IsSameCopy t.copying c → (w : View) → Writes (copying.WritesOf t.copying v) v w → copying.Needs c w → Needs (record t { copying = c }) w
  copy_goes c same w writes after_ = record {
    made = copy_made t c needs.made same;
    placed = placed_as t c same needs.placed;
    home = home_kept t.copying v copy_needs t.at needs.home w writes;
    meets = subst (λ ph. needs_in ph (record t { copying = c }) w) (sym is) after_;
  }

  pub copy_ends : (c : Copying) → IsSameCopy t.copying c → c.phase ≡ staged.Ended → (w : View) → Writes (copying.WritesOf t.copying v) v w → copying.Needs c w → Needs (record t { copying = c; phase = phase.Replace }) w
  copy_ends c same ended w writes after_ = record {
    made = record { target = needs.made.target; source = needs.made.source ∙ sym same.from };
    placed = placed_as t c same needs.placed;
    home = home_kept t.copying v copy_needs t.at needs.home w writes;
    meets = (after_, ended);
  }

  pub copy_writes : (w : View) → Writes (copying.WritesOf t.copying v) v w → Writes (WritesOf t v) v w
  copy_writes w writes = subst (λ ph. Writes (writes_in ph t v) v w) (sym is) writes

-- two facts of one view
pub told_both : {P Q R : View → Type 0} → (view : Option View) → ((w : View) → P w → Q w → R w) → Told view P → Told view Q → Told view R
told_both {P} {Q} {R} view both one other =
    let e : Some other.0 ≡ Some one.0 = sym other.1 ∙ one.1 in
    let same : other.0 ≡ one.0 = cc in
    (one.0, one.1, both one.0 one.2 (subst Q same other.2))

-- ---- the rename

apart_inodes : (n k : ℕ) → n ≢ k → one_inode (value.File n) (value.File k) ≡ false
apart_inodes n k apart = by (n == k) (Decides-eqb n k)
  where
    by : (b : Bool) → Decides b (n ≡ k) → b ≡ false
    by true d = absurd (apart (d.0 refl))
    by false d = refl

module _ (t : Putting) (v : View) (tree : IsTree v.now) (needs : Needs t v) (is : t.phase ≡ phase.Replace) where
  meets : copying.Needs t.copying v × (t.copying.phase ≡ staged.Ended)
  meets = subst (λ ph. needs_in ph t v) is needs.meets

  abbrev stage : Path
  stage = t.copying.stage

  abbrev bytes : List ℕ
  bytes = meets.0.bytes

  abbrev n : ℕ
  n = meets.0.staged.inode

  now : Meets (staging.firm_in staged.Ended (draft t.copying bytes) n) (staging.here_in staged.Ended (draft t.copying bytes) n) v
  now = subst (λ f. Meets (staging.firm_in f (draft t.copying bytes) n) (staging.here_in f (draft t.copying bytes) n) v) meets.1 meets.0.staged.meets

  here : shows v.now stage ≡ Leaf n t.copying.meta bytes
  here = now.here stage refl

  file : (v.now.at stage ≡ value.File n) × (v.now.bytes n ≡ bytes)
  file = leaf_file v.now stage n t.copying.meta bytes here

  two_inodes : one_inode (v.now.at stage) (v.now.at t.at) ≡ false
  two_inodes = subst (λ z. one_inode z (v.now.at t.at) ≡ false) (sym file.0) (by (v.now.at t.at) refl)
    where
      by : (z : Value) → v.now.at t.at ≡ z → one_inode (value.File n) z ≡ false
      by value.Absent at = refl
      by (value.Folder m) at = refl
      by (value.Link m l) at = refl
      by (value.File k) at = differs (same_inode n k)
        where
          differs : (n ≡ k) ⊎ (n ≢ k) → one_inode (value.File n) (value.File k) ≡ false
          differs (inl e) = absurd (needs.placed.apart (sym ((now.firm t.at _ (may_held v t.at n (inl (sym (at ∙ ap value.File (sym e)))))).0 (v.now.meta n) (v.now.bytes n) refl)))
          differs (inr apart) = apart_inodes n k apart

  -- a crash shows it in no other way
  whole : (s : Seen) → MayShow v (v.now.at stage) s → IsCopy t.copying v s
  whole s shown =
      let a : MayShow v (value.File n) s = subst (λ z. MayShow v z s) file.0 shown in
      let may : MayBe v stage s = record { value = v.now.at stage; held = inl refl; shown = shown } in
      let b : a.0 ≡ bytes = (now.firm stage s may).1 (v.now.meta n) a.0 refl a.1 in
      (n, bytes, a.1 ∙ ap (λ m. Leaf n m a.0) (meta_shown v.now stage n t.copying.meta bytes here) ∙ ap (Leaf n t.copying.meta) b, meets.0.source, file.0)

  pub replace_writes : Writes (WritesOf t v) v (moved stage t.at v)
  replace_writes = subst (λ ph. Writes (writes_in ph t v) v (moved stage t.at v)) (sym is)
      (weaker (Moves stage t.at (MayShow v (v.now.at stage))) (Moves stage t.at (IsCopy t.copying v)) v (moved stage t.at v)
      (λ p s a. ⊎_elim (λ b. inl (b.0, whole s b.1)) (λ b. inr b) a) (moved-writes v stage t.at))

  moved_apart : (p : Path) → (p ≡ t.at → ⊥) → (p ≡ stage → ⊥) → shows (moved stage t.at v).now p ≡ shows v.now p
  moved_apart p one two = shows_kept (WritesOf t v) v (moved stage t.at v) p replace_writes
      (λ s a. ⊎_elim (λ b. one b.0) (λ b. two b.0) (subst (λ ph. writes_in ph t v p s) is a))

  read_apart : (p : Path) → (p ≡ t.at → ⊥) → (p ≡ stage → ⊥) → reads (moved stage t.at v).now p ≡ reads v.now p
  read_apart p one two = reads_shows (moved stage t.at v).now p ∙ ap bytes_in (moved_apart p one two) ∙ sym (reads_shows v.now p)

  off_at : (p : Path) → is_in p t.at ≡ true → p ≡ t.at → ⊥
  off_at p in_ e = not_both (subst (λ q. is_in q t.at ≡ true) e in_) (is_in-self t.at)

  off_stage : (p : Path) → is_in p t.at ≡ true → p ≡ stage → ⊥
  off_stage p in_ e = subst IsDirectory here (subst (λ q. IsDirectory (shows v.now q)) e (needs.home p in_))

  pub replaced : Needs (record t { phase = phase.Ended }) (moved stage t.at v)
  replaced = record {
    made = record { target = needs.made.target; source = needs.made.source };
    placed = needs.placed;
    home = λ p in_. subst IsDirectory (sym (moved_apart p (off_at p in_) (off_stage p in_))) (needs.home p in_);
    meets = (
      bytes,
      reads_shows (moved stage t.at v).now t.at ∙ ap bytes_in (shows_moved v stage t.at needs.placed.apart ∙ here),
      read_apart t.copying.from needs.placed.other meets.0.apart ∙ meets.0.source,
    );
  }

  file_free : (z : Value) → z ≡ value.File n → unless_leaf z ≡ None
  file_free z at = subst (λ y. unless_leaf y ≡ None) (sym at) refl

  refusal : no_move stage t.at v.now ≡ if_folder (v.now.at t.at)
  unfolding no_move no_leaf
  refusal =
      let g = needs.placed.inside in
      let folder : is_folder (v.now.at g.0) ≡ true = folder_shows v.now g.0 (needs.home g.0 (subst (λ q. is_in g.0 q ≡ true) (sym g.2) (is_in-under g.0 g.1))) in
      let to : way v.now t.at ≡ None = subst (λ q. way v.now q ≡ None) (sym g.2) (way-folder v.now tree g.0 g.1 folder) in
      rw (way-there v.now tree stage (λ none. let no_ : value.File n ≡ value.Absent = sym file.0 ∙ none in cc), file_free (v.now.at stage) file.0, to) refl

  folder_there : (z : Value) → if_folder z ≡ Some Exists → IsDirectory (seen v.now z)
  folder_there value.Absent e = let no_ : None ≡ Some Exists = e in cc
  folder_there (value.Folder m) e = tt
  folder_there (value.Link m l) e = let no_ : None ≡ Some Exists = e in cc
  folder_there (value.File k) e = let no_ : None ≡ Some Exists = e in cc

  only_exists : (z : Value) (e : FsErr) → if_folder z ≡ Some e → e ≡ Exists
  only_exists value.Absent e at = let no_ : None ≡ Some e = at in cc
  only_exists (value.Folder m) e at = let no_ : Some Exists ≡ Some e = at in cc
  only_exists (value.Link m l) e at = let no_ : None ≡ Some e = at in cc
  only_exists (value.File k) e at = let no_ : None ≡ Some e = at in cc

  refused : (e : FsErr) → no_move stage t.at v.now ≡ Some e → refuses_in phase.Replace t v e
  refused e why =
      let r : if_folder (v.now.at t.at) ≡ Some e = sym refusal ∙ why in
      let x = only_exists (v.now.at t.at) e r in
      subst (refuses_in phase.Replace t v) (sym x) (folder_there (v.now.at t.at) (r ∙ ap Some x))

  fails : (e : FsErr) (view : Option View) → Fails (no_move stage t.at v.now) v (moved stage t.at v) e view → refuses_in phase.Replace t v e
  fails Failed view why = tt
  fails NoMemory view why = tt
  fails Exists view why = refused Exists why.0
  fails Missing view why = refused Missing why.0
  fails NotFolder view why = refused NotFolder why.0
  fails NotEmpty view why = refused NotEmpty why.0

  -- the same, by what the call answered, for the paths that it had and the task as its caller saw it
  module _ (u : Putting) (same : t ≡ u) (from : Path) (staged_at : from ≡ stage) where
    written_to : Writes (WritesOf u v) v (moved stage t.at v)
    written_to = subst (λ a. Writes (WritesOf a v) v (moved stage t.at v)) same replace_writes

    failed_at : (e : FsErr) (view : Option View) → Fails (no_move from t.at v.now) v (moved from t.at v) e view → Fails (no_move stage t.at v.now) v (moved stage t.at v) e view
    failed_at e view why = subst (λ p. Fails (no_move p t.at v.now) v (moved p t.at v) e view) staged_at why

    pub replace_apart : one_inode (v.now.at from) (v.now.at t.at) ≡ false
    replace_apart = subst (λ p. one_inode (v.now.at p) (v.now.at t.at) ≡ false) (sym staged_at) two_inodes

    pub replace_err_writes : (e : FsErr) (view : Option View) → Fails (no_move from t.at v.now) v (moved from t.at v) e view → Told view (λ x. Writes (WritesOf u v) v x)
    replace_err_writes e view why = Fails-writes (WritesOf u v) (no_move stage t.at v.now) v (moved stage t.at v) e view (failed_at e view why) written_to

    pub replace_err_fails : (e : FsErr) (view : Option View) → Fails (no_move from t.at v.now) v (moved from t.at v) e view → Refuses u v e
    replace_err_fails e view why = subst (λ a. Refuses a v e) same (subst (λ ph. refuses_in ph t v e) (sym is) (fails e view (failed_at e view why)))

    pub replace_ok_writes : (view : Option View) → (no_move from t.at v.now ≡ None) × (view ≡ Some (moved from t.at v)) → Told view (λ x. Writes (WritesOf u v) v x)
    replace_ok_writes view done = (moved stage t.at v, done.1 ∙ ap (λ p. Some (moved p t.at v)) staged_at, written_to)

    pub replace_ok_after : (view : Option View) → (no_move from t.at v.now ≡ None) × (view ≡ Some (moved from t.at v)) → Told view (Needs (record t { phase = phase.Ended }))
    replace_ok_after view done = (moved stage t.at v, done.1 ∙ ap (λ p. Some (moved p t.at v)) staged_at, replaced)

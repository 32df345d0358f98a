-- From what the calls answered to what a step says of a told view.
use Rattle.std.proofs.Common.{◌≡◌, ℕ, ◌<◌, ◌+◌, List, Bool, true, false, refl, sym, ◌∙◌, ap, subst, [], ◌++◌, length, get_or, Option, Some, None, Result, Ok, Err, append-nil, if◌then◌else◌}
use Rattle.std.specs.Prelude.{nat_lt, IsErrOf}
use Rattle.ost_types.specs.declared.meta.Meta.{Meta}
use Rattle.ost_types.specs.declared.node.NodeName.{NodeName}
use Rattle.ost_types.specs.declared.node.NodeName.TheVariants.{Folder, Leaf}
use Rattle.ost_types.specs.Path.{Path}
use Rattle.ost_types.specs.PathMap.{Nodes}
use Rattle.fs_trait.specs.declared.types.FsErr.{FsErr}
use Rattle.fs_trait.specs.declared.types.FsErr.TheVariants.{NoMemory}
use Rattle.fs_trait.specs.declared.types.Value.{Value}
use Rattle.fs_trait.specs.declared.types.Value.TheVariants as value
use Rattle.fs_trait.specs.declared.task.StepResult.{StepResult}
use Rattle.fs_trait.specs.declared.task.StepResult.TheVariants.{More, Done}
use Rattle.fs_trait.specs.View.{View, named}
use Rattle.fs_trait.specs.Image.{IsTree, Told}
use Rattle.fs_trait.specs.Effect.{Fails, OfNone, no_new}
use Rattle.fs_trait.specs.Seen.{Seen, Vacant, seen, shows}
use Rattle.fs_trait.specs.Change.{Writes}
use Rattle.fs_trait.proofs.Answering.{Step, err_fails, err_unchanged, err_writes}
use Rattle.fs_trait.proofs.Facts.{vacant_absent}
use Rattle.fs_trait.proofs.Kept.{same_view, weaker}
use Rattle.file_copy.specs.Copying as copying
use Rattle.file_copy.specs.Copying.{Copying}
use Rattle.file_copy.specs.CopySteps as copies
use Rattle.file_copy.proofs.PutLemmas.{IsSameCopy, copy_same}
use Rattle.checkout.specs.CheckoutWork.{Answer, IsNumber}
use Rattle.checkout.specs.CheckoutSteps.{value_of}
use Rattle.checkout.proofs.CheckoutMaps.{found_at, root_first, some_first}
use Rattle.checkout.proofs.RemoveBelow.{absent_below}
use Rattle.tree_copy.specs.declared.phase.TreePhase.TheVariants.{Begin, Make, Copy}
use Rattle.tree_copy.specs.TreeFolder.{IsSource}
use Rattle.tree_copy.specs.TreeNode.{Begins, HasSource, begins_as, source_of}
use Rattle.tree_copy.specs.TreeWork.{IsCopying, IsMade, IsPair, IsWithin, TreeCopying, copied, copied_turn, is_whole, reached, reached_turn}
use Rattle.tree_copy.specs.TreeSteps.{Copies, IsMadeOf, IsToldStep, Makes, Needs, Ready, Tells, WritesOf, needs_in, tells_in, writes_in}
use Rattle.tree_copy.proofs.TreeCopies.{copied_needs}
use Rattle.tree_copy.proofs.TreeMaking.{IsPlain, copy_begins, make_step}

-- ---- any step

not_err : (turn : StepResult Answer) → IsErrOf {T = StepResult Answer} (Ok turn) NoMemory → ⊥
not_err turn is = let no_ : Ok turn ≡ Err NoMemory = is in cc

pub told_ok : (old new : TreeCopying) (v w : View) (turn : StepResult Answer) (view : Option View) → view ≡ Some w → Writes (WritesOf old v) v w → Needs new w → Tells old v w turn → IsToldStep old new v (Ok turn) view
told_ok old new v w turn view is writes after tells = record { writes = (w, is, writes); after = (w, is, after); tells = (w, is, tells); fails = tt; unchanged = λ e. absurd (not_err turn e) }

-- one that wasn't done, with no changing call
pub told_quiet : (old new : TreeCopying) (v : View) (e : FsErr) (view : Option View) → view ≡ Some v → OfNone e → IsToldStep old new v (Err e) view
told_quiet old new v e view is of = record { writes = (v, is, same_view (WritesOf old v) v); after = tt; tells = tt; fails = of; unchanged = λ m. is }

-- and with one
pub told_fails : (old new : TreeCopying) (v : View) (After : View → Type 0) (refusal : Option FsErr) (w : View) → Step (WritesOf old v) After v refusal w
    → (e : FsErr) (view : Option View) → Fails refusal v w e view → IsToldStep old new v (Err e) view
told_fails old new v After refusal w step e view why = record {
  writes = err_writes (WritesOf old v) After v refusal w step e view why;
  after = tt;
  tells = tt;
  fails = err_fails (WritesOf old v) After v refusal w step OfNone tt tt e view why;
  unchanged = err_unchanged {T = StepResult Answer} refusal v w e view why;
}

-- the same, as its caller saw the task
pub told_as : (t u new got : TreeCopying) → t ≡ u → new ≡ got → (v : View) (r : Result (StepResult Answer) FsErr) (view : Option View) → IsToldStep t new v r view → IsToldStep u got v r view
told_as t u new got same next v r view told = subst (λ a. IsToldStep u a v r view) next (subst (λ a. IsToldStep a new v r view) same told)

-- the same where the node is made
pub reached_as : (k n : ℕ) (t u got : TreeCopying) (turn : StepResult Answer) → k ≡ n → t ≡ u → got ≡ reached n t → turn ≡ reached_turn n t → (v : View) (view : Option View)
    → IsToldStep t (reached k t) v (Ok (reached_turn k t)) view → IsToldStep u got v (Ok turn) view
reached_as k n t u got turn number same next turns v view told =
    let here : IsToldStep t (reached n t) v (Ok (reached_turn n t)) view = subst (λ i. IsToldStep t (reached i t) v (Ok (reached_turn i t)) view) number told in
    told_as t u (reached n t) got same (sym next) v (Ok turn) view (subst (λ x. IsToldStep t (reached n t) v (Ok x) view) (sym turns) here)

-- ---- which node it is

pub number_of : (tree items : Nodes) (n : ℕ) → items ≡ tree → n < length tree → (e : Path × NodeName) → e ≡ get_or items n e → IsNumber tree n e
number_of tree items n same inside e is = (inside, ap (λ (m : Nodes). get_or m n e) (sym same) ∙ sym is)

pub number_make : (t : TreeCopying) (n : ℕ) → IsMade t → t.phase ≡ Make n → (items : Nodes) → items ≡ t.tree → (e : Path × NodeName) → e ≡ get_or items n e → IsNumber t.tree n e
number_make t n made is items same e at = number_of t.tree items n same (subst (λ ph. IsWithin ph t.into t.tree) is made.within) e at

pub number_first : (t : TreeCopying) → IsMade t → (items : Nodes) → items ≡ t.tree → (e : Path × NodeName) → e ≡ get_or items 0 e → IsNumber t.tree 0 e
number_first t made items same e at = number_of t.tree items 0 same (some_first t.tree [] (Folder made.placed.shape.root.0) made.placed.shape.root.1) e at

-- the first one is a folder
pub first_folder : (t : TreeCopying) → IsMade t → (e : Path × NodeName) → IsNumber t.tree 0 e → (sum : List ℕ) → e.1 ≡ Leaf sum → ⊥
first_folder t made e number sum leaf =
    let root = root_first t.tree e (Folder made.placed.shape.root.0) made.map.ascending number.0 number.1 made.placed.shape.root.1 in
    let no_ : Leaf sum ≡ Folder made.placed.shape.root.0 = sym leaf ∙ root.1 in
    cc

pub copying_is : (k n : ℕ) (c : Copying) (t u : TreeCopying) → t ≡ u → t.phase ≡ Copy k c → IsCopying n u.phase → k ≡ n
copying_is k n c t u same is at = subst (IsCopying n) (sym (ap (λ (a : TreeCopying). a.phase) same) ∙ is) at

-- ---- the first step

module _ (t : TreeCopying) (v : View) (tree : IsTree v.now) (made : IsMade t) (is : t.phase ≡ Begin) (needs : Needs t v) where
  module _ (vacant : shows v.now t.into ≡ Vacant) where
    first : needs_in Begin t v
    first = subst (λ ph. needs_in ph t v) is needs

    ready : Ready 0 t v.now
    ready = record { home = first.0; made = λ p. ap (seen v.now) (absent_below v.now tree t.into p (vacant_absent v.now t.into vacant)); sources = first.1 }

    first_tells : (w : View) (b : Bool) → tells_in Begin t.into v w (if b then More else Done (Ok tt))
    first_tells w true = vacant
    first_tells w false = vacant

    -- the first node is the folder itself
    module _ (e : Path × NodeName) (number : IsNumber t.tree 0 e) (m : Meta) (folder : e.1 ≡ Folder m) where
      root : (e.0 ≡ []) × (e.1 ≡ Folder made.placed.shape.root.0)
      root = root_first t.tree e (Folder made.placed.shape.root.0) made.map.ascending number.0 number.1 made.placed.shape.root.1

      root_at : t.into ++ e.0 ≡ t.into
      root_at = ap (λ q. t.into ++ q) root.0 ∙ append-nil t.into

      folder_value : value.Folder m ≡ value_of e.1 v.now
      folder_value = ap (λ k. value_of k v.now) (sym folder)

      writes_first : (p : Path) (s : Seen) → Makes 0 t v p s → WritesOf t v p s
      writes_first p s a =
          let r = root_first t.tree a.0 (Folder made.placed.shape.root.0) made.map.ascending a.1.0 a.1.1 made.placed.shape.root.1 in
          subst (λ ph. writes_in ph t v p s) (sym is)
          (made.placed.shape.root.0, made.placed.shape.root.1, a.2 ∙ ap (λ q. t.into ++ q) r.0 ∙ append-nil t.into, a.3, subst (λ y. IsMadeOf y s) (ap (λ k. value_of k v.now) r.1) a.4)

      root_step : Step (WritesOf t v) (Needs (reached 0 t)) v (no_new t.into v.now) (named t.into (value.Folder m) v)
      root_step =
          let made_ = make_step 0 t e v tree made ready number (value.Folder m) folder_value tt in
          subst (λ q. Step (WritesOf t v) (Needs (reached 0 t)) v (no_new q v.now) (named q (value.Folder m) v)) root_at
          (record { free = made_.free; writes = weaker (Makes 0 t v) (WritesOf t v) v (named (t.into ++ e.0) (value.Folder m) v) writes_first made_.writes; after = made_.after })

      pub root_fails : (f : FsErr) (view : Option View) → Fails (no_new t.into v.now) v (named t.into (value.Folder m) v) f view → IsToldStep t t v (Err f) view
      root_fails f view why = told_fails t t v (Needs (reached 0 t)) (no_new t.into v.now) (named t.into (value.Folder m) v) root_step f view why

      pub root_made : (view : Option View) → (no_new t.into v.now ≡ None) × (view ≡ Some (named t.into (value.Folder m) v)) → IsToldStep t (reached 0 t) v (Ok (reached_turn 0 t)) view
      root_made view done = told_ok t (reached 0 t) v (named t.into (value.Folder m) v) (reached_turn 0 t) view done.1 root_step.writes root_step.after
          (subst (λ ph. tells_in ph t.into v (named t.into (value.Folder m) v) (reached_turn 0 t)) (sym is) (first_tells (named t.into (value.Folder m) v) (nat_lt (0 + 1) (length t.tree))))

-- ---- each other node

module _ (n : ℕ) (t : TreeCopying) (v : View) (tree : IsTree v.now) (made : IsMade t) (is : t.phase ≡ Make n) (needs : Needs t v) (e : Path × NodeName) (number : IsNumber t.tree n e) where
  ready_in : Ready n t v.now
  ready_in = subst (λ ph. needs_in ph t v) is needs

  source_in : (node : NodeName) → e.1 ≡ node → HasSource node v.now
  source_in (Folder m) same = tt
  source_in (Leaf sum) same = ready_in.sources e.0 sum (found_at t.tree n e made.map.ascending number.0 number.1 ∙ ap Some same)

  -- the object of a leaf is there
  pub has_source : HasSource e.1 v.now
  has_source = source_in e.1 refl

  step : (z : Value) → z ≡ value_of e.1 v.now → IsPlain z → Step (WritesOf t v) (Needs (reached n t)) v (no_new (t.into ++ e.0) v.now) (named (t.into ++ e.0) z v)
  step z same plain = subst (λ ph. Step (writes_in ph t v) (Needs (reached n t)) v (no_new (t.into ++ e.0) v.now) (named (t.into ++ e.0) z v)) (sym is)
      (make_step n t e v tree made ready_in number z same plain)

  some_there : (node : NodeName) → e.1 ≡ node → value.Absent ≡ value_of node v.now → ⊥
  some_there (Folder m) same at = let no_ : value.Absent ≡ value.Folder m = at in cc
  some_there (Leaf sum) same at = subst IsSource (ap (seen v.now) (sym at)) (source_in (Leaf sum) same)

  -- its making failed,
  fails_as : (z : Value) → z ≡ value_of e.1 v.now → (f : FsErr) (view : Option View) → begins_as z (source_of e.1) (t.into ++ e.0) v (Err f) view → IsToldStep t t v (Err f) view
  fails_as value.Absent same f view why = absurd (some_there e.1 refl same)
  fails_as (value.Folder m) same f view why = told_fails t t v (Needs (reached n t)) (no_new (t.into ++ e.0) v.now) (named (t.into ++ e.0) (value.Folder m) v) (step (value.Folder m) same tt) f view why.0
  fails_as (value.Link m target) same f view why = told_fails t t v (Needs (reached n t)) (no_new (t.into ++ e.0) v.now) (named (t.into ++ e.0) (value.Link m target) v) (step (value.Link m target) same tt) f view why.0
  fails_as (value.File k) same f view why = told_quiet t t v f view why.0 why.1

  pub node_fails : (at : Path) → at ≡ t.into ++ e.0 → (f : FsErr) (view : Option View) → Begins e.1 at v (Err f) view → IsToldStep t t v (Err f) view
  node_fails at here f view why = fails_as (value_of e.1 v.now) refl f view (subst (λ q. Begins e.1 q v (Err f) view) here why)

  -- it is made,
  tells_more : (w : View) (turn : StepResult Answer) → Tells t v w turn
  tells_more w turn = subst (λ ph. tells_in ph t.into v w turn) (sym is) tt

  makes_as : (z : Value) → z ≡ value_of e.1 v.now → (view : Option View) → begins_as z (source_of e.1) (t.into ++ e.0) v (Ok None) view → IsToldStep t (reached n t) v (Ok (reached_turn n t)) view
  makes_as value.Absent same view done = absurd (some_there e.1 refl same)
  makes_as (value.Folder m) same view done =
      let s = step (value.Folder m) same tt in
      let w = named (t.into ++ e.0) (value.Folder m) v in
      told_ok t (reached n t) v w (reached_turn n t) view done.0.1 s.writes s.after (tells_more w (reached_turn n t))
  makes_as (value.Link m target) same view done =
      let s = step (value.Link m target) same tt in
      let w = named (t.into ++ e.0) (value.Link m target) v in
      told_ok t (reached n t) v w (reached_turn n t) view done.0.1 s.writes s.after (tells_more w (reached_turn n t))
  makes_as (value.File k) same view done = let no_ : None ≡ Some (copying.begun (source_of e.1) (t.into ++ e.0) (v.now.meta k)) = done.1 in cc

  pub node_made : (at : Path) → at ≡ t.into ++ e.0 → (r : Result (Option Copying) FsErr) → r ≡ Ok None → (view : Option View) → Begins e.1 at v r view → IsToldStep t (reached n t) v (Ok (reached_turn n t)) view
  node_made at here r ok view done = makes_as (value_of e.1 v.now) refl view (subst (λ q. Begins e.1 q v (Ok None) view) here (subst (λ x. Begins e.1 at v x view) ok done))

  -- or its copy begins.
  copies_of : (node : NodeName) → e.1 ≡ node → (k : ℕ) → value.File k ≡ value_of node v.now → Copies n (copying.begun (source_of node) (t.into ++ e.0) (v.now.meta k)) (record t { phase = Copy n (copying.begun (source_of node) (t.into ++ e.0) (v.now.meta k)) }) v
  copies_of (Folder m) same k at = let no_ : value.File k ≡ value.Folder m = at in cc
  copies_of (Leaf sum) same k at = copy_begins n t e v tree made ready_in number sum same k (sym at)

  begins_with : (z : Value) → z ≡ value_of e.1 v.now → (c : Copying) (view : Option View) → begins_as z (source_of e.1) (t.into ++ e.0) v (Ok (Some c)) view
      → IsToldStep t (record t { phase = Copy n c }) v (Ok More) view
  begins_with value.Absent same c view done = absurd (some_there e.1 refl same)
  begins_with (value.Folder m) same c view done = let no_ : Some c ≡ None = done.1 in cc
  begins_with (value.Link m target) same c view done = let no_ : Some c ≡ None = done.1 in cc
  begins_with (value.File k) same c view done =
      let begun_ : Some c ≡ Some (copying.begun (source_of e.1) (t.into ++ e.0) (v.now.meta k)) = done.1 in
      let is_ : copying.begun (source_of e.1) (t.into ++ e.0) (v.now.meta k) ≡ c = cc in
      told_ok t (record t { phase = Copy n c }) v v More view done.0 (same_view (WritesOf t v) v) (subst (λ d. Copies n d (record t { phase = Copy n d }) v) is_ (copies_of e.1 refl k same)) (tells_more v More)

  pub node_begins : (at : Path) → at ≡ t.into ++ e.0 → (r : Result (Option Copying) FsErr) (c : Copying) → r ≡ Ok (Some c) → (view : Option View) → Begins e.1 at v r view → IsToldStep t (record t { phase = Copy n c }) v (Ok More) view
  node_begins at here r c ok view done = begins_with (value_of e.1 v.now) refl c view (subst (λ q. Begins e.1 q v (Ok (Some c)) view) here (subst (λ x. Begins e.1 at v x view) ok done))

-- ---- a step of the copy of a file

told_both : (P Q R : View → Type 0) (view : Option View) → ((w : View) → P w → Q w → R w) → Told view P → Told view Q → Told view R
told_both P Q R view both a b = let same : b.0 ≡ a.0 = cc (a.1, b.1) in (a.0, a.1, both a.0 a.2 (subst Q same b.2))

module _ (n : ℕ) (c : Copying) (t : TreeCopying) (v : View) (made : IsMade t) (is : t.phase ≡ Copy n c) (needs : Needs t v) where
  copies_in : Copies n c t v
  copies_in = subst (λ ph. needs_in ph t v) is needs

  pub copy_in : copies.Needs c v
  copy_in = copies_in.copy

  pair_in : IsPair n c t.into t.tree
  pair_in = subst (λ ph. IsWithin ph t.into t.tree) is made.within

  writes_on : (view : Option View) → Told view (λ w. Writes (copies.WritesOf c v) v w) → Told view (λ w. Writes (WritesOf t v) v w)
  writes_on view told = (told.0, told.1, subst (λ ph. Writes (writes_in ph t v) v told.0) (sym is) told.2)

  pub copy_on : (d : Copying) → IsSameCopy c d → (view : Option View) → Told view (λ w. Writes (copies.WritesOf c v) v w) → Told view (λ w. copies.Needs d w)
      → IsToldStep t (copied n d t) v (Ok (copied_turn n d t)) view
  copy_on d same view writes after = record {
    writes = writes_on view writes;
    after = told_both (λ w. Writes (copies.WritesOf c v) v w) (λ w. copies.Needs d w) (λ w. Needs (copied n d t) w) view (λ w wrote next. copied_needs n c t v made pair_in copies_in d same w wrote next) writes after;
    tells = (writes.0, writes.1, subst (λ ph. tells_in ph t.into v writes.0 (copied_turn n d t)) (sym is) tt);
    fails = tt;
    unchanged = λ e. absurd (not_err (copied_turn n d t) e);
  }

  -- once all bytes are there the node is made
  pub copy_ends : (d : Copying) → IsSameCopy c d → is_whole d.phase ≡ true → (view : Option View) → Told view (λ w. Writes (copies.WritesOf c v) v w) → Told view (λ w. copies.Needs d w)
      → IsToldStep t (reached n t) v (Ok (reached_turn n t)) view
  copy_ends d same whole view writes after =
      subst (λ b. IsToldStep t (if b then reached n t else record t { phase = Copy n d }) v (Ok (if b then reached_turn n t else More)) view) whole (copy_on d same view writes after)

  pub copy_goes : (d : Copying) → IsSameCopy c d → is_whole d.phase ≡ false → (view : Option View) → Told view (λ w. Writes (copies.WritesOf c v) v w) → Told view (λ w. copies.Needs d w)
      → IsToldStep t (record t { phase = Copy n d }) v (Ok More) view
  copy_goes d same more view writes after =
      subst (λ b. IsToldStep t (if b then reached n t else record t { phase = Copy n d }) v (Ok (if b then reached_turn n t else More)) view) more (copy_on d same view writes after)

-- no step of it changes its paths and attributes
goes_same : (old new : Copying) (turn : StepResult (Unit {0})) → copying.IsStepped {T = Unit {0}} old (Ok turn) new → IsSameCopy old new
goes_same old new More stepped = copy_same old new stepped.0
goes_same old new (Done x) stepped = copy_same old new stepped.0

pub same_step : (old new : Copying) (r : Result (StepResult (Unit {0})) FsErr) (turn : StepResult (Unit {0})) → r ≡ Ok turn → copying.IsStepped old r new → IsSameCopy old new
same_step old new r turn is stepped = goes_same old new turn (subst (λ x. copying.IsStepped old x new) is stepped)

-- What each step of a copy writes and leaves: that of a file which is staged with the same bytes.
use Rattle.std.proofs.Common.{◌≡◌, ◌≢◌, ℕ, ◌≤◌, ◌<◌, ◌+◌, ◌-◌, arith, false, refl, sym, ◌∙◌, ap, subst, List, [], length, Option, Some, Err, Result, if◌then◌else◌}
use Rattle.std.specs.Prelude.{nat_lt, IsErrOf}
use Rattle.ost_types.specs.Path.{Path}
use Rattle.fs_trait.specs.declared.types.Value.TheVariants.{Absent}
use Rattle.fs_trait.specs.declared.types.FsErr.{FsErr}
use Rattle.fs_trait.specs.declared.types.FsErr.TheVariants.{NoMemory}
use Rattle.fs_trait.specs.View.{View, named, created, extended, file_synced}
use Rattle.fs_trait.specs.Image.{IsTree, reads}
use Rattle.fs_trait.specs.Effect.{Fails, IsFresh, inode_of, no_new, no_file, no_leaf, part}
use Rattle.fs_trait.specs.Seen.{Seen, bytes_in}
use Rattle.fs_trait.specs.Change.{Writes}
use Rattle.fs_trait.proofs.Claims.{reads_shows}
use Rattle.fs_trait.proofs.Facts.{shows_kept}
use Rattle.fs_trait.proofs.Kept.{weaker}
use Rattle.fs_trait.proofs.Answering.{Step}
use Rattle.staging.specs.declared.phase.Phase.{Phase}
use Rattle.staging.specs.declared.phase.Phase.TheVariants.{Clear, Create, Append, SyncFile, Ended}
use Rattle.staging.specs.Draft as staged
use Rattle.staging.specs.Draft.{is_last}
use Rattle.staging.specs.Steps as staging
use Rattle.staging.proofs.StepLemmas as lemma
use Rattle.file_copy.specs.Pieces.{piece_end}
use Rattle.file_copy.specs.Copying.{Copying, draft, filled, goes_in}
use Rattle.file_copy.specs.CopySteps.{Needs, WritesOf}
use Rattle.file_copy.proofs.PieceLemmas.{length_part}

-- ---- what is read where nothing is written

pub reads_kept : (W : Path → Seen → Type 0) (v w : View) (p : Path) → Writes W v w → ((s : Seen) → W p s → ⊥) → reads w.now p ≡ reads v.now p
reads_kept W v w p writes spared = reads_shows w.now p ∙ ap bytes_in (shows_kept W v w p writes spared) ∙ sym (reads_shows v.now p)

-- ---- what staging writes doesn't depend on the bytes

alike : (ph : Phase) (t : Copying) (bytes : List ℕ) (v : View) (p : Path) (s : Seen) → staging.writes_in ph (draft t bytes) v p s → staging.writes_in ph (draft t []) v p s
alike Clear t bytes v p s a = a
alike Create t bytes v p s a = a
alike Append t bytes v p s a = a
alike SyncFile t bytes v p s a = a
alike Ended t bytes v p s a = a

pub written : (t : Copying) (bytes : List ℕ) (v w : View) → Writes (staging.WritesOf (draft t bytes) v) v w → Writes (WritesOf t v) v w
written t bytes v w writes = weaker (staging.WritesOf (draft t bytes) v) (WritesOf t v) v w (alike t.phase t bytes v) writes

back : (ph : Phase) (t : Copying) (bytes : List ℕ) (v : View) (p : Path) (s : Seen) → staging.writes_in ph (draft t []) v p s → staging.writes_in ph (draft t bytes) v p s
back Clear t bytes v p s a = a
back Create t bytes v p s a = a
back Append t bytes v p s a = a
back SyncFile t bytes v p s a = a
back Ended t bytes v p s a = a

pub unalike : (t : Copying) (bytes : List ℕ) (v : View) (p : Path) (s : Seen) → WritesOf t v p s → staging.WritesOf (draft t bytes) v p s
unalike t bytes v p s a = back t.phase t bytes v p s a

stage_alone : (ph : Phase) (t : Copying) (v : View) (p : Path) (s : Seen) → staging.writes_in ph (draft t []) v p s → p ≡ t.stage
stage_alone Clear t v p s a = a.0
stage_alone Create t v p s a = a.0
stage_alone Append t v p s a = a.0
stage_alone SyncFile t v p s a = absurd a
stage_alone Ended t v p s a = absurd a

-- a copy writes at its staging path alone
pub at_stage : (t : Copying) (v : View) (p : Path) (s : Seen) → WritesOf t v p s → p ≡ t.stage
at_stage t v p s a = stage_alone t.phase t v p s a

-- ---- a step

module _ (t : Copying) (v : View) (needs : Needs t v) where
  pub source_kept : (w : View) → Writes (WritesOf t v) v w → reads w.now t.from ≡ Some needs.bytes
  source_kept w writes = reads_kept (WritesOf t v) v w t.from writes (λ s a. needs.apart (at_stage t v t.from s a)) ∙ needs.source

  -- the task after a step of staging
  after : (new : Copying) → new.from ≡ t.from → new.stage ≡ t.stage → (new.phase ≡ Append → new.size ≡ length needs.bytes) → (w : View) → Writes (WritesOf t v) v w → staging.Needs (draft new needs.bytes) w → Needs new w
  after new from stage sized w writes staged = record {
    apart = λ e. needs.apart (sym from ∙ e ∙ stage);
    bytes = needs.bytes;
    source = ap (reads w.now) from ∙ source_kept w writes;
    sized = sized;
    staged = staged;
  }

  goes : (new : Copying) → new.from ≡ t.from → new.stage ≡ t.stage → (new.phase ≡ Append → new.size ≡ length needs.bytes) → (refusal : Option FsErr) (w : View)
      → lemma.Step (draft t needs.bytes) (draft new needs.bytes) v refusal w → Step (WritesOf t v) (Needs new) v refusal w
  goes new from stage sized refusal w step =
      let writes = written t needs.bytes v w step.writes in
      record { free = step.free; writes = writes; after = after new from stage sized w writes step.after }

  -- so many bytes are staged, of so many
  module _ (n size : ℕ) (is : size ≡ length needs.bytes) where
    abbrev pub then : Copying
    then = filled n (record t { size = size })

    as_filled : staged.filled n (draft t needs.bytes) ≡ draft (filled n (record t { size = size })) needs.bytes
    as_filled = ap (λ k. draft (record t { size = size; written = n; phase = if nat_lt n k then Append else SyncFile }) needs.bytes) (sym is)

    fills : (refusal : Option FsErr) (w : View) → lemma.Step (draft t needs.bytes) (staged.filled n (draft t needs.bytes)) v refusal w
        → Step (WritesOf t v) (Needs (filled n (record t { size = size }))) v refusal w
    fills refusal w step =
        goes (filled n (record t { size = size })) refl refl (λ _. is) refusal w (subst (λ d. lemma.Step (draft t needs.bytes) d v refusal w) as_filled step)

  module _ (tree : IsTree v.now) where
    -- 1. what an earlier task left
    pub clear_vacant : t.phase ≡ Clear → v.now.at t.stage ≡ Absent → Needs (record t { phase = Create }) v
    clear_vacant is absent = record {
      apart = needs.apart;
      bytes = needs.bytes;
      source = needs.source;
      sized = λ e. let no_ : Create ≡ Append = e in cc;
      staged = lemma.clear_vacant (draft t needs.bytes) v tree needs.staged is absent;
    }

    pub clear : t.phase ≡ Clear → v.now.at t.stage ≢ Absent → Step (WritesOf t v) (Needs (record t { phase = Create })) v (no_leaf t.stage v.now) (named t.stage Absent v)
    clear is there = goes (record t { phase = Create }) refl refl (λ e. let no_ : Create ≡ Append = e in cc) _ _ (lemma.clear (draft t needs.bytes) v tree needs.staged is there)

    -- 2. the empty file
    pub create : (size : ℕ) → size ≡ length needs.bytes → (n : ℕ) → IsFresh n v → t.phase ≡ Create
        → Step (WritesOf t v) (Needs (filled 0 (record t { size = size }))) v (no_new t.stage v.now) (created t.stage t.meta n v)
    create size counted n fresh is = fills 0 size counted _ _ (lemma.create (draft t needs.bytes) v tree needs.staged n fresh is)

    -- 3. a piece of its bytes
    pub append : (end : ℕ) → t.written ≤ end → t.phase ≡ Append
        → Step (WritesOf t v) (Needs (filled end t)) v (no_file t.stage v.now) (extended (inode_of (v.now.at t.stage)) (part t.written (end - t.written) needs.bytes) v)
    append end le is = fills end t.size (needs.sized is) _ _ (lemma.append (draft t needs.bytes) v tree needs.staged needs.bytes refl end le is)

    pub counted : (got : List ℕ) (end : ℕ) → t.written ≤ end → end ≤ t.size → got ≡ part t.written (end - t.written) needs.bytes → t.phase ≡ Append → t.written + length got ≡ end
    counted got end le within read is =
        let sized = needs.sized is in
        let long = length_part t.written end needs.bytes le (omega (arith, within, sized)) in
        omega (arith, ap length read, long, le)

    -- what was read of it
    pub append_piece : (got : List ℕ) (end : ℕ) → t.written ≤ end → end ≤ t.size → got ≡ part t.written (end - t.written) needs.bytes → t.phase ≡ Append
        → Step (WritesOf t v) (Needs (filled (t.written + length got) t)) v (no_file t.stage v.now) (extended (inode_of (v.now.at t.stage)) got v)
    append_piece got end le within read is =
        subst (λ g. Step (WritesOf t v) (Needs (filled (t.written + length got) t)) v (no_file t.stage v.now) (extended (inode_of (v.now.at t.stage)) g v)) (sym read)
        (subst (λ n. Step (WritesOf t v) (Needs (filled n t)) v (no_file t.stage v.now) (extended (inode_of (v.now.at t.stage)) (part t.written (end - t.written) needs.bytes) v)) (sym (counted got end le within read is)) (append end le is))

    -- 4. its sync
    pub sync_file : t.phase ≡ SyncFile → Step (WritesOf t v) (Needs (record t { phase = Ended })) v (no_file t.stage v.now) (file_synced (inode_of (v.now.at t.stage)) v)
    sync_file is = goes (record t { phase = Ended }) refl refl (λ e. let no_ : Ended ≡ Append = e in cc) _ _ (lemma.sync_file (draft t needs.bytes) v tree needs.staged is)

-- ---- a step, as its caller saw the task

pub as_is : (t u : Copying) → t ≡ u → (v : View) (After : View → Type 0) (refusal : Option FsErr) (w : View) → Step (WritesOf t v) After v refusal w → Step (WritesOf u v) After v refusal w
as_is t u same v After refusal w step = subst (λ a. Step (WritesOf a v) After v refusal w) same step

pub comes_to : (W : Path → Seen → Type 0) (new got : Copying) → new ≡ got → (v : View) (refusal : Option FsErr) (w : View) → Step W (Needs new) v refusal w → Step W (Needs got) v refusal w
comes_to W new got is v refusal w step = subst (λ a. Step W (Needs a) v refusal w) is step

pub filled_as : (t u got : Copying) (size n : ℕ) → t ≡ u → got ≡ filled n (record u { size = size }) → filled n (record t { size = size }) ≡ got
filled_as t u got size n same is = ap (λ (x : Copying). filled n (record x { size = size })) same ∙ sym is

pub pieced : (t u got : Copying) (size n end : ℕ) → t ≡ u → got ≡ filled n (record u { size = size }) → n ≡ end → end ≡ piece_end t.size t.written → got.written ≡ piece_end u.size u.written
pieced t u got size n end same is counts ends = ap (λ (x : Copying). x.written) is ∙ counts ∙ ends ∙ ap (λ (x : Copying). piece_end x.size x.written) same

-- which step it was
pub append_goes : (t u got : Copying) (n end : ℕ) → t ≡ u → u.phase ≡ Append → got ≡ filled n (record u { size = t.size }) → t.written < n → n ≤ end → end ≡ piece_end t.size t.written
    → goes_in u.phase u got × (is_last u.phase ≡ false)
append_goes t u got n end same at is grows within ends =
    let size_ : t.size ≡ u.size = ap (λ (x : Copying). x.size) same in
    let from : t.written ≡ u.written = ap (λ (x : Copying). x.written) same in
    let to : end ≡ piece_end u.size u.written = ends ∙ ap (λ (x : Copying). piece_end x.size x.written) same in (
      subst (λ ph. goes_in ph u got) (sym at) (n, omega (arith, grows, from), omega (arith, within, to), is ∙ ap (λ k. filled n (record u { size = k })) size_),
      ap is_last at,
    )

-- a call that wants for memory leaves the view as it was
pub unchanged_as : {T : Type 0} (e : FsErr) (r : Result T FsErr) → r ≡ Err e → (f : FsErr) → e ≡ f → IsErrOf r NoMemory → (refusal : Option FsErr) (v w : View) (view : Option View) → Fails refusal v w f view → view ≡ Some v
unchanged_as {T} e r is f same memory refusal v w view fails =
    let m : IsErrOf {T = T} (Err e) NoMemory = subst (λ x. IsErrOf x NoMemory) is memory in
    let n : e ≡ NoMemory = cc in
    subst (λ x. Fails refusal v w x view) (sym same ∙ n) fails

-- A step of staging, as one of the task.
use Rattle.std.proofs.Common.{◌≡◌, ◌⊎◌, inl, ⊎_elim, ℕ, ◌≤◌, ◌<◌, ◌+◌, arith, Bool, true, false, refl, sym, ◌∙◌, ap, subst, Result, Ok, Err, length, if◌then◌else◌}
use Rattle.std.specs.Prelude.{nat_lt, OnOk}
use Rattle.ost_types.specs.Path.{Path}
use Rattle.fs_trait.specs.declared.types.FsErr.{FsErr}
use Rattle.fs_trait.specs.declared.types.FsErr.TheVariants.{Failed, NoMemory}
use Rattle.fs_trait.specs.declared.task.StepResult.{StepResult}
use Rattle.fs_trait.specs.declared.task.StepResult.TheVariants.{More, Done}
use Rattle.fs_trait.specs.View.{View}
use Rattle.fs_trait.specs.Seen.{Seen, Leaf, shows, MayBe}
use Rattle.fs_trait.specs.Change.{Writes, Meets, LeadsTo}
use Rattle.fs_trait.proofs.Kept.{firm_kept, weaker}
use Rattle.fs_trait.proofs.Effects.{leaf_from}
use Rattle.staging.specs.declared.phase.Phase as staging
use Rattle.staging.specs.declared.phase.Phase.TheVariants as stage
use Rattle.staging.specs.Draft as draft
use Rattle.staging.specs.Draft.{Draft}
use Rattle.staging.specs.Steps as stages
use Rattle.staging.proofs.StepLemmas.{meta_shown}
use Rattle.staging.proofs.Stable.{staging_lies}
use Rattle.staged_file.specs.declared.phase.Phase.{Phase}
use Rattle.staged_file.specs.declared.phase.Phase.TheVariants.{Clear, Create, Append, SyncFile, Replace, SyncFolder, Ended}
use Rattle.staged_file.specs.Staged.{Staged, IsStepped, KeepsRoom, Takes, draft_of, filled, is_last, is_owed, is_staging, left, left_in, next_in, owed_after, phase_of, stage_in}
use Rattle.staged_file.specs.Steps.{IsPlaced, Needs, Refuses, WritesOf, firm_in, here_in, writes_in}
use Rattle.staged_file.proofs.StepLemmas.{off_stage}
use Rattle.staged_file.proofs.Wholes.{needs_leads}

not_staging : {A : Type 0} → false ≡ true → A
not_staging on = let n : false ≡ true = on in cc

-- ---- the file, and the task around it

pub so_far : (ph : staging.Phase) → ph ≡ stage_in (phase_of ph)
so_far stage.Clear = refl
so_far stage.Create = refl
so_far stage.Append = refl
so_far stage.SyncFile = refl
so_far stage.Ended = refl

pub draft_is : (f : Draft) (ph : staging.Phase) → f.phase ≡ ph → f ≡ record f { phase = ph }
draft_is f ph is = ap (λ x. record f { phase = x }) is

-- the task with the file so far
abbrev pub with_file : Staged → Draft → Staged
with_file t d = record { stage = d.stage; folder = t.folder; at = t.at; meta = d.meta; bytes = d.bytes; lock = t.lock; phase = phase_of d.phase; written = d.written }

pub file_is : (f : Draft) (t u : Staged) → f ≡ draft_of t → t ≡ u → f ≡ draft_of u
file_is f t u is same = is ∙ ap (λ (x : Staged). draft_of x) same

pub new_is : (t u : Staged) (d : Draft) (ph : Phase) → t ≡ u → ph ≡ phase_of d.phase → record (with_file t d) { phase = ph } ≡ with_file u d
new_is t u d ph same is = ap (λ x. record (with_file t d) { phase = x }) is ∙ ap (λ (x : Staged). with_file x d) same

filled_as : (t : Staged) (n : ℕ) → with_file t (draft.filled n (draft_of t)) ≡ filled n t
filled_as t n = by (nat_lt n (length t.bytes))
  where
    by : (b : Bool) → record t { written = n; phase = phase_of (if b then stage.Append else stage.SyncFile) } ≡ record t { written = n; phase = if b then Append else SyncFile }
    by true = refl
    by false = refl

next_as : (ph : Phase) (t : Staged) → is_staging ph ≡ true → with_file t (draft.next_in (stage_in ph) (draft_of t)) ≡ next_in ph t
next_as Clear t on = refl
next_as Create t on = filled_as t 0
next_as Append t on = filled_as t (draft.piece_end (draft_of t))
next_as SyncFile t on = refl
next_as ph t on = not_staging on

not_last : (ph : Phase) → is_staging ph ≡ true → is_last ph ≡ false
not_last SyncFolder on = not_staging on
not_last Ended on = not_staging on
not_last ph on = refl

pub file_next : (old : Draft) (turn : StepResult (Unit {0})) (d : Draft) → draft.IsStepped {T = Unit {0}} old (Ok turn) d → d ≡ draft.next old
file_next old More d s = s.0
file_next old (Done x) d s = s.0

pub stage_stepped : (t : Staged) → is_staging t.phase ≡ true → (d : Draft) → d ≡ draft.next (draft_of t) → IsStepped {T = Unit {0}} t (Ok More) (with_file t d)
stage_stepped t on d is = (ap (with_file t) is ∙ next_as t.phase t on, not_last t.phase on)

-- ---- fewer steps are left, the clock, and room

left_with : (ph : staging.Phase) (t : Staged) (d : Draft) → left_in (phase_of ph) (with_file t d) ≡ draft.left_in ph d + 3
left_with stage.Clear t d = refl
left_with stage.Create t d = refl
left_with stage.Append t d = refl
left_with stage.SyncFile t d = refl
left_with stage.Ended t d = refl

left_staging : (ph : Phase) (t : Staged) → is_staging ph ≡ true → left_in ph t ≡ draft.left_in (stage_in ph) (draft_of t) + 3
left_staging Replace t on = not_staging on
left_staging SyncFolder t on = not_staging on
left_staging Ended t on = not_staging on
left_staging ph t on = refl

not_ended : (ph : Phase) → is_staging ph ≡ true → stage_in ph ≡ stage.Ended → ⊥
not_ended Clear on e = let n : stage.Clear ≡ stage.Ended = e in cc
not_ended Create on e = let n : stage.Create ≡ stage.Ended = e in cc
not_ended Append on e = let n : stage.Append ≡ stage.Ended = e in cc
not_ended SyncFile on e = let n : stage.SyncFile ≡ stage.Ended = e in cc
not_ended ph on e = not_staging on

pub stage_falls : (t : Staged) → is_staging t.phase ≡ true → (d : Draft) → draft.left d < draft.left (draft_of t) ⊎ (stage_in t.phase ≡ stage.Ended) → left (with_file t d) < left t ⊎ (t.phase ≡ Ended)
stage_falls t on d falls =
    let new : left (with_file t d) ≡ draft.left d + 3 = left_with d.phase t d in
    let old : left t ≡ draft.left (draft_of t) + 3 = left_staging t.phase t on in
    ⊎_elim (λ less. inl (omega (arith, less, new, old))) (λ ended. absurd (not_ended t.phase on ended)) falls

takes_as : (ph : Phase) (a b : ℕ) → is_staging ph ≡ true → draft.Takes (stage_in ph) a b → Takes ph a b
takes_as Replace a b on takes = not_staging on
takes_as SyncFolder a b on takes = not_staging on
takes_as ph a b on takes = takes

pub stage_takes : (t : Staged) (f : Draft) → f ≡ draft_of t → (a b : ℕ) → is_staging t.phase ≡ true → draft.Takes f.phase a b → Takes t.phase a b
stage_takes t f is a b on takes = takes_as t.phase a b on (subst (λ (x : Draft). draft.Takes x.phase a b) is takes)

none_owed : (ph : Phase) → is_staging ph ≡ true → (is_owed ph ≡ false) × (owed_after ph ≡ 0)
none_owed Replace on = not_staging on
none_owed SyncFolder on = not_staging on
none_owed ph on = (refl, refl)

pub stage_room : {T : Type 0} (ph : Phase) → is_staging ph ≡ true → (before now : ℕ) (r : Result T FsErr) → before ≤ now + 1 → KeepsRoom ph before now r
stage_room ph on before now r most =
    let none = none_owed ph on in
    record {
      at_most_one = most;
      enough = λ owed some memory. (let n : false ≡ true = sym none.0 ∙ owed in cc);
      ready = by r;
    }
  where
    by : {T : Type 0} (r : Result T FsErr) → OnOk r (owed_after ph ≤ now)
    by (Ok x) = let e : owed_after ph ≡ 0 = (none_owed ph on).1 in let le : owed_after ph ≤ now = omega (arith, e) in le
    by (Err e) = tt

-- ---- what it writes and leaves

firm_as : (ph : Phase) (t : Staged) (n : ℕ) (p : Path) (s : Seen) → is_staging ph ≡ true → firm_in ph t n p s → stages.firm_in (stage_in ph) (draft_of t) n p s
firm_as Clear t n p s on f = tt
firm_as Create t n p s on f = tt
firm_as Append t n p s on f = f.1
firm_as SyncFile t n p s on f = f.1
firm_as ph t n p s on f = not_staging on

here_as : (ph : Phase) (t : Staged) (n : ℕ) (p : Path) (s : Seen) → is_staging ph ≡ true → here_in ph t n p s → stages.here_in (stage_in ph) (draft_of t) n p s
here_as Replace t n p s on h = not_staging on
here_as SyncFolder t n p s on h = not_staging on
here_as Ended t n p s on h = not_staging on
here_as ph t n p s on h = h

writes_as : (ph : Phase) (t : Staged) (v : View) (p : Path) (s : Seen) → is_staging ph ≡ true → stages.writes_in (stage_in ph) (draft_of t) v p s → writes_in ph t v p s
writes_as Replace t v p s on a = not_staging on
writes_as ph t v p s on a = a

pub stage_refuses : (f : Draft) (t : Staged) (v : View) (e : FsErr) → stages.Refuses f v e → Refuses t v e
stage_refuses f t v Failed why = tt
stage_refuses f t v NoMemory why = tt
stage_refuses f t v e why = absurd why

module _ (t : Staged) (v : View) (needs : Needs t v) (on : is_staging t.phase ≡ true) where
  pub stage_needs : stages.Needs (draft_of t) v
  stage_needs = record {
    placed = needs.placed.staging;
    inode = needs.inode;
    meets = record {
      firm = λ p s may. firm_as t.phase t needs.inode p s on (needs.meets.firm p s may);
      here = λ p. here_as t.phase t needs.inode p (shows v.now p) on (needs.meets.here p);
    };
  }

  module _ (w : View) (writes : Writes (stages.WritesOf (draft_of t) v) v w) where
    pub stage_writes : Writes (WritesOf t v) v w
    stage_writes = weaker (stages.WritesOf (draft_of t) v) (WritesOf t v) v w (λ p s a. writes_as t.phase t v p s on a) writes

    still_leads : (p : Path) (s : Seen) → MayBe w p s → LeadsTo t.folder p s
    still_leads = firm_kept (stages.WritesOf (draft_of t) v) (LeadsTo t.folder) v w writes
        (λ p s a below. absurd (off_stage t needs.placed p (staging_lies (draft_of t) v stage_needs p s a).place below)) (needs_leads t v needs)

    module _ (d : Draft) (now : stages.Needs d w) where
      file_meets : (ph : staging.Phase) → Meets (stages.firm_in ph d now.inode) (stages.here_in ph d now.inode) w → Meets (firm_in (phase_of ph) (with_file t d) now.inode) (here_in (phase_of ph) (with_file t d) now.inode) w
      file_meets stage.Clear m = record { firm = still_leads; here = m.here }
      file_meets stage.Create m = record { firm = still_leads; here = m.here }
      file_meets stage.Append m = record { firm = λ p s may. (still_leads p s may, m.firm p s may); here = m.here }
      file_meets stage.SyncFile m = record { firm = λ p s may. (still_leads p s may, m.firm p s may); here = m.here }
      file_meets stage.Ended m = record {
        firm = λ p s may. (
          still_leads p s may,
          (m.firm p s may).0,
          λ k b here e.
              let leaf : MayBe w p (Leaf now.inode k b) = subst (MayBe w p) e may in
              ((leaf_from w leaf.value now.inode k b leaf.shown).1 ∙ meta_shown w.now d.stage now.inode d.meta d.bytes (m.here d.stage refl), (m.firm p s may).1 k b here e),
        );
        here = m.here;
      }

      pub stage_after : d ≡ draft.next (draft_of t) → Needs (with_file t d) w
      stage_after is = record {
        placed = subst (λ (x : Staged). IsPlaced x.stage x.folder x.at) (sym (ap (with_file t) is)) (next_placed (stage_in t.phase));
        inode = now.inode;
        meets = file_meets d.phase now.meets;
      }
        where
          next_placed : (ph : staging.Phase) → IsPlaced (draft.next_in ph (draft_of t)).stage t.folder t.at
          next_placed stage.Clear = needs.placed
          next_placed stage.Create = needs.placed
          next_placed stage.Append = needs.placed
          next_placed stage.SyncFile = needs.placed
          next_placed stage.Ended = needs.placed

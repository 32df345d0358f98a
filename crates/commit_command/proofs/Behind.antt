-- What a commit has stored or found, it has behind it after each further step.
use Rattle.std.proofs.Common.{◌≡◌, inl, inr, ⊎_elim, ℕ, ◌<◌, ◌+◌, suc, zero, pred, refl, sym, subst, arith, List, Option, Some, None}
use Rattle.ost_types.specs.declared.object.ObjName.{ObjName}
use Rattle.fs_trait.specs.declared.task.StepResult.TheVariants as turn
use Rattle.tree_build.specs.Objects.{Object}
use Rattle.obj_store.specs.declared.source.Source.{Source}
use Rattle.obj_store.specs.declared.phase.Put.{Put}
use Rattle.obj_store.specs.declared.phase.Phase as putting
use Rattle.obj_store.specs.declared.phase.Phase.TheVariants as at
use Rattle.obj_store.specs.Putting as put
use Rattle.commit_build.specs.declared.phase.Phase.{Phase}
use Rattle.commit_build.specs.declared.phase.Phase.TheVariants as phase
use Rattle.commit_build.specs.Committing.{Committing, Follows, IsEnd, commit_in}
use Rattle.commit_build.specs.Steps.{count_in}
use Rattle.commit_build.specs.Whole.{IsOfCommit}
use Rattle.commit_build.proofs.Stable.{IsSeenTo, Relies, relied_in}
use Rattle.commit_command.specs.declared.naming.Naming.{Naming}
use Rattle.commit_command.specs.declared.command.CommitCommand.{CommitCommand}
use Rattle.commit_command.specs.Kinds.{BuildSteps, commit_stepped, stepped_at, stepped_by}
use Rattle.commit_command.specs.Held.{HasBehind, behind_by}
use Rattle.commit_command.specs.Laws.{commit_phase}
use Rattle.commit_command.specs.Relying.{before_count, within_made}

pred_after : (n count made : ℕ) → count ≡ made + 1 → n < made → n < pred count
pred_after n zero made e less = absurd (omega (arith, e))
pred_after n (suc count) made e less = omega (arith, e, less)

-- a put that goes on hasn't seen to its object before
put_stays : (old new : putting.Phase) (s u : Source) (made n : ℕ) → put.Follows old new s u → n < count_in old made → n < count_in new made
put_stays at.Look new s u made n f less = before_count new made n less
put_stays at.Stage new s u made n f less = before_count new made n less
put_stays at.Folder new s u made n f less = before_count new made n less
put_stays at.Link new s u made n f less = before_count new made n less
put_stays (at.Unlink k) new s u made n f less = absurd f
put_stays (at.Ended k) new s u made n f less = absurd f

seen_stays : (old new : putting.Phase) (s u : Source) → put.Follows old new s u → IsSeenTo old → IsSeenTo new
seen_stays at.Look new s u f seen = absurd seen
seen_stays at.Stage new s u f seen = absurd seen
seen_stays at.Folder new s u f seen = absurd seen
seen_stays at.Link new s u f seen = absurd seen
seen_stays (at.Unlink k) new s u f seen = absurd f
seen_stays (at.Ended k) new s u f seen = absurd f

module _ (t : Committing) where
  behind_next : (old new : Phase) (count : ℕ) (met : Option (ObjName × Put)) → Follows t old new count met → (o : Object) → relied_in old t o → relied_in new (record t { made = count; phase = new; met = met }) o
  behind_next phase.Check new count met f o r = absurd r
  behind_next phase.Make phase.Check count met f o r = absurd f
  behind_next phase.Make phase.Make count met f o r = absurd f
  behind_next phase.Make (phase.Made b) count met f o r = (r.0, pred_after r.0 count t.made f.0 r.1, r.2)
  behind_next phase.Make (phase.Put b) count met f o r = absurd f
  behind_next phase.Make phase.SyncObjects count met f o r = (r.0, omega (arith, f.0, r.1), r.2)
  behind_next phase.Make phase.MakeCommit count met f o r = absurd f
  behind_next phase.Make (phase.PutCommit b) count met f o r = absurd f
  behind_next phase.Make (phase.SyncCommit b) count met f o r = absurd f
  behind_next phase.Make (phase.Unmark b) count met f o r = absurd f
  behind_next phase.Make (phase.SyncState b) count met f o r = absurd f
  behind_next phase.Make (phase.Ended b) count met f o r = absurd f
  behind_next (phase.Made a) phase.Check count met f o r = absurd f
  behind_next (phase.Made a) phase.Make count met f o r = absurd f
  behind_next (phase.Made a) (phase.Made b) count met f o r = absurd f
  behind_next (phase.Made a) (phase.Put b) count met f o r = (r.0, before_count b.phase count r.0 (subst (λ k. r.0 < pred k) (sym f.0) r.1), r.2)
  behind_next (phase.Made a) phase.SyncObjects count met f o r = absurd f
  behind_next (phase.Made a) phase.MakeCommit count met f o r = absurd f
  behind_next (phase.Made a) (phase.PutCommit b) count met f o r = absurd f
  behind_next (phase.Made a) (phase.SyncCommit b) count met f o r = absurd f
  behind_next (phase.Made a) (phase.Unmark b) count met f o r = absurd f
  behind_next (phase.Made a) (phase.SyncState b) count met f o r = absurd f
  behind_next (phase.Made a) (phase.Ended b) count met f o r = absurd f
  behind_next (phase.Put a) phase.Check count met f o r = absurd f
  behind_next (phase.Put a) phase.Make count met f o r = (r.0, subst (λ k. r.0 < k) (sym f.0) (within_made a.phase t.made r.0 r.1), r.2)
  behind_next (phase.Put a) (phase.Made b) count met f o r = absurd f
  behind_next (phase.Put a) (phase.Put b) count met f o r = (r.0, subst (λ k. r.0 < count_in b.phase k) (sym f.0) (put_stays a.phase b.phase a.source b.source t.made r.0 f.1.1 r.1), r.2)
  behind_next (phase.Put a) phase.SyncObjects count met f o r = absurd f
  behind_next (phase.Put a) phase.MakeCommit count met f o r = absurd f
  behind_next (phase.Put a) (phase.PutCommit b) count met f o r = absurd f
  behind_next (phase.Put a) (phase.SyncCommit b) count met f o r = absurd f
  behind_next (phase.Put a) (phase.Unmark b) count met f o r = absurd f
  behind_next (phase.Put a) (phase.SyncState b) count met f o r = absurd f
  behind_next (phase.Put a) (phase.Ended b) count met f o r = absurd f
  behind_next phase.SyncObjects phase.Check count met f o r = absurd f
  behind_next phase.SyncObjects phase.Make count met f o r = absurd f
  behind_next phase.SyncObjects (phase.Made b) count met f o r = absurd f
  behind_next phase.SyncObjects (phase.Put b) count met f o r = absurd f
  behind_next phase.SyncObjects phase.SyncObjects count met f o r = absurd f
  behind_next phase.SyncObjects phase.MakeCommit count met f o r = (r.0, r.2)
  behind_next phase.SyncObjects (phase.PutCommit b) count met f o r = absurd f
  behind_next phase.SyncObjects (phase.SyncCommit b) count met f o r = absurd f
  behind_next phase.SyncObjects (phase.Unmark b) count met f o r = absurd f
  behind_next phase.SyncObjects (phase.SyncState b) count met f o r = absurd f
  behind_next phase.SyncObjects (phase.Ended b) count met f o r = absurd f
  behind_next phase.MakeCommit phase.Check count met f o r = absurd f
  behind_next phase.MakeCommit phase.Make count met f o r = absurd f
  behind_next phase.MakeCommit (phase.Made b) count met f o r = absurd f
  behind_next phase.MakeCommit (phase.Put b) count met f o r = absurd f
  behind_next phase.MakeCommit phase.SyncObjects count met f o r = absurd f
  behind_next phase.MakeCommit phase.MakeCommit count met f o r = absurd f
  behind_next phase.MakeCommit (phase.PutCommit b) count met f o r = inl r
  behind_next phase.MakeCommit (phase.SyncCommit b) count met f o r = absurd f
  behind_next phase.MakeCommit (phase.Unmark b) count met f o r = absurd f
  behind_next phase.MakeCommit (phase.SyncState b) count met f o r = absurd f
  behind_next phase.MakeCommit (phase.Ended b) count met f o r = absurd f
  behind_next (phase.PutCommit a) phase.Check count met f o r = absurd f
  behind_next (phase.PutCommit a) phase.Make count met f o r = absurd f
  behind_next (phase.PutCommit a) (phase.Made b) count met f o r = absurd f
  behind_next (phase.PutCommit a) (phase.Put b) count met f o r = absurd f
  behind_next (phase.PutCommit a) phase.SyncObjects count met f o r = absurd f
  behind_next (phase.PutCommit a) phase.MakeCommit count met f o r = absurd f
  behind_next (phase.PutCommit a) (phase.PutCommit b) count met f o r = ⊎_elim (λ n. inl n) (λ c. inr (c.0, seen_stays a.phase b.phase a.source b.source f.1.1 c.1)) r
  behind_next (phase.PutCommit a) (phase.SyncCommit b) count met f o r = ⊎_elim (λ n. inl n) (λ c. inr c.0) r
  behind_next (phase.PutCommit a) (phase.Unmark b) count met f o r = absurd f
  behind_next (phase.PutCommit a) (phase.SyncState b) count met f o r = absurd f
  behind_next (phase.PutCommit a) (phase.Ended b) count met f o r = absurd f
  behind_next (phase.SyncCommit a) phase.Check count met f o r = absurd f
  behind_next (phase.SyncCommit a) phase.Make count met f o r = absurd f
  behind_next (phase.SyncCommit a) (phase.Made b) count met f o r = absurd f
  behind_next (phase.SyncCommit a) (phase.Put b) count met f o r = absurd f
  behind_next (phase.SyncCommit a) phase.SyncObjects count met f o r = absurd f
  behind_next (phase.SyncCommit a) phase.MakeCommit count met f o r = absurd f
  behind_next (phase.SyncCommit a) (phase.PutCommit b) count met f o r = absurd f
  behind_next (phase.SyncCommit a) (phase.SyncCommit b) count met f o r = absurd f
  behind_next (phase.SyncCommit a) (phase.Unmark b) count met f o r = r
  behind_next (phase.SyncCommit a) (phase.SyncState b) count met f o r = absurd f
  behind_next (phase.SyncCommit a) (phase.Ended b) count met f o r = absurd f
  behind_next (phase.Unmark a) phase.Check count met f o r = absurd f
  behind_next (phase.Unmark a) phase.Make count met f o r = absurd f
  behind_next (phase.Unmark a) (phase.Made b) count met f o r = absurd f
  behind_next (phase.Unmark a) (phase.Put b) count met f o r = absurd f
  behind_next (phase.Unmark a) phase.SyncObjects count met f o r = absurd f
  behind_next (phase.Unmark a) phase.MakeCommit count met f o r = absurd f
  behind_next (phase.Unmark a) (phase.PutCommit b) count met f o r = absurd f
  behind_next (phase.Unmark a) (phase.SyncCommit b) count met f o r = absurd f
  behind_next (phase.Unmark a) (phase.Unmark b) count met f o r = absurd f
  behind_next (phase.Unmark a) (phase.SyncState b) count met f o r = r
  behind_next (phase.Unmark a) (phase.Ended b) count met f o r = absurd f
  behind_next (phase.SyncState a) phase.Check count met f o r = absurd f
  behind_next (phase.SyncState a) phase.Make count met f o r = absurd f
  behind_next (phase.SyncState a) (phase.Made b) count met f o r = absurd f
  behind_next (phase.SyncState a) (phase.Put b) count met f o r = absurd f
  behind_next (phase.SyncState a) phase.SyncObjects count met f o r = absurd f
  behind_next (phase.SyncState a) phase.MakeCommit count met f o r = absurd f
  behind_next (phase.SyncState a) (phase.PutCommit b) count met f o r = absurd f
  behind_next (phase.SyncState a) (phase.SyncCommit b) count met f o r = absurd f
  behind_next (phase.SyncState a) (phase.Unmark b) count met f o r = absurd f
  behind_next (phase.SyncState a) (phase.SyncState b) count met f o r = absurd f
  behind_next (phase.SyncState a) (phase.Ended b) count met f o r = absurd f
  behind_next (phase.Ended a) phase.Check count met f o r = absurd f
  behind_next (phase.Ended a) phase.Make count met f o r = absurd f
  behind_next (phase.Ended a) (phase.Made b) count met f o r = absurd f
  behind_next (phase.Ended a) (phase.Put b) count met f o r = absurd f
  behind_next (phase.Ended a) phase.SyncObjects count met f o r = absurd f
  behind_next (phase.Ended a) phase.MakeCommit count met f o r = absurd f
  behind_next (phase.Ended a) (phase.PutCommit b) count met f o r = absurd f
  behind_next (phase.Ended a) (phase.SyncCommit b) count met f o r = absurd f
  behind_next (phase.Ended a) (phase.Unmark b) count met f o r = absurd f
  behind_next (phase.Ended a) (phase.SyncState b) count met f o r = absurd f
  behind_next (phase.Ended a) (phase.Ended b) count met f o r = absurd f

  -- at the end it has all
  behind_end : (old : Phase) (commit : List ℕ) → IsEnd old commit → (o : Object) → relied_in old t o → IsOfCommit t o
  behind_end (phase.SyncState sum) commit end o r = r
  behind_end (phase.Ended sum) commit end o r = r
  behind_end phase.Check commit end o r = absurd end
  behind_end phase.Make commit end o r = absurd end
  behind_end (phase.Made c) commit end o r = absurd end
  behind_end (phase.Put p) commit end o r = absurd end
  behind_end phase.SyncObjects commit end o r = absurd end
  behind_end phase.MakeCommit commit end o r = absurd end
  behind_end (phase.PutCommit p) commit end o r = absurd end
  behind_end (phase.SyncCommit sum) commit end o r = absurd end
  behind_end (phase.Unmark sum) commit end o r = absurd end

behind_build : (objects : ℕ) (old new : Committing) → BuildSteps objects old None new → (o : Object) → Relies old o → Relies new o
behind_build objects old new (inl s) o r = subst (λ (x : Committing). relied_in new.phase x o) (sym s.0.0) (behind_next old old.phase new.phase new.made new.met s.0.1 o r)
behind_build objects old new (inr s) o r = subst (λ (x : Committing). Relies x o) (sym s.1.0) (behind_end old old.phase s.0 s.1.1 o r)

behind_at : (c : Option (List ℕ)) (t new : CommitCommand) → commit_in t.build.phase ≡ c → t.change ≡ None → stepped_at c t turn.More new → (o : Object) → Relies t.build o → HasBehind new o
behind_at None t new is none step o r =
    subst (λ (x : CommitCommand). HasBehind x o) (sym step.0)
    (subst (λ c. behind_by c new.build o) (sym none) (behind_build t.objects t.build new.build step.1 o r))
behind_at (Some commit) t new is none step o r =
    subst (λ (x : CommitCommand). HasBehind x o) (sym step) (subst (λ ph. relied_in ph t.build o) (commit_phase t.build.phase commit is) r)

behind_step : (c : Option Naming) (t new : CommitCommand) → t.change ≡ c → stepped_by c t turn.More new → (o : Object) → behind_by c t.build o → HasBehind new o
behind_step None t new is step o r = behind_at (commit_in t.build.phase) t new refl is step o r
behind_step (Some n) t new is step o r = subst (λ (x : CommitCommand). HasBehind x o) (sym step.1) r

pub behind_stays : (t new : CommitCommand) (o : Object) → commit_stepped t turn.More new → HasBehind t o → HasBehind new o
behind_stays t new o step r = behind_step t.change t new refl step o r

-- The laws of a change of a ref as a task.
use Rattle.std.proofs.Common.{◌≡◌, ⊎_elim, ℕ, Bool, true, false, refl, sym, ◌∙◌, ap, subst, arith, length, Some, None, Ok, Err, if◌then◌else◌}
use Rattle.std.specs.Prelude.{nat_lt}
use Rattle.fs_trait.specs.declared.task.StepResult.TheVariants as turn
use Rattle.fs_trait.specs.View.{View}
use Rattle.staged_file.specs.declared.phase.Phase as staged
use Rattle.staged_file.specs.declared.phase.Phase.TheVariants as file
use Rattle.staged_file.specs.Staged as staging
use Rattle.ref_store.specs.declared.phase.Phase.{Phase}
use Rattle.ref_store.specs.declared.phase.Phase.TheVariants as phase
use Rattle.ref_store.specs.declared.progress.Progress.{Progress}
use Rattle.ref_store.specs.declared.progress.Progress.TheVariants as progress
use Rattle.ref_store.specs.Change.{Change, Follows, IsLast, IsRefusing, progress_in, progress_of}
use Rattle.ref_store.specs.Steps.{Needs}
use Rattle.ref_store.proofs.Seen.{seen_next}
use Rattle.ref_store.proofs.Progresses.{after_look}
use Rattle.rely_guarantee.specs.declared.event.Event.{Event}
use Rattle.rely_guarantee.specs.Books.{Books, Keeps}
use Rattle.rely_guarantee.specs.Laws as rely
use Rattle.rely_guarantee.specs.Laws.{Kind, Quiet, Store, Take, Laws, IsBefore, IsClaim, IsMakeDurable, IsLastly, Chain, Stood}
use Rattle.ref_command.specs.Kinds.{event, kind_at, put_kind, kind_in, ref_kind, ref_needs, ref_writes, ref_stepped, ref_leaves, stepped_in, leaves_in, Answer, Leaves}
use Rattle.ref_command.specs.Facts.{turn_in, IsRunning, Facts, ref_facts}
use Rattle.ref_command.specs.Kept.{facts_kept, facts_gain, put_turn}
use Rattle.ref_command.specs.Duties.{IsDone, change_duty}

-- which kind of step follows which
before_filled : (b : Bool) (e : Event) → IsBefore (put_kind (if b then file.Append else file.SyncFile) e)
before_filled true e = tt
before_filled false e = tt

put_chain : (ph : staged.Phase) (s : staging.Staged) (e : Event) → staging.is_last ph ≡ false → Chain (put_kind ph e) (put_kind (staging.next_in ph s).phase e)
put_chain file.Clear s e more = tt
put_chain file.Create s e more = before_filled (nat_lt 0 (length s.bytes)) e
put_chain file.Append s e more = before_filled (nat_lt (staging.piece_end s) (length s.bytes)) e
put_chain file.SyncFile s e more = tt
put_chain file.Look s e more = tt
put_chain file.Replace s e more = (refl, omega arith)
put_chain file.SyncFolder s e more = let n : true ≡ false = more in cc
put_chain file.Ended s e more = let n : true ≡ false = more in cc

chain_in : (t : Change) (old new : Phase) (e : Event) → Follows old new t → Chain (kind_in old e) (kind_in new e)
chain_in t phase.Look new e f = ⊎_elim
    (λ is. subst (λ p. IsBefore (kind_at p e)) (sym is) tt)
    (λ is. subst (λ p. IsBefore (kind_at p e)) (sym is) tt)
    (after_look t new f)
chain_in t (phase.Clear c) phase.Look e f = absurd f
chain_in t (phase.Clear c) (phase.Clear d) e f = tt
chain_in t (phase.Clear c) (phase.Walk y) e f = tt
chain_in t (phase.Clear c) (phase.Put g) e f = absurd f
chain_in t (phase.Clear c) phase.Unlink e f = absurd f
chain_in t (phase.Clear c) phase.SyncFolder e f = absurd f
chain_in t (phase.Clear c) phase.Ended e f = absurd f
chain_in t (phase.Walk y) phase.Look e f = absurd f
chain_in t (phase.Walk y) (phase.Clear d) e f = absurd f
chain_in t (phase.Walk y) (phase.Walk z) e f = tt
chain_in t (phase.Walk y) (phase.Put g) e f = subst (λ ph. IsBefore (put_kind ph e)) (sym f.1.1) tt
chain_in t (phase.Walk y) phase.Unlink e f = absurd f
chain_in t (phase.Walk y) phase.SyncFolder e f = absurd f
chain_in t (phase.Walk y) phase.Ended e f = absurd f
chain_in t (phase.Put g) phase.Look e f = absurd f
chain_in t (phase.Put g) (phase.Clear d) e f = absurd f
chain_in t (phase.Put g) (phase.Walk y) e f = absurd f
chain_in t (phase.Put g) (phase.Put h) e f = subst (λ (x : staging.Staged). Chain (put_kind g.phase e) (put_kind x.phase e)) (sym f.0) (put_chain g.phase g e f.1)
chain_in t (phase.Put g) phase.Unlink e f = absurd f
chain_in t (phase.Put g) phase.SyncFolder e f = absurd f
chain_in t (phase.Put g) phase.Ended e f = absurd f
chain_in t phase.Unlink phase.Look e f = absurd f
chain_in t phase.Unlink (phase.Clear d) e f = absurd f
chain_in t phase.Unlink (phase.Walk y) e f = absurd f
chain_in t phase.Unlink (phase.Put g) e f = absurd f
chain_in t phase.Unlink phase.Unlink e f = absurd f
chain_in t phase.Unlink phase.SyncFolder e f = (refl, omega arith)
chain_in t phase.Unlink phase.Ended e f = absurd f
chain_in t phase.SyncFolder new e f = absurd f
chain_in t phase.Ended new e f = absurd f

running_filled : (b : Bool) → IsRunning (progress_of (if b then file.Append else file.SyncFile))
running_filled true = tt
running_filled false = tt

put_runs : (ph : staged.Phase) (s : staging.Staged) → staging.is_last ph ≡ false → IsRunning (progress_of (staging.next_in ph s).phase)
put_runs file.Clear s more = tt
put_runs file.Create s more = running_filled (nat_lt 0 (length s.bytes))
put_runs file.Append s more = running_filled (nat_lt (staging.piece_end s) (length s.bytes))
put_runs file.SyncFile s more = tt
put_runs file.Look s more = tt
put_runs file.Replace s more = tt
put_runs file.SyncFolder s more = let n : true ≡ false = more in cc
put_runs file.Ended s more = let n : true ≡ false = more in cc

-- a change that goes on hasn't ended
pub runs_in : (t : Change) (old new : Phase) → Follows old new t → IsRunning (progress_in new)
runs_in t phase.Look new f = ⊎_elim (λ is. subst IsRunning (sym is) tt) (λ is. subst IsRunning (sym is) tt) (after_look t new f)
runs_in t (phase.Clear c) phase.Look f = absurd f
runs_in t (phase.Clear c) (phase.Clear d) f = tt
runs_in t (phase.Clear c) (phase.Walk z) f = tt
runs_in t (phase.Clear c) (phase.Put h) f = absurd f
runs_in t (phase.Clear c) phase.Unlink f = absurd f
runs_in t (phase.Clear c) phase.SyncFolder f = absurd f
runs_in t (phase.Clear c) phase.Ended f = absurd f
runs_in t (phase.Walk y) phase.Look f = absurd f
runs_in t (phase.Walk y) (phase.Clear d) f = absurd f
runs_in t (phase.Walk y) (phase.Walk z) f = tt
runs_in t (phase.Walk y) (phase.Put h) f = subst (λ ph. IsRunning (progress_of ph)) (sym f.1.1) tt
runs_in t (phase.Walk y) phase.Unlink f = absurd f
runs_in t (phase.Walk y) phase.SyncFolder f = absurd f
runs_in t (phase.Walk y) phase.Ended f = absurd f
runs_in t (phase.Put g) phase.Look f = absurd f
runs_in t (phase.Put g) (phase.Clear d) f = absurd f
runs_in t (phase.Put g) (phase.Walk z) f = absurd f
runs_in t (phase.Put g) (phase.Put h) f = subst (λ (x : staging.Staged). IsRunning (progress_of x.phase)) (sym f.0) (put_runs g.phase g f.1)
runs_in t (phase.Put g) phase.Unlink f = absurd f
runs_in t (phase.Put g) phase.SyncFolder f = absurd f
runs_in t (phase.Put g) phase.Ended f = absurd f
runs_in t phase.Unlink phase.Look f = absurd f
runs_in t phase.Unlink (phase.Clear d) f = absurd f
runs_in t phase.Unlink (phase.Walk z) f = absurd f
runs_in t phase.Unlink (phase.Put h) f = absurd f
runs_in t phase.Unlink phase.Unlink f = absurd f
runs_in t phase.Unlink phase.SyncFolder f = tt
runs_in t phase.Unlink phase.Ended f = absurd f
runs_in t phase.SyncFolder new f = absurd f
runs_in t phase.Ended new f = absurd f

-- the same change in another phase
same_kind : (t new : Change) → new ≡ record t { phase = new.phase } → kind_in new.phase (event new) ≡ kind_in new.phase (event t)
same_kind t new same = ap (λ (x : Change). kind_in new.phase (event x)) same

change_chain : (t new : Change) → (new ≡ record t { phase = new.phase }) × Follows t.phase new.phase t → Chain (kind_in t.phase (event t)) (kind_in new.phase (event new))
change_chain t new step = subst (Chain (kind_in t.phase (event t))) (sym (same_kind t new step.0)) (chain_in t t.phase new.phase (event t) step.1)

-- which may be the last
put_last : (ph : staged.Phase) (e : Event) → staging.is_last ph ≡ true → IsLastly (put_kind ph e)
put_last file.SyncFolder e last = tt
put_last file.Ended e last = tt
put_last file.Clear e last = tt
put_last file.Create e last = tt
put_last file.Append e last = tt
put_last file.SyncFile e last = tt
put_last file.Look e last = tt
put_last file.Replace e last = let n : false ≡ true = last in cc

last_in : (ph : Phase) (e : Event) → IsLast ph → IsLastly (kind_in ph e)
last_in phase.Look e last = tt
last_in (phase.Clear c) e last = tt
last_in (phase.Walk y) e last = tt
last_in (phase.Put g) e last = put_last g.phase e last
last_in phase.Unlink e last = absurd last
last_in phase.SyncFolder e last = tt
last_in phase.Ended e last = tt

refusing_last : (ph : Phase) (e : Event) → IsRefusing ph → IsLastly (kind_in ph e)
refusing_last phase.Look e may = tt
refusing_last (phase.Clear c) e may = tt
refusing_last (phase.Walk y) e may = tt
refusing_last (phase.Put g) e may = absurd may
refusing_last phase.Unlink e may = absurd may
refusing_last phase.SyncFolder e may = absurd may
refusing_last phase.Ended e may = absurd may

refusing_not : (ph : Phase) (e : Event) → IsRefusing ph → IsMakeDurable (kind_in ph e) → ⊥
refusing_not phase.Look e may settles = settles
refusing_not (phase.Clear c) e may settles = settles
refusing_not (phase.Walk y) e may settles = settles
refusing_not (phase.Put g) e may settles = may
refusing_not phase.Unlink e may settles = may
refusing_not phase.SyncFolder e may settles = may
refusing_not phase.Ended e may settles = may

pub change_last : (answer : Answer) (t new : Change) → stepped_in (turn.Done tt) answer t new → IsLastly (kind_in t.phase (event t))
change_last None t new step = absurd step
change_last (Some (Ok x)) t new step = last_in t.phase (event t) step.0.1
change_last (Some (Err r)) t new step = refusing_last t.phase (event t) step.1

-- what a step that settles leaves
done_in : (answer : Answer) (t new : Change) (v w : View) → IsMakeDurable (kind_in t.phase (event t)) → leaves_in (turn.Done tt) answer t new v w → IsDone t w
done_in None t new v w settles l = absurd l
done_in (Some (Ok x)) t new v w settles l = let n : Needs (record t { phase = phase.Ended }) w = subst (λ u. Needs u w) l.stepped.0 l.needs in n.meets
done_in (Some (Err r)) t new v w settles l = absurd (refusing_not t.phase (event t) l.may settles)

any_turn : (k : Kind) (lane : ℕ) (b : Books) → b.turn ≡ Some lane → turn_in k lane b
any_turn Quiet lane b turn = turn
any_turn Store lane b turn = turn
any_turn (Take wants) lane b turn = tt
any_turn (rely.Claim name) lane b turn = turn
any_turn (rely.Publish e) lane b turn = turn
any_turn (rely.Published e owed) lane b turn = turn
any_turn (rely.Remove e owed) lane b turn = turn
any_turn (rely.MakeDurable e) lane b turn = turn

-- the lane has the ref lock in each step
turn_now : (ph : Phase) (e : Event) (actor lane : ℕ) (b : Books) → Stood (kind_in ph e) actor lane b → turn_in (kind_in ph e) lane b → b.turn ≡ Some lane
turn_now phase.Look e actor lane b stood turn = stood.turn refl
turn_now (phase.Clear c) e actor lane b stood turn = turn
turn_now (phase.Walk y) e actor lane b stood turn = turn
turn_now (phase.Put g) e actor lane b stood turn = put_turn g.phase e lane b turn
turn_now phase.Unlink e actor lane b stood turn = turn
turn_now phase.SyncFolder e actor lane b stood turn = turn
turn_now phase.Ended e actor lane b stood turn = turn

change_next : (actor lane : ℕ) (t new : Change) (v w : View) (b b' : Books) → Stood (kind_in t.phase (event t)) actor lane b → Facts lane t v b → Leaves t new turn.More v w → Keeps lane b b' → Facts lane new w b'
change_next actor lane t new v w b b' stood f l keeps = record {
  needs = l.needs;
  mine = ap (λ (x : Change). x.actor) l.stepped.0 ∙ f.mine;
  runs = runs_in t t.phase new.phase l.stepped.1;
  turn = any_turn (kind_in new.phase (event new)) lane b' (keeps.turn (turn_now t.phase (event t) actor lane b stood f.turn));
  seen = seen_next t new v w f.needs f.seen l.stepped l.tells l.writes;
}

-- no step makes the folder of a checkout
pub no_claim : (p : Progress) (e : Event) → IsClaim (kind_at p e) → ⊥
no_claim progress.Looking e is = is
no_claim progress.Preparing e is = is
no_claim progress.Showing e is = is
no_claim progress.Settling e is = is
no_claim progress.Ended e is = is

pub ref_laws : Laws ref_kind ref_needs ref_writes ref_stepped ref_leaves ref_facts
ref_laws = record {
  ready = λ actor lane t v b by f. f.needs;
  kept = λ actor lane mine t v w b b' not other does holds f. facts_kept b v actor lane mine not other t.task w b' f does;
  gains = λ lane t v b b' keeps same f. facts_gain lane t.task v b b' keeps f;
  duty = λ actor lane t new v b agrees by stood f. change_duty b v actor lane t.task f agrees (λ w. leaves_in (turn.Done tt) new.answer t.task new.task v w) (λ settles w l. done_in new.answer t.task new.task v w settles l) stood;
  chain = λ t new step. change_chain t.task new.task step.0;
  last = λ t new step. change_last new.answer t.task new.task step;
  next = λ actor lane t new v w b b' stood f leaves keeps own. change_next actor lane t.task new.task v w b b' stood f leaves keeps;
  claims = λ lane t new v w b name is step f leaves. absurd (no_claim (progress_in t.task.phase) (event t.task) (subst IsClaim (sym is) tt));
}

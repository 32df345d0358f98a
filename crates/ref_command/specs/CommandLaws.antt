-- The laws of the commands as tasks.
use Rattle.std.proofs.Common.{◌≡◌, ℕ, true, false, refl, sym, ap, subst, List, Option, Some, None}
use Rattle.fs_trait.specs.declared.task.StepResult.TheVariants as turn
use Rattle.fs_trait.specs.Image.{IsTree}
use Rattle.fs_trait.specs.View.{View, all_synced}
use Rattle.fs_trait.specs.Change.{LeadsTo, Nothing}
use Rattle.fs_trait.proofs.Kept.{meets_kept}
use Rattle.fs_trait.proofs.Effects.{all_synced-writes}
use Rattle.repo_layout.specs.Paths.{heads}
use Rattle.ref_store.specs.Change as store
use Rattle.ref_store.specs.Steps.{HereOfStage}
use Rattle.rely_guarantee.specs.Books.{Books, Agrees, Keeps}
use Rattle.rely_guarantee.specs.Lasting.{IsFinishedNow}
use Rattle.rely_guarantee.specs.Rely.{Interference}
use Rattle.rely_guarantee.specs.Laws.{Laws, IsBy, IsBefore, IsClaim, IsLastly, Chain, Holds, Owned, Stood, StepObligation}
use Rattle.rely_guarantee.proofs.Finished.{finished_synced}
use Rattle.ref_command.specs.declared.work.RefWork.{RefWork}
use Rattle.ref_command.specs.declared.look_up.LookUp.{LookUp}
use Rattle.ref_command.specs.declared.plan.Plan.{Plan}
use Rattle.ref_command.specs.declared.command.RefCommand.{RefCommand}
use Rattle.ref_command.specs.declared.command.RefCommand.TheVariants.{Parse, Reset, Change}
use Rattle.ref_command.specs.declared.look_up.Found.{Found}
use Rattle.ref_command.specs.declared.look_up.Found.TheVariants.{Whole}
use Rattle.ref_command.specs.Found.{IsFound, commit_name}
use Rattle.ref_command.specs.Founded.{IsFounded, IsKnownBy}
use Rattle.ref_command.specs.Founding.{founded_kept, founded_own, found_now, known_kept}
use Rattle.ref_command.specs.Kinds.{event, ref_kind, ref_leaves}
use Rattle.ref_command.specs.Facts.{Facts}
use Rattle.ref_command.specs.Pins.{IsPinned, IsPinnedBy, IsPinnedFor, others_pins, pinned_by_on, pinned_for_on, pinned_on}
use Rattle.ref_command.specs.Kept.{facts_kept, facts_gain}
use Rattle.ref_command.specs.Duties.{change_duty}
use Rattle.ref_command.specs.Laws.{no_claim, ref_laws}
use Rattle.ref_command.specs.Commands.{found_kind, planned, command_kind, command_needs, command_writes, reset_stepped, command_stepped, reset_leaves, command_leaves, Resetting, Changing, command_facts}

ready_of : (actor lane : ℕ) (t : RefCommand) (v : View) (b : Books) → IsBy (command_kind t) actor lane → command_facts lane t v b → command_needs actor t v
ready_of actor lane (Parse look) v b by f = tt
ready_of actor lane (Reset look plan) v b by f = tt
ready_of actor lane (Change work) v b by f = f.ref.needs

kept_of : (actor lane mine : ℕ) (t : RefCommand) (v w : View) (b b' : Books) → ¬ (mine ≡ actor) → ¬ (mine ≡ lane) → Interference actor lane v b w b' → Holds (command_kind t) mine b → command_facts mine t v b → command_facts mine t w b'
kept_of actor lane mine (Parse look) v w b b' not other does holds f = tt
kept_of actor lane mine (Reset look plan) v w b b' not other does holds f = record {
  change = facts_kept b v actor lane mine not other (planned plan).task w b' f.change does;
  same = f.same;
  commit = known_kept b v w actor lane does.writes mine other look.found plan.commit f.pinned f.commit;
  pinned = pinned_by_on mine b b' (others_pins actor lane mine v w b b' other does) look.found plan.commit f.pinned;
}
kept_of actor lane mine (Change work) v w b b' not other does holds f = record {
  ref = facts_kept b v actor lane mine not other work.task w b' f.ref does;
  founded = founded_kept b v w actor lane does.writes mine other work.task.value f.pinned f.founded;
  pinned = pinned_for_on mine b b' (others_pins actor lane mine v w b b' other does) work.task.value f.pinned;
}

gains_of : (lane : ℕ) (t : RefCommand) (v : View) (b b' : Books) → Keeps lane b b' → command_facts lane t v b → command_facts lane t v b'
gains_of lane (Parse look) v b b' keeps f = tt
gains_of lane (Reset look plan) v b b' keeps f = record { change = facts_gain lane (planned plan).task v b b' keeps f.change; same = f.same; commit = f.commit; pinned = pinned_by_on lane b b' keeps.pins look.found plan.commit f.pinned }
gains_of lane (Change work) v b b' keeps f = record { ref = facts_gain lane work.task v b b' keeps f.ref; founded = f.founded; pinned = pinned_for_on lane b b' keeps.pins work.task.value f.pinned }

-- a step that writes nothing and settles nothing
found_duty : (found : Option Found) (commit : List ℕ) (actor lane : ℕ) (v : View) (b : Books) (Done : View → Type 0) → StepObligation (found_kind found commit) actor lane v b (λ p s. ⊥) Done
found_duty None commit actor lane v b Done = ((λ p s a. absurd a), (λ q s a. absurd a))
found_duty (Some found) commit actor lane v b Done = ((λ p s a. absurd a), (λ q s a. absurd a))

duty_of : (actor lane : ℕ) (t new : RefCommand) (v : View) (b : Books) → Agrees b → IsBy (command_kind t) actor lane → Stood (command_kind t) actor lane b → command_facts lane t v b
    → StepObligation (command_kind t) actor lane v b (command_writes actor t v) (command_leaves t (turn.Done tt) new v)
duty_of actor lane (Parse look) new v b agrees by stood f = ((λ p s a. absurd a), (λ q s a. absurd a))
duty_of actor lane (Reset look plan) new v b agrees by stood f = found_duty look.found look.commit actor lane v b (reset_leaves look.found look plan (turn.Done tt) new v)
duty_of actor lane (Change work) (Change new) v b agrees by stood f = ref_laws.duty actor lane work new v b agrees by stood f.ref
duty_of actor lane (Change work) (Parse look) v b agrees by stood f = change_duty b v actor lane work.task f.ref agrees (λ w. ⊥) (λ settles w bad. absurd bad) stood
duty_of actor lane (Change work) (Reset look plan) v b agrees by stood f = change_duty b v actor lane work.task f.ref agrees (λ w. ⊥) (λ settles w bad. absurd bad) stood

reset_chain : (found : Option Found) (look : LookUp) (plan : Plan) (new : RefCommand) → reset_stepped found look plan turn.More new → Chain (found_kind found look.commit) (command_kind new)
reset_chain None look plan (Reset next p) step = subst (λ (x : LookUp). IsBefore (found_kind x.found x.commit)) (sym step.0) tt
reset_chain None look plan (Parse next) step = absurd step
reset_chain None look plan (Change work) step = absurd step
reset_chain (Some found) look plan (Change work) step = subst (λ (x : RefWork). IsBefore (ref_kind x)) (sym step) tt
reset_chain (Some found) look plan (Parse next) step = absurd step
reset_chain (Some found) look plan (Reset next p) step = absurd step

chain_of : (t new : RefCommand) → command_stepped t turn.More new → Chain (command_kind t) (command_kind new)
chain_of (Parse look) new step = absurd step
chain_of (Reset look plan) new step = reset_chain look.found look plan new step
chain_of (Change work) (Change new) step = ref_laws.chain work new step
chain_of (Change work) (Parse look) step = absurd step
chain_of (Change work) (Reset look plan) step = absurd step

found_last : (found : Option Found) (commit : List ℕ) → IsLastly (found_kind found commit)
found_last None commit = tt
found_last (Some found) commit = tt

last_of : (t new : RefCommand) → command_stepped t (turn.Done tt) new → IsLastly (command_kind t)
last_of (Parse look) new step = tt
last_of (Reset look plan) new step = found_last look.found look.commit
last_of (Change work) (Change new) step = ref_laws.last work new step
last_of (Change work) (Parse look) step = absurd step
last_of (Change work) (Reset look plan) step = absurd step

-- a sync of all is no harm to a change that is to begin
facts_synced : (lane : ℕ) (plan : Plan) (v : View) (b : Books) → Facts lane (planned plan).task v b → Facts lane (planned plan).task (all_synced v) b
facts_synced lane plan v b f = record {
  needs = record {
    named = f.needs.named;
    actor = f.needs.actor;
    made = f.needs.made;
    meets = meets_kept Nothing (LeadsTo heads) (HereOfStage plan.lane) v (all_synced v) (all_synced-writes v) (λ p s a. absurd a) (λ p s a. absurd a) f.needs.meets;
  };
  mine = f.mine;
  runs = tt;
  turn = tt;
  seen = λ goes. let n : false ≡ true = goes in cc;
}

-- what was looked up was found whole
looked : (lane : ℕ) (look : LookUp) (plan : Plan) (v : View) (b b' : Books) → Facts lane (planned plan).task v b → look.commit ≡ plan.commit → IsKnownBy None plan.commit v → IsFound v.now look.commit Whole → IsTree v.now → IsPinned lane b look.commit → Keeps lane b b'
    → Resetting lane (record look { found = Some Whole }) plan v b'
looked lane look plan v b b' f same known found tree pin keeps = record {
  change = facts_gain lane (planned plan).task v b b' keeps f;
  same = same;
  commit = found_now v plan.commit tree plan.sum known (subst (λ c. IsFound v.now c Whole) same found);
  pinned = pinned_on lane b b' keeps.pins plan.commit (subst (IsPinned lane b) same pin);
}

-- and after the sync it lasts
synced : (lane : ℕ) (plan : Plan) (v : View) (b b' : Books) → Facts lane (planned plan).task v b → IsFinishedNow v plan.commit → IsPinned lane b plan.commit → Keeps lane b b' → Changing lane (planned plan) (all_synced v) b'
synced lane plan v b b' f finished pin keeps = record {
  ref = facts_gain lane (planned plan).task (all_synced v) b b' keeps (facts_synced lane plan v b f);
  founded = finished_synced v plan.commit finished;
  pinned = pinned_on lane b b' keeps.pins plan.commit pin;
}

reset_next : (found : Option Found) (actor lane : ℕ) (look : LookUp) (plan : Plan) (new : RefCommand) (v w : View) (b b' : Books) → Facts lane (planned plan).task v b → look.commit ≡ plan.commit → IsKnownBy found plan.commit v → IsPinnedBy found lane b plan.commit → Stood (found_kind found look.commit) actor lane b
    → reset_leaves found look plan turn.More new v w → Keeps lane b b' → command_facts lane new w b'
reset_next None actor lane look plan (Reset next p) v w b b' f same known pin stood l keeps =
    subst (λ (x : Plan). Resetting lane next x w b') (sym l.1)
    (subst (λ (x : LookUp). Resetting lane x plan w b') (sym l.0.1)
    (subst (λ (x : View). Resetting lane (record look { found = Some Whole }) plan x b') (sym l.0.0) (looked lane look plan v b b' f same known l.0.2 l.0.3 (stood.pin (commit_name look.commit) refl) keeps)))
reset_next None actor lane look plan (Parse next) v w b b' f same known pin stood l keeps = absurd l
reset_next None actor lane look plan (Change work) v w b b' f same known pin stood l keeps = absurd l
reset_next (Some found) actor lane look plan (Change work) v w b b' f same known pin stood l keeps =
    subst (λ (x : RefWork). Changing lane x w b') (sym l.0)
    (subst (λ (x : View). Changing lane (planned plan) x b') (sym l.1) (synced lane plan v b b' f known pin keeps))
reset_next (Some found) actor lane look plan (Parse next) v w b b' f same known pin stood l keeps = absurd l
reset_next (Some found) actor lane look plan (Reset next p) v w b b' f same known pin stood l keeps = absurd l

-- a change names the same commit till its end
change_next : (actor lane : ℕ) (work new : RefWork) (v w : View) (b b' : Books) → Stood (ref_kind work) actor lane b → Changing lane work v b → ref_leaves work turn.More new v w → Keeps lane b b' → Owned (ref_kind work) lane b b' → Changing lane new w b'
change_next actor lane work new v w b b' stood f l keeps own = record {
  ref = ref_laws.next actor lane work new v w b b' stood f.ref l keeps own;
  founded = subst (λ o. IsFounded o w) (sym (ap (λ (x : store.Change). x.value) l.stepped.0)) (founded_own work.task v w lane f.ref.needs f.ref.mine l.writes work.task.value f.founded);
  pinned = subst (λ o. IsPinnedFor o lane b') (sym (ap (λ (x : store.Change). x.value) l.stepped.0)) (pinned_for_on lane b b' keeps.pins work.task.value f.pinned);
}

next_of : (actor lane : ℕ) (t new : RefCommand) (v w : View) (b b' : Books) → Stood (command_kind t) actor lane b → command_facts lane t v b → command_leaves t turn.More new v w → Keeps lane b b' → Owned (command_kind t) lane b b' → command_facts lane new w b'
next_of actor lane (Parse look) new v w b b' stood f l keeps own = absurd l
next_of actor lane (Reset look plan) new v w b b' stood f l keeps own = reset_next look.found actor lane look plan new v w b b' f.change f.same f.commit f.pinned stood l keeps
next_of actor lane (Change work) (Change new) v w b b' stood f l keeps own = change_next actor lane work new v w b b' stood f l keeps own
next_of actor lane (Change work) (Parse look) v w b b' stood f l keeps own = absurd l
next_of actor lane (Change work) (Reset look plan) v w b b' stood f l keeps own = absurd l

found_claim : (found : Option Found) (commit : List ℕ) → IsClaim (found_kind found commit) → ⊥
found_claim None commit is = is
found_claim (Some found) commit is = is

-- no step makes the folder of a checkout
pub no_command_claim : (t : RefCommand) → IsClaim (command_kind t) → ⊥
no_command_claim (Parse look) is = is
no_command_claim (Reset look plan) is = found_claim look.found look.commit is
no_command_claim (Change work) is = no_claim (store.progress_in work.task.phase) (event work.task) is

pub command_laws : Laws command_kind command_needs command_writes command_stepped command_leaves command_facts
command_laws = record {
  ready = ready_of;
  kept = kept_of;
  gains = λ lane t v b b' keeps same f. gains_of lane t v b b' keeps f;
  duty = duty_of;
  chain = chain_of;
  last = last_of;
  next = next_of;
  claims = λ lane t new v w b name is step f leaves. absurd (no_command_claim t (subst IsClaim (sym is) tt));
}

-- What the last step's answer says, and that each other step leaves fewer.
use Rattle.std.proofs.Common.{◌≡◌, ◌<◌, ◌≤◌, ◌^◌, ℕ, true, false, refl, sym, ◌∙◌, ap, subst, arith, List, length, Option, Some, None, Ok, Err}
use Rattle.fs_trait.specs.declared.task.StepResult.TheVariants as turn
use Rattle.fs_trait.specs.View.{View}
use Rattle.fs_trait.specs.Seen.{shows}
use Rattle.fs_trait.proofs.Effects.{may_now}
use Rattle.repo_layout.specs.Paths.{mark_path}
use Rattle.repo_layout.specs.RefName.{parts_of}
use Rattle.ref_room.proofs.Names.{length-ref_path}
use Rattle.staged_file.specs.declared.phase.Phase as staged
use Rattle.staged_file.specs.declared.phase.Phase.TheVariants as file
use Rattle.staged_file.specs.Staged as staging
use Rattle.ref_store.specs.declared.phase.Phase.{Phase}
use Rattle.ref_store.specs.declared.phase.Phase.TheVariants as phase
use Rattle.ref_store.specs.declared.refusal.RefRefusal.TheVariants as refusal
use Rattle.ref_store.specs.Change as store
use Rattle.ref_store.specs.Change.{IsLast, progress_in, progress_of}
use Rattle.ref_command.specs.declared.answer.RefAnswer.{RefAnswer}
use Rattle.ref_command.specs.declared.answer.RefAnswer.TheVariants as answer
use Rattle.rely_guarantee.specs.declared.event.Event.{Event}
use Rattle.rely_guarantee.specs.Books.{Books}
use Rattle.rely_guarantee.specs.SystemInvariant.{Stands}
use Rattle.rely_guarantee.specs.State.{SystemState}
use Rattle.rely_guarantee.specs.declared.books.Entry.{Entry}
use Rattle.rely_guarantee.specs.declared.books.Pending.{Pending}
use Rattle.rely_guarantee.specs.Laws.{MakeDurable}
use Rattle.ref_command.specs.declared.work.RefWork.{RefWork}
use Rattle.ref_command.specs.declared.look_up.LookUp.{LookUp}
use Rattle.ref_command.specs.declared.plan.Plan.{Plan}
use Rattle.ref_command.specs.declared.command.RefCommand.{RefCommand}
use Rattle.ref_command.specs.declared.command.RefCommand.TheVariants.{Parse, Reset, Change}
use Rattle.ref_command.specs.declared.look_up.Found.{Found}
use Rattle.ref_command.specs.declared.look_up.Found.TheVariants.{Missing, Partial, Whole}
use Rattle.ref_command.specs.Found.{IsFound}
use Rattle.ref_command.specs.Kinds.{Answer, event, kind_in, put_kind, leaves_in}
use Rattle.ref_command.specs.Facts.{Facts, IsRunning, StagingPathFree}
use Rattle.ref_command.specs.Commands.{planned, IsStop, parse_answer, reset_answer, change_answer, answer_of, reset_stepped, reset_leaves, reset_left, Changing, command_facts, command_leaves, command_stepped, command_left, removal}
use Rattle.ref_command.specs.Answers.{Begins, Says}
use Rattle.ref_command.specs.Founded.{IsKnownBy}
use Rattle.ref_command.specs.Pins.{IsPinnedBy}
use Rattle.ref_command.proofs.Homes.{begins_change}

parse_says : (found : Found) (commit : List ℕ) (a : RefAnswer) (t : RefCommand) (v w : View) → parse_answer (Some found) commit ≡ Some a → IsFound v.now commit found → Says a t v w
parse_says Missing commit a t v w e is = let k : answer.NoCommit commit ≡ a = cc in subst (λ x. Says x t v w) k is
parse_says Partial commit a t v w e is = let k : answer.Partial commit ≡ a = cc in subst (λ x. Says x t v w) k is
parse_says Whole commit a t v w e is = let k : answer.Commit commit ≡ a = cc in subst (λ x. Says x t v w) k is

reset_says : (found : Found) (commit : List ℕ) (a : RefAnswer) (t : RefCommand) (v w : View) → IsStop found → reset_answer (Some found) commit ≡ Some a → IsFound v.now commit found → Says a t v w
reset_says Missing commit a t v w stop e is = let k : answer.NoCommit commit ≡ a = cc in subst (λ x. Says x t v w) k is
reset_says Partial commit a t v w stop e is = let k : answer.Partial commit ≡ a = cc in subst (λ x. Says x t v w) k is
reset_says Whole commit a t v w stop e is = absurd stop

put_makes_durable : (ph : staged.Phase) (e : Event) → staging.is_last ph ≡ true → IsRunning (progress_of ph) → put_kind ph e ≡ MakeDurable e
put_makes_durable file.SyncFolder e last runs = refl
put_makes_durable file.Ended e last runs = absurd runs
put_makes_durable file.Clear e last runs = let n : false ≡ true = last in cc
put_makes_durable file.Create e last runs = let n : false ≡ true = last in cc
put_makes_durable file.Append e last runs = let n : false ≡ true = last in cc
put_makes_durable file.SyncFile e last runs = let n : false ≡ true = last in cc
put_makes_durable file.Look e last runs = let n : false ≡ true = last in cc
put_makes_durable file.Replace e last runs = let n : false ≡ true = last in cc

pub makes_durable_in : (ph : Phase) (e : Event) → IsLast ph → IsRunning (progress_in ph) → kind_in ph e ≡ MakeDurable e
makes_durable_in phase.Look e last runs = absurd last
makes_durable_in (phase.Clear c) e last runs = absurd last
makes_durable_in (phase.Walk y) e last runs = absurd last
makes_durable_in (phase.Put g) e last runs = put_makes_durable g.phase e last runs
makes_durable_in phase.Unlink e last runs = absurd last
makes_durable_in phase.SyncFolder e last runs = refl
makes_durable_in phase.Ended e last runs = absurd runs

change_says : (lane : ℕ) (work new : RefWork) (r : Answer) (v w : View) (b : Books) (a : RefAnswer) → Facts lane work.task v b → leaves_in (turn.Done tt) r work.task new.task v w → change_answer r ≡ Some a → Says a (Change work) v w
change_says lane work new None v w b a f l e = absurd l
change_says lane work new (Some (Ok x)) v w b a f l e =
    let k : answer.Changed ≡ a = cc in
    subst (λ y. Says y (Change work) v w) k (makes_durable_in work.task.phase (event work.task) l.stepped.1 f.runs)
change_says lane work new (Some (Err (refusal.RefMoved seen now))) v w b a f l e =
    let k : answer.RefMoved seen now ≡ a = cc in
    subst (λ y. Says y (Change work) v w) k (work.task.name, (refl, sym l.tells.1), l.tells.2, l.tells.3)
change_says lane work new (Some (Err (refusal.RefClash other))) v w b a f l e =
    let k : answer.RefClash other ≡ a = cc in
    subst (λ y. Says y (Change work) v w) k (work.task.name, work.task.seen, (refl, refl), l.tells.1)
change_says lane work new (Some (Err refusal.NoRef)) v w b a f l e = absurd l.tells

stopped_says : (o : Option Found) (look : LookUp) (plan : Plan) (new : RefCommand) (v w : View) (a : RefAnswer) → reset_leaves o look plan (turn.Done tt) new v w → answer_of new ≡ Some a → Says a (Reset look plan) v w
stopped_says None look plan (Reset next p) v w a l e =
    let at : reset_answer (Some l.0) look.commit ≡ Some a = sym (ap (λ (x : LookUp). reset_answer x.found x.commit) l.2.1) ∙ e in
    reset_says l.0 look.commit a (Reset look plan) v w l.1 at l.2.2
stopped_says None look plan (Parse next) v w a l e = absurd l
stopped_says None look plan (Change work) v w a l e = absurd l
stopped_says (Some found) look plan new v w a l e = absurd l

pub says_of : (lane : ℕ) (t new : RefCommand) (v w : View) (b : Books) (a : RefAnswer) → command_facts lane t v b → command_leaves t (turn.Done tt) new v w → answer_of new ≡ Some a → Says a t v w
says_of lane (Parse look) (Parse new) v w b a f l e =
    let at : parse_answer (Some l.0) look.commit ≡ Some a = sym (ap (λ (x : LookUp). parse_answer x.found x.commit) l.1.1) ∙ e in
    parse_says l.0 look.commit a (Parse look) v w at l.1.2
says_of lane (Parse look) (Reset new plan) v w b a f l e = absurd l
says_of lane (Parse look) (Change work) v w b a f l e = absurd l
says_of lane (Reset look plan) new v w b a f l e = stopped_says look.found look plan new v w a l e
says_of lane (Change work) (Change new) v w b a f l e = change_says lane work new new.answer v w b a f.ref l e
says_of lane (Change work) (Parse look) v w b a f l e = absurd l
says_of lane (Change work) (Reset look plan) v w b a f l e = absurd l

-- fewer steps
planned_left : (plan : Plan) (found : Found) → length (parts_of plan.name) ≤ 12 → store.left (planned plan).task < reset_left (Some found)
planned_left plan found few = omega (arith, length-ref_path plan.name, few)

reset_falls : (o : Option Found) (look : LookUp) (plan : Plan) (new : RefCommand) → reset_stepped o look plan turn.More new → command_left new < reset_left o
reset_falls None look plan (Reset next p) step = subst (λ (x : LookUp). reset_left x.found < reset_left None) (sym step.0) (omega arith)
reset_falls None look plan (Parse next) step = absurd step
reset_falls None look plan (Change work) step = absurd step
reset_falls (Some found) look plan (Change work) step = subst (λ (x : RefWork). store.left x.task < reset_left (Some found)) (sym step) (planned_left plan found plan.parts)
reset_falls (Some found) look plan (Parse next) step = absurd step
reset_falls (Some found) look plan (Reset next p) step = absurd step

pub falls_always : (t new : RefCommand) → command_stepped t turn.More new → command_left new < command_left t
falls_always (Parse look) new step = absurd step
falls_always (Reset look plan) new step = reset_falls look.found look plan new step
falls_always (Change work) (Change new) step = step.1
falls_always (Change work) (Parse look) step = absurd step
falls_always (Change work) (Reset look plan) step = absurd step

pub falls_of : (lane : ℕ) (t new : RefCommand) (v : View) (b : Books) → command_facts lane t v b → command_stepped t turn.More new → command_left new < command_left t
falls_of lane t new v b f step = falls_always t new step

-- the facts at the beginning
pub begins_of : (start : SystemState) (entries : List Entry) (pending : Option Pending) (lane : ℕ) (v : View) (b : Books) (t : RefCommand) → Stands start entries pending v → StagingPathFree lane v → Begins lane t → command_facts lane t v b
begins_of start entries pending lane v b (Parse look) stands home begins = tt
begins_of start entries pending lane v b (Reset look plan) stands home begins = record {
  change = subst (λ l. Facts lane (record { actor = l; name = plan.name; seen = plan.seen; value = Some plan.commit; phase = phase.Look }) v b) (sym begins.0)
      (begins_change start entries pending lane v b stands home begins.1 plan.name plan.seen (Some plan.commit) begins.2 (λ e. let n : Some plan.commit ≡ None = e in cc));
  same = begins.4;
  commit = subst (λ o. IsKnownBy o plan.commit v) (sym begins.3) (stands.kinds (mark_path plan.commit) (shows v.now (mark_path plan.commit)) (may_now v (mark_path plan.commit)));
  pinned = subst (λ o. IsPinnedBy o lane b plan.commit) (sym begins.3) tt;
}
begins_of start entries pending lane v b (Change work) stands home begins =
    subst (λ (x : RefWork). Changing lane x v b) (sym begins.2)
    (record { ref = begins_change start entries pending lane v b stands home begins.3 begins.0 (Some begins.1) None begins.4 (λ none. refl); founded = tt; pinned = tt })

-- a removal that hasn't begun has fewer steps before it than a number has bits for
pub removal_left : (t : RefCommand) (lane : ℕ) (name seen : List ℕ) → t ≡ Change (removal lane name seen) → length (parts_of name) ≤ 12 → command_left t < 2 ^ 128
removal_left t lane name seen is few = subst (λ (x : RefCommand). command_left x < 2 ^ 128) (sym is) (omega (arith, length-ref_path name, few))

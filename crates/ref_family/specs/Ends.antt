-- What a command on refs answers, by its last step.
use Rattle.std.proofs.Common.{◌≡◌, ℕ, refl, sym, ap, subst, List, Option, Some, None, Ok, Err}
use Rattle.fs_trait.specs.declared.task.StepResult.TheVariants as turn
use Rattle.ref_store.specs.declared.phase.Phase.{Phase}
use Rattle.ref_store.specs.declared.phase.Phase.TheVariants as phase
use Rattle.ref_store.specs.declared.refusal.RefRefusal.TheVariants as refusal
use Rattle.ref_store.specs.Change.{IsRefusing, progress_in}
use Rattle.script.specs.declared.command.Rev.{Rev}
use Rattle.rely_guarantee.specs.declared.event.Event.{Event}
use Rattle.rely_guarantee.specs.Laws.{IsMakeDurable}
use Rattle.rely_guarantee.specs.State.{State}
use Rattle.ref_command.specs.declared.answer.RefAnswer.{RefAnswer}
use Rattle.ref_command.specs.declared.answer.RefAnswer.TheVariants as answer
use Rattle.ref_command.specs.declared.work.RefWork.{RefWork}
use Rattle.ref_command.specs.declared.look_up.LookUp.{LookUp}
use Rattle.ref_command.specs.declared.look_up.Found.{Found}
use Rattle.ref_command.specs.declared.look_up.Found.TheVariants.{Missing, Partial, Whole}
use Rattle.ref_command.specs.declared.plan.Plan.{Plan}
use Rattle.ref_command.specs.declared.command.RefCommand.{RefCommand}
use Rattle.ref_command.specs.declared.command.RefCommand.TheVariants.{Parse, Reset, Change}
use Rattle.ref_command.specs.Commands.{IsStop, answer_of, change_answer, command_kind, command_stepped, found_kind, parse_answer, reset_answer, reset_stepped}
use Rattle.ref_command.specs.Kinds.{Answer as Came, event, kind_in, stepped_in}
use Rattle.ref_command.specs.Facts.{IsRunning}
use Rattle.ref_command.proofs.Ends.{makes_durable_in}
use Rattle.command.specs.Revisions.{IsRev}
use Rattle.ref_family.specs.declared.words.RefWords.{RefWords}
use Rattle.ref_family.specs.declared.words.RefWords.TheVariants as words
use Rattle.ref_family.specs.Family.{ref_makes, ref_pursues, ref_says}

-- It has an answer, which says what is so, and that the change was made exactly where the step made it last.
pub record Ends (s : State) (c : RefWords) (t new : RefCommand) : Type 0 where
  pub given : RefAnswer
  pub answer : answer_of new ≡ Some given
  pub says : ref_says s given c
  pub makes : IsMakeDurable (command_kind t) → ref_makes given c
  pub makes_not : (IsMakeDurable (command_kind t) → ⊥) → ref_makes given c → ⊥

parse_ends : (s : State) (rev : Rev) (look new : LookUp) (found : Found) → new ≡ record look { found = Some found } → IsRev rev s look.commit → Ends s (words.RevParse rev) (Parse look) (Parse new)
parse_ends s rev look new Missing is names = record { given = answer.NoCommit look.commit; answer = ap (λ (x : LookUp). parse_answer x.found x.commit) is; says = names; makes = λ k. k; makes_not = λ k m. m }
parse_ends s rev look new Partial is names = record { given = answer.Partial look.commit; answer = ap (λ (x : LookUp). parse_answer x.found x.commit) is; says = names; makes = λ k. k; makes_not = λ k m. m }
parse_ends s rev look new Whole is names = record { given = answer.Commit look.commit; answer = ap (λ (x : LookUp). parse_answer x.found x.commit) is; says = names; makes = λ k. k; makes_not = λ k m. m }

not_make_durable : (o : Option Found) (commit : List ℕ) → IsMakeDurable (found_kind o commit) → ⊥
not_make_durable None commit k = k
not_make_durable (Some f) commit k = k

stopped : (s : State) (branch commit : List ℕ) (look new : LookUp) (plan next : Plan) (found : Found) → IsStop found → new ≡ record look { found = Some found } → look.commit ≡ commit → Ends s (words.Reset branch commit) (Reset look plan) (Reset new next)
stopped s branch commit look new plan next Missing stop is names = record { given = answer.NoCommit look.commit; answer = ap (λ (x : LookUp). reset_answer x.found x.commit) is; says = names; makes = λ k. absurd (not_make_durable look.found look.commit k); makes_not = λ k m. m }
stopped s branch commit look new plan next Partial stop is names = record { given = answer.Partial look.commit; answer = ap (λ (x : LookUp). reset_answer x.found x.commit) is; says = names; makes = λ k. absurd (not_make_durable look.found look.commit k); makes_not = λ k m. m }
stopped s branch commit look new plan next Whole stop is names = absurd stop

reset_ends : (s : State) (branch commit : List ℕ) (o : Option Found) (look : LookUp) (plan : Plan) (new : RefCommand) → reset_stepped o look plan (turn.Done tt) new → look.commit ≡ commit → Ends s (words.Reset branch commit) (Reset look plan) new
reset_ends s branch commit None look plan (Reset next p) step names = stopped s branch commit look next plan p step.0 step.1 step.2 names
reset_ends s branch commit None look plan (Parse next) step names = absurd step
reset_ends s branch commit None look plan (Change work) step names = absurd step
reset_ends s branch commit (Some f) look plan new step names = absurd step

pub refusing : (ph : Phase) (e : Event) → IsRefusing ph → IsMakeDurable (kind_in ph e) → ⊥
refusing phase.Look e may k = k
refusing (phase.Clear c) e may k = k
refusing (phase.Walk w) e may k = k
refusing (phase.Put f) e may k = absurd may
refusing phase.Unlink e may k = absurd may
refusing phase.SyncFolder e may k = absurd may
refusing phase.Ended e may k = absurd may

-- a change that was made, and one that was refused
reset_change : (s : State) (branch commit : List ℕ) (work new : RefWork) (r : Came) → new.answer ≡ r → stepped_in (turn.Done tt) r work.task new.task → IsRunning (progress_in work.task.phase) → Ends s (words.Reset branch commit) (Change work) (Change new)
reset_change s branch commit work new None is step runs = absurd step
reset_change s branch commit work new (Some (Ok x)) is step runs = record { given = answer.Changed; answer = ap change_answer is; says = tt; makes = λ k. tt; makes_not = λ none m. none (subst IsMakeDurable (sym (makes_durable_in work.task.phase (event work.task) step.0.1 runs)) tt) }
reset_change s branch commit work new (Some (Err (refusal.RefMoved seen now))) is step runs = record { given = answer.RefMoved seen now; answer = ap change_answer is; says = tt; makes = λ k. absurd (refusing work.task.phase (event work.task) step.1 k); makes_not = λ k m. m }
reset_change s branch commit work new (Some (Err (refusal.RefClash other))) is step runs = record { given = answer.RefClash other; answer = ap change_answer is; says = tt; makes = λ k. absurd (refusing work.task.phase (event work.task) step.1 k); makes_not = λ k m. m }
reset_change s branch commit work new (Some (Err refusal.NoRef)) is step runs = record { given = answer.NoRef; answer = ap change_answer is; says = tt; makes = λ k. absurd (refusing work.task.phase (event work.task) step.1 k); makes_not = λ k m. m }

drop_change : (s : State) (branch : List ℕ) (work new : RefWork) (r : Came) → new.answer ≡ r → stepped_in (turn.Done tt) r work.task new.task → IsRunning (progress_in work.task.phase) → Ends s (words.DropRef branch) (Change work) (Change new)
drop_change s branch work new None is step runs = absurd step
drop_change s branch work new (Some (Ok x)) is step runs = record { given = answer.Changed; answer = ap change_answer is; says = tt; makes = λ k. tt; makes_not = λ none m. none (subst IsMakeDurable (sym (makes_durable_in work.task.phase (event work.task) step.0.1 runs)) tt) }
drop_change s branch work new (Some (Err (refusal.RefMoved seen now))) is step runs = record { given = answer.RefMoved seen now; answer = ap change_answer is; says = tt; makes = λ k. absurd (refusing work.task.phase (event work.task) step.1 k); makes_not = λ k m. m }
drop_change s branch work new (Some (Err (refusal.RefClash other))) is step runs = record { given = answer.RefClash other; answer = ap change_answer is; says = tt; makes = λ k. absurd (refusing work.task.phase (event work.task) step.1 k); makes_not = λ k m. m }
drop_change s branch work new (Some (Err refusal.NoRef)) is step runs = record { given = answer.NoRef; answer = ap change_answer is; says = tt; makes = λ k. absurd (refusing work.task.phase (event work.task) step.1 k); makes_not = λ k m. m }

pub ref_ends : (s : State) (c : RefWords) (t new : RefCommand) → ref_pursues s c t → command_stepped t (turn.Done tt) new → Ends s c t new
ref_ends s (words.RevParse rev) (Parse look) (Parse new) is step = parse_ends s rev look new step.0 step.1 is
ref_ends s c (Parse look) (Reset l k) is step = absurd step
ref_ends s c (Parse look) (Change w) is step = absurd step
ref_ends s (words.Reset branch commit) (Parse look) new is step = absurd is
ref_ends s (words.DropRef branch) (Parse look) new is step = absurd is
ref_ends s (words.Reset branch commit) (Reset look plan) new is step = reset_ends s branch commit look.found look plan new step is.0
ref_ends s (words.RevParse rev) (Reset look plan) new is step = absurd is
ref_ends s (words.DropRef branch) (Reset look plan) new is step = absurd is
ref_ends s c (Change work) (Parse look) is step = absurd step
ref_ends s c (Change work) (Reset look plan) is step = absurd step
ref_ends s (words.Reset branch commit) (Change work) (Change new) is step = reset_change s branch commit work new new.answer refl step is.3
ref_ends s (words.DropRef branch) (Change work) (Change new) is step = drop_change s branch work new new.answer refl step is.0.3
ref_ends s (words.RevParse rev) (Change work) (Change new) is step = absurd is

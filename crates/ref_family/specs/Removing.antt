-- No command on refs removes an object, and only its look-up tells that a commit isn't there.
use Rattle.std.proofs.Common.{◌≡◌, inr, ℕ, refl, List, Option, Some, None, Ok, Err}
use Rattle.fs_trait.specs.declared.task.StepResult.TheVariants as turn
use Rattle.fs_trait.specs.View.{View}
use Rattle.ref_store.specs.declared.progress.Progress.{Progress}
use Rattle.ref_store.specs.declared.progress.Progress.TheVariants as progress
use Rattle.ref_store.specs.declared.refusal.RefRefusal.TheVariants as refusal
use Rattle.ref_store.specs.Change.{Change as Changing, progress_in}
use Rattle.rely_guarantee.specs.declared.event.Event.{Event}
use Rattle.rely_guarantee.specs.Laws.{Take}
use Rattle.ref_command.specs.declared.answer.RefAnswer.{RefAnswer}
use Rattle.ref_command.specs.declared.answer.RefAnswer.TheVariants as answer
use Rattle.ref_command.specs.declared.command.RefCommand.{RefCommand}
use Rattle.ref_command.specs.declared.command.RefCommand.TheVariants.{Parse, Reset, Change}
use Rattle.ref_command.specs.declared.look_up.Found.{Found}
use Rattle.ref_command.specs.declared.look_up.LookUp.{LookUp}
use Rattle.ref_command.specs.declared.plan.Plan.{Plan}
use Rattle.ref_command.specs.Commands.{answer_of, change_answer, command_kind, command_leaves, found_kind, pin_wants, reset_leaves}
use Rattle.ref_command.specs.Kinds.{Answer as Came, event, event_of, kind_at}
use Rattle.command.specs.Removing.{IsAlone, IsPrune, IsRemoving}
use Rattle.ref_family.specs.Family.{ref_lacks}

-- a change of a ref removes no object
change_stays : (value : Option (List ℕ)) (name : List ℕ) (seen : Option (List ℕ)) → IsPrune (event_of value name seen) → ⊥
change_stays (Some commit) name seen is = is
change_stays None name (Some commit) is = is
change_stays None name None is = is

kind_stays : (p : Progress) (e : Event) → (IsPrune e → ⊥) → IsRemoving (kind_at p e) → ⊥
kind_stays progress.Looking e never is = is
kind_stays progress.Preparing e never is = is
kind_stays progress.Showing e never is = is
kind_stays progress.Settling e never is = never is
kind_stays progress.Ended e never is = is

pub ref_stays : (t : Changing) → IsRemoving (kind_at (progress_in t.phase) (event t)) → ⊥
ref_stays t is = kind_stays (progress_in t.phase) (event t) (change_stays t.value t.name t.seen) is

found_stays : (found : Option Found) (commit : List ℕ) → IsRemoving (found_kind found commit) → ⊥
found_stays None commit is = is
found_stays (Some f) commit is = is

pub refs_stay : (t : RefCommand) → IsRemoving (command_kind t) → ⊥
refs_stay (Parse look) is = is
refs_stay (Reset look plan) is = found_stays look.found look.commit is
refs_stay (Change work) is = ref_stays work.task is

-- a pin is asked for
pub pin_alone : (commit : List ℕ) → IsAlone (Take (pin_wants commit))
pin_alone commit = inr (inr (inr refl))

reset_alone : (found : Option Found) (look : LookUp) (plan : Plan) (new : RefCommand) (v w : View) → reset_leaves found look plan (turn.Done tt) new v w → IsAlone (found_kind found look.commit)
reset_alone None look plan new v w leaves = pin_alone look.commit
reset_alone (Some f) look plan new v w leaves = absurd leaves

-- a change of a ref tells of no commit that it isn't there
change_lacks : (came : Came) (a : RefAnswer) (commit : List ℕ) → change_answer came ≡ Some a → ref_lacks a commit → ⊥
change_lacks came (answer.Commit sum) commit given lacks = lacks
change_lacks came answer.Changed commit given lacks = lacks
change_lacks came answer.NoRef commit given lacks = lacks
change_lacks came (answer.RefMoved seen now) commit given lacks = lacks
change_lacks came (answer.RefClash other) commit given lacks = lacks
change_lacks None (answer.NoCommit sum) commit given lacks = cc
change_lacks (Some (Ok x)) (answer.NoCommit sum) commit given lacks = cc
change_lacks (Some (Err (refusal.RefClash other))) (answer.NoCommit sum) commit given lacks = cc
change_lacks (Some (Err (refusal.RefMoved seen now))) (answer.NoCommit sum) commit given lacks = cc
change_lacks (Some (Err refusal.NoRef)) (answer.NoCommit sum) commit given lacks = cc
change_lacks None (answer.Partial sum) commit given lacks = cc
change_lacks (Some (Ok x)) (answer.Partial sum) commit given lacks = cc
change_lacks (Some (Err (refusal.RefClash other))) (answer.Partial sum) commit given lacks = cc
change_lacks (Some (Err (refusal.RefMoved seen now))) (answer.Partial sum) commit given lacks = cc
change_lacks (Some (Err refusal.NoRef)) (answer.Partial sum) commit given lacks = cc

pub refs_alone : (t new : RefCommand) (v w : View) (a : RefAnswer) (commit : List ℕ) → command_leaves t (turn.Done tt) new v w → answer_of new ≡ Some a → ref_lacks a commit → IsAlone (command_kind t)
refs_alone (Parse look) new v w a commit leaves given lacks = pin_alone look.commit
refs_alone (Reset look plan) new v w a commit leaves given lacks = reset_alone look.found look plan new v w leaves
refs_alone (Change work) (Change new) v w a commit leaves given lacks = absurd (change_lacks new.answer a commit given lacks)
refs_alone (Change work) (Parse look) v w a commit leaves given lacks = absurd leaves
refs_alone (Change work) (Reset look plan) v w a commit leaves given lacks = absurd leaves

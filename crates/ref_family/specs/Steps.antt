-- What a command on refs goes on to be after, and what its steps show.
use Rattle.std.proofs.Common.{◌≡◌, ⊎_elim, ℕ, refl, sym, ◌∙◌, ap, subst, List, Option, Some, None, Ok, IsSome, true, false}
use Rattle.fs_trait.specs.declared.task.StepResult.TheVariants as turn
use Rattle.fs_trait.specs.View.{View}
use Rattle.ref_store.specs.declared.progress.Progress.{Progress}
use Rattle.ref_store.specs.declared.progress.Progress.TheVariants as progress
use Rattle.ref_store.specs.Change.{Change as Changing, IsStepped, progress_in}
use Rattle.rely_guarantee.specs.declared.event.Event.{Event}
use Rattle.rely_guarantee.specs.declared.event.Event.TheVariants as event
use Rattle.rely_guarantee.specs.Books.{Books}
use Rattle.rely_guarantee.specs.Laws.{Publish, MakeDurable, Store, IsBy, Holds, NotPending}
use Rattle.rely_guarantee.specs.State.{State, RefOf, list_in}
use Rattle.ref_command.specs.declared.work.RefWork.{RefWork}
use Rattle.ref_command.specs.declared.look_up.LookUp.{LookUp}
use Rattle.ref_command.specs.declared.look_up.Found.{Found}
use Rattle.ref_command.specs.declared.plan.Plan.{Plan}
use Rattle.ref_command.specs.declared.command.RefCommand.{RefCommand}
use Rattle.ref_command.specs.declared.command.RefCommand.TheVariants.{Parse, Reset, Change}
use Rattle.ref_command.specs.Answers.{Begins}
use Rattle.ref_command.specs.Commands.{command_facts, command_kind, command_stepped, found_kind, reset_stepped}
use Rattle.ref_command.specs.Kinds.{event, event_of, kind_at, kind_in}
use Rattle.ref_command.specs.Laws.{runs_in}
use Rattle.ref_command.proofs.Resets.{reset_founded}
use Rattle.ref_command.proofs.Steps.{kind_shows}
use Rattle.command.specs.ChangeLaws.{Founds}
use Rattle.ref_family.specs.declared.words.RefWords.{RefWords}
use Rattle.ref_family.specs.declared.words.RefWords.TheVariants as words
use Rattle.ref_family.specs.Family.{IsChanging, ref_changes, ref_pursues}

-- only the lane itself takes its steps
found_own : {P : Type 0} (found : Option Found) (commit : List ℕ) → found_kind found commit ≡ Store → P
found_own None commit is = cc
found_own (Some f) commit is = cc

pub change_own : {P : Type 0} (p : Progress) (e : Event) → kind_at p e ≡ Store → P
change_own progress.Looking e is = cc
change_own progress.Preparing e is = cc
change_own progress.Showing e is = cc
change_own progress.Settling e is = cc
change_own progress.Ended e is = cc

pub own_step : (actor lane : ℕ) (t : RefCommand) → IsBy (command_kind t) actor lane → actor ≡ lane
own_step actor lane (Parse look) by = ⊎_elim (λ x. x) (λ k. cc) by
own_step actor lane (Reset look plan) by = ⊎_elim (λ x. x) (λ k. found_own look.found look.commit k) by
own_step actor lane (Change work) by = ⊎_elim (λ x. x) (λ k. change_own (progress_in work.task.phase) (event work.task) k) by

-- at the beginning nothing of it is shown
found_holds : (found : Option Found) (commit : List ℕ) (lane : ℕ) (b : Books) → NotPending lane b → Holds (found_kind found commit) lane b
found_holds None commit lane b none = none
found_holds (Some f) commit lane b none = none

pub ref_holds : (lane : ℕ) (t : RefCommand) (b : Books) → Begins lane t → NotPending lane b → Holds (command_kind t) lane b
ref_holds lane (Parse look) b begins none = none
ref_holds lane (Reset look plan) b begins none = found_holds look.found look.commit lane b none
ref_holds lane (Change work) b begins none = subst (λ (t : Changing). Holds (kind_in t.phase (event t)) lane b) (sym (ap (λ (x : RefWork). x.task) begins.2)) none

-- each step leaves it after the same
pub changing_step : (name : List ℕ) (seen value : Option (List ℕ)) (t new : Changing) → IsStepped t (Ok turn.More) new → IsChanging name seen value t → IsChanging name seen value new
changing_step name seen value t new step is = (
  ap (λ (x : Changing). x.name) step.0 ∙ is.0,
  ap (λ (x : Changing). x.seen) step.0 ∙ is.1,
  ap (λ (x : Changing). x.value) step.0 ∙ is.2,
  runs_in t t.phase new.phase step.1,
)

reset_step : (s : State) (branch commit : List ℕ) (found : Option Found) (look : LookUp) (plan : Plan) (new : RefCommand) → reset_stepped found look plan turn.More new → ref_pursues s (words.Reset branch commit) (Reset look plan) → ref_pursues s (words.Reset branch commit) new
reset_step s branch commit None look plan (Reset next p) step is =
    subst (λ (x : Plan). (next.commit ≡ commit) × (x.name ≡ branch) × (x.seen ≡ s (RefOf branch)) × (x.commit ≡ commit)) (sym step.1) (ap (λ (x : LookUp). x.commit) step.0 ∙ is.0, is.1, is.2, is.3)
reset_step s branch commit None look plan (Parse next) step is = absurd step
reset_step s branch commit None look plan (Change work) step is = absurd step
reset_step s branch commit (Some found) look plan (Change work) step is =
    subst (λ (w : RefWork). IsChanging branch (s (RefOf branch)) (Some commit) w.task) (sym step) (is.1, is.2, ap Some is.3, tt)
reset_step s branch commit (Some found) look plan (Parse next) step is = absurd step
reset_step s branch commit (Some found) look plan (Reset next p) step is = absurd step

pub ref_step : (s : State) (c : RefWords) (t new : RefCommand) → command_stepped t turn.More new → ref_pursues s c t → ref_pursues s c new
ref_step s c (Parse look) new step is = absurd step
ref_step s (words.Reset branch commit) (Reset look plan) new step is = reset_step s branch commit look.found look plan new step is
ref_step s (words.RevParse rev) (Reset look plan) new step is = absurd is
ref_step s (words.DropRef branch) (Reset look plan) new step is = absurd is
ref_step s c (Change work) (Parse look) step is = absurd step
ref_step s c (Change work) (Reset look plan) step is = absurd step
ref_step s (words.Reset branch commit) (Change work) (Change new) step is = changing_step branch (s (RefOf branch)) (Some commit) work.task new.task step.0 is
ref_step s (words.DropRef branch) (Change work) (Change new) step is = (changing_step branch (s (RefOf branch)) None work.task new.task step.0 is.0, is.1)
ref_step s (words.RevParse rev) (Change work) (Change new) step is = absurd is

-- what it shows and makes last is its change
drop_event : (seen : Option (List ℕ)) (branch : List ℕ) → IsSome seen → (x : List ℕ) × (seen ≡ Some x) × (event_of None branch seen ≡ event.DropRef branch x)
drop_event (Some x) branch some = (x, refl, refl)
drop_event None branch some = let z : false ≡ true = some in cc

pub event_is : (name : List ℕ) (seen value : Option (List ℕ)) (t : Changing) → IsChanging name seen value t → event t ≡ event_of value name seen
event_is name seen value t is = ap (λ v. event_of v t.name t.seen) is.2 ∙ ap (λ n. event_of value n t.seen) is.0 ∙ ap (event_of value name) is.1

pub change_is : (s : State) (c : RefWords) (work : RefWork) → ref_pursues s c (Change work) → ref_changes s c (event work.task)
change_is s (words.Reset branch commit) work is = event_is branch (s (RefOf branch)) (Some commit) work.task is
change_is s (words.DropRef branch) work is =
    let d = drop_event (s (RefOf branch)) branch is.1 in
    (d.0, d.1, event_is branch (s (RefOf branch)) None work.task is.0 ∙ d.2)
change_is s (words.RevParse rev) work is = absurd is

found_shows : {P : Type 0} (found : Option Found) (commit : List ℕ) (e : Event) → found_kind found commit ≡ Publish e → P
found_shows None commit e is = cc
found_shows (Some f) commit e is = cc

found_makes_durable : {P : Type 0} (found : Option Found) (commit : List ℕ) (e : Event) → found_kind found commit ≡ MakeDurable e → P
found_makes_durable None commit e is = cc
found_makes_durable (Some f) commit e is = cc

pub kind_makes_durable : (p : Progress) (d e : Event) → kind_at p d ≡ MakeDurable e → d ≡ e
kind_makes_durable progress.Settling d e is = cc
kind_makes_durable progress.Looking d e is = cc
kind_makes_durable progress.Preparing d e is = cc
kind_makes_durable progress.Showing d e is = cc
kind_makes_durable progress.Ended d e is = cc

pub ref_shown : (s : State) (c : RefWords) (t : RefCommand) (e : Event) → ref_pursues s c t → command_kind t ≡ Publish e → ref_changes s c e
ref_shown s c (Parse look) e is k = cc
ref_shown s c (Reset look plan) e is k = found_shows look.found look.commit e k
ref_shown s c (Change work) e is k = subst (ref_changes s c) (kind_shows (progress_in work.task.phase) (event work.task) e k) (change_is s c work is)

pub ref_settled : (s : State) (c : RefWords) (t : RefCommand) (e : Event) → ref_pursues s c t → command_kind t ≡ MakeDurable e → ref_changes s c e
ref_settled s c (Parse look) e is k = cc
ref_settled s c (Reset look plan) e is k = found_makes_durable look.found look.commit e k
ref_settled s c (Change work) e is k = subst (ref_changes s c) (kind_makes_durable (progress_in work.task.phase) (event work.task) e k) (change_is s c work is)

-- no change of a ref is one of the list of deployments
pub ref_unlisted : (s : State) (c : RefWords) (e : Event) → ref_changes s c e → list_in e ≡ None
ref_unlisted s (words.RevParse rev) e is = absurd is
ref_unlisted s (words.Reset branch commit) e is = ap list_in is
ref_unlisted s (words.DropRef branch) e is = ap list_in is.2

pub ref_founds : (lane : ℕ) (t : RefCommand) (v : View) (b : Books) (e : Event) → command_facts lane t v b → command_kind t ≡ Publish e → Founds v e
ref_founds lane t v b (event.SetRef name seen commit) f k = reset_founded lane t v b name seen commit f k
ref_founds lane t v b (event.DropRef name seen) f k = tt
ref_founds lane t v b (event.Pruned depth roots held removed) f k = tt
ref_founds lane t v b (event.SetDeployments change list) f k = tt

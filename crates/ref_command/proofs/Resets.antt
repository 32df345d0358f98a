-- A ref is set only to a commit that lasts; and where a command's steps write.
use Rattle.std.proofs.Common.{◌≡◌, ◌⊎◌, ℕ, subst, List, [], Option, Some, None}
use Rattle.ost_types.specs.Path.{Path}
use Rattle.fs_trait.specs.View.{View}
use Rattle.fs_trait.specs.Seen.{Seen}
use Rattle.repo_layout.specs.Place.{Ref, Stage, place}
use Rattle.ref_store.specs.Change as store
use Rattle.rely_guarantee.specs.declared.event.Event.{Event}
use Rattle.rely_guarantee.specs.declared.event.Event.TheVariants.{SetRef, DropRef}
use Rattle.rely_guarantee.specs.Books.{Books}
use Rattle.rely_guarantee.specs.Lasting.{StaysFinished}
use Rattle.rely_guarantee.specs.Laws.{Quiet, Take, Publish}
use Rattle.ref_command.specs.declared.command.RefCommand.{RefCommand}
use Rattle.ref_command.specs.declared.command.RefCommand.TheVariants.{Parse, Reset, Change}
use Rattle.ref_command.specs.declared.look_up.Found.{Found}
use Rattle.ref_command.specs.Kinds.{event, event_of}
use Rattle.ref_command.specs.Founded.{IsFounded}
use Rattle.ref_command.specs.Commands.{command_facts, command_kind, command_writes, found_kind, pin_wants}
use Rattle.ref_command.specs.Placed.{ref_places}
use Rattle.ref_command.proofs.Steps.{kind_shows}

no_publish : (found : Option Found) (commit : List ℕ) (e : Event) → found_kind found commit ≡ Publish e → ⊥
no_publish None commit e is = let n : Take (pin_wants commit) ≡ Publish e = is in cc
no_publish (Some found) commit e is = let n : Quiet ≡ Publish e = is in cc

-- what the event sets the ref to
set_to : (value : Option (List ℕ)) (at : List ℕ) (was : Option (List ℕ)) (name : List ℕ) (seen : Option (List ℕ)) (commit : List ℕ) → event_of value at was ≡ SetRef name seen commit → value ≡ Some commit
set_to (Some c) at was name seen commit is = cc
set_to None at (Some s) name seen commit is = let n : DropRef at s ≡ SetRef name seen commit = is in cc
set_to None at None name seen commit is = let n : DropRef at [] ≡ SetRef name seen commit = is in cc

pub reset_founded : (lane : ℕ) (t : RefCommand) (v : View) (b : Books) (name : List ℕ) (seen : Option (List ℕ)) (commit : List ℕ) → command_facts lane t v b → command_kind t ≡ Publish (SetRef name seen commit) → StaysFinished v commit
reset_founded lane (Parse look) v b name seen commit f is = let n : Take (pin_wants look.commit) ≡ Publish (SetRef name seen commit) = is in cc
reset_founded lane (Reset look plan) v b name seen commit f is = absurd (no_publish look.found look.commit (SetRef name seen commit) is)
reset_founded lane (Change work) v b name seen commit f is =
    let e : event work.task ≡ SetRef name seen commit = kind_shows (store.progress_in work.task.phase) (event work.task) (SetRef name seen commit) is in
    subst (λ o. IsFounded o v) (set_to work.task.value work.task.name work.task.seen name seen commit e) f.founded

pub command_places : (actor lane : ℕ) (t : RefCommand) (v : View) (b : Books) → command_facts lane t v b → (p : Path) (s : Seen) → command_writes actor t v p s → (place p ≡ Stage lane) ⊎ ((other : List ℕ) × (place p ≡ Ref other))
command_places actor lane (Parse look) v b f p s wrote = absurd wrote
command_places actor lane (Reset look plan) v b f p s wrote = absurd wrote
command_places actor lane (Change work) v b f p s wrote = ref_places work.task v lane f.ref.needs f.ref.mine p s wrote

-- What the commands on refs pin, and that they write no object and no checkout.
use Rattle.std.proofs.Common.{◌≡◌, ⊎_elim, ℕ, true, false, refl, sym, ◌∙◌, ap, subst, List, [], Option, Some, None, IsSome}
use Rattle.ost_types.specs.declared.object.Kind.TheVariants.{Commit}
use Rattle.ost_types.specs.declared.object.ObjName.{ObjName}
use Rattle.ost_types.specs.Path.{Path}
use Rattle.fs_trait.specs.Image.{reads}
use Rattle.fs_trait.specs.Seen.{Seen}
use Rattle.fs_trait.specs.View.{View}
use Rattle.repo_layout.specs.BootPaths.{checkout_path}
use Rattle.repo_layout.specs.Paths.{object_path}
use Rattle.repo_layout.specs.Place.{Checkout, Object, Ref, Stage, place}
use Rattle.repo_layout.specs.RefFile.{IsSum}
use Rattle.repo_layout.proofs.Places.{place-checkout, place-object}
use Rattle.repo_model.specs.Objects.{path_of}
use Rattle.ref_store.specs.declared.progress.Progress.{Progress}
use Rattle.ref_store.specs.declared.progress.Progress.TheVariants as progress
use Rattle.ref_store.specs.Change.{progress_in}
use Rattle.rely_guarantee.specs.declared.event.Event.{Event}
use Rattle.rely_guarantee.specs.declared.kind.Wants.{Wants}
use Rattle.rely_guarantee.specs.Books.{Books}
use Rattle.rely_guarantee.specs.Lasting.{StaysFinished}
use Rattle.rely_guarantee.specs.Laws.{Take}
use Rattle.rely_guarantee.specs.Rely.{IsBoot}
use Rattle.rely_guarantee.specs.State.{State}
use Rattle.ref_command.specs.declared.answer.RefAnswer.{RefAnswer}
use Rattle.ref_command.specs.declared.answer.RefAnswer.TheVariants as answer
use Rattle.ref_command.specs.declared.command.RefCommand.{RefCommand}
use Rattle.ref_command.specs.declared.command.RefCommand.TheVariants.{Parse, Reset, Change}
use Rattle.ref_command.specs.declared.look_up.Found.{Found}
use Rattle.ref_command.specs.declared.look_up.Found.TheVariants.{Missing, Partial}
use Rattle.ref_command.specs.Commands.{command_facts, command_kind, command_writes, found_kind, pin_wants}
use Rattle.ref_command.specs.Found.{IsFound, commit_name}
use Rattle.ref_command.specs.Kinds.{event, kind_at, turn_wants}
use Rattle.ref_command.proofs.Resets.{command_places}
use Rattle.command.specs.CommitFiles.{CommitsAreFiles, commit_read, no_mark_read}
use Rattle.command.specs.LockLaws.{AsksInOrder, asks_in_order}
use Rattle.ref_family.specs.declared.words.RefWords.{RefWords}
use Rattle.ref_family.specs.declared.words.RefWords.TheVariants as words
use Rattle.ref_family.specs.Family.{ref_lacks, ref_pursues, ref_shows, ref_works}

pinned : (commit : List ℕ) (wants : Wants) (name : ObjName) → Take (pin_wants commit) ≡ Take wants → wants.pin ≡ Some name → name ≡ commit_name commit
pinned commit wants name is pin =
    let same : pin_wants commit ≡ wants = cc in
    let at : Some (commit_name commit) ≡ Some name = ap (λ (x : Wants). x.pin) same ∙ pin in
    cc

found_pins : (found : Option Found) (commit : List ℕ) (wants : Wants) (name : ObjName) → found_kind found commit ≡ Take wants → wants.pin ≡ Some name → name ≡ commit_name commit
found_pins None commit wants name is pin = pinned commit wants name is pin
found_pins (Some found) commit wants name is pin = cc

no_pin : {P : Type 0} (p : Progress) (e : Event) (wants : Wants) (name : ObjName) → kind_at p e ≡ Take wants → wants.pin ≡ Some name → P
no_pin progress.Looking e wants name is pin =
    let same : turn_wants ≡ wants = cc in
    let at : None ≡ Some name = ap (λ (x : Wants). x.pin) same ∙ pin in
    cc
no_pin progress.Preparing e wants name is pin = cc
no_pin progress.Showing e wants name is pin = cc
no_pin progress.Settling e wants name is pin = cc
no_pin progress.Ended e wants name is pin = cc

pub pins_work : (s : State) (c : RefWords) (t : RefCommand) (wants : Wants) (name : ObjName) → ref_pursues s c t → command_kind t ≡ Take wants → wants.pin ≡ Some name → ref_works s c name
pins_work s (words.RevParse rev) (Parse look) wants name is kind pin = (look.commit, is, pinned look.commit wants name kind pin)
pins_work s (words.Reset branch commit) (Parse look) wants name is kind pin = absurd is
pins_work s (words.DropRef branch) (Parse look) wants name is kind pin = absurd is
pins_work s (words.Reset branch commit) (Reset look plan) wants name is kind pin = found_pins look.found look.commit wants name kind pin ∙ ap commit_name is.0
pins_work s (words.RevParse rev) (Reset look plan) wants name is kind pin = absurd is
pins_work s (words.DropRef branch) (Reset look plan) wants name is kind pin = absurd is
pins_work s c (Change work) wants name is kind pin = no_pin (progress_in work.task.phase) (event work.task) wants name kind pin

-- no lock is asked for but that of the refs
pin_light : (commit : List ℕ) (wants : Wants) → Take (pin_wants commit) ≡ Take wants → AsksInOrder wants
pin_light commit wants is = let same : pin_wants commit ≡ wants = cc in subst AsksInOrder same (asks_in_order (pin_wants commit) (refl, refl, refl))

found_light : (found : Option Found) (commit : List ℕ) (wants : Wants) → found_kind found commit ≡ Take wants → AsksInOrder wants
found_light None commit wants is = pin_light commit wants is
found_light (Some found) commit wants is = cc

pub change_light : (p : Progress) (e : Event) (wants : Wants) → kind_at p e ≡ Take wants → AsksInOrder wants
change_light progress.Looking e wants is = let same : turn_wants ≡ wants = cc in subst AsksInOrder same (asks_in_order turn_wants (refl, refl, refl))
change_light progress.Preparing e wants is = cc
change_light progress.Showing e wants is = cc
change_light progress.Settling e wants is = cc
change_light progress.Ended e wants is = cc

pub refs_light : (t : RefCommand) (wants : Wants) → command_kind t ≡ Take wants → AsksInOrder wants
refs_light (Parse look) wants is = pin_light look.commit wants is
refs_light (Reset look plan) wants is = found_light look.found look.commit wants is
refs_light (Change work) wants is = change_light (progress_in work.task.phase) (event work.task) wants is

-- nothing is written at an object's path, nor at a checkout's
pub no_object : {P : Type 0} (actor lane : ℕ) (t : RefCommand) (v : View) (b : Books) (name : ObjName) (s : Seen) → command_facts lane t v b → IsSum name.csum → command_writes actor t v (path_of name) s → P
no_object actor lane t v b name s f sum wrote = absurd (⊎_elim
    (λ stage. (let n : Object name.kind name.csum ≡ Stage lane = sym (place-object name.kind name.csum sum) ∙ stage in cc))
    (λ ref. (let n : Object name.kind name.csum ≡ Ref ref.0 = sym (place-object name.kind name.csum sum) ∙ ref.1 in cc))
    (command_places actor lane t v b f (path_of name) s wrote))

pub no_checkout : {P : Type 0} (actor lane : ℕ) (t : RefCommand) (v : View) (b : Books) (name : List ℕ) (s : Seen) → command_facts lane t v b → command_writes actor t v (checkout_path name) s → P
no_checkout actor lane t v b name s f wrote = absurd (⊎_elim
    (λ stage. (let n : Checkout name [] ≡ Stage lane = sym (place-checkout name []) ∙ stage in cc))
    (λ ref. (let n : Checkout name [] ≡ Ref ref.0 = sym (place-checkout name []) ∙ ref.1 in cc))
    (command_places actor lane t v b f (checkout_path name) s wrote))

-- nor where what boots stands
pub no_boot : (actor lane : ℕ) (t : RefCommand) (v : View) (b : Books) (p : Path) (s : Seen) → command_facts lane t v b → command_writes actor t v p s → IsBoot (place p) → ⊥
no_boot actor lane t v b p s f wrote boot = ⊎_elim
    (λ stage. (let n : IsBoot (Stage lane) = subst IsBoot stage boot in n))
    (λ ref. (let n : IsBoot (Ref ref.0) = subst IsBoot ref.1 boot in n))
    (command_places actor lane t v b f p s wrote)

none_not : {A : Type 0} (o : Option A) → o ≡ None → IsSome o → ⊥
none_not o none some = let n : false ≡ true = subst IsSome none some in cc

-- a commit that lasts is found whole, where commits are files
pub lacks_none : (v : View) (a : RefAnswer) (c : RefWords) (commit : List ℕ) → CommitsAreFiles v.now → ref_shows v a c → ref_lacks a commit → StaysFinished v commit → ⊥
lacks_none v (answer.NoCommit sum) c commit files seen is finished =
    let missing : IsFound v.now commit Missing = subst (λ x. IsFound v.now x Missing) is seen in
    none_not (reads v.now (object_path Commit commit)) missing (commit_read v commit files finished)
lacks_none v (answer.Partial sum) c commit files seen is finished =
    let partial : IsFound v.now commit Partial = subst (λ x. IsFound v.now x Partial) is seen in
    no_mark_read v commit finished partial.1
lacks_none v (answer.Commit sum) c commit files seen is finished = is
lacks_none v answer.Changed c commit files seen is finished = is
lacks_none v answer.NoRef c commit files seen is finished = is
lacks_none v (answer.RefMoved was now) c commit files seen is finished = is
lacks_none v (answer.RefClash other) c commit files seen is finished = is

-- What the steps of a command that reads are to the system: each reads, and may pin a commit first.
use Rattle.std.proofs.Common.{◌≡◌, ℕ, ⊎_elim, refl, sym, ◌∙◌, ap, subst, List, [], ◌∷◌, Option, Some, None}
use Rattle.ost_types.specs.declared.object.ObjName.{ObjName}
use Rattle.ost_objects.specs.Object.{IsNamed}
use Rattle.fs_trait.specs.View.{View}
use Rattle.repo_model.specs.Objects.{Stores}
use Rattle.rely_guarantee.specs.declared.event.Event.{Event}
use Rattle.rely_guarantee.specs.declared.kind.Wants.{Wants}
use Rattle.rely_guarantee.specs.Books.{Books}
use Rattle.rely_guarantee.specs.Laws.{Publish, Store, Take, IsBy, IsMakeDurable, Holds, NotPending}
use Rattle.ref_command.specs.Commands.{pin_wants}
use Rattle.ref_command.specs.Found.{commit_name}
use Rattle.script.specs.declared.rows.LogRow.{LogRow}
use Rattle.read_command.specs.declared.command.ReadCommand.{ReadCommand}
use Rattle.read_command.specs.declared.command.ReadCommand.TheVariants.{Look, Cat, Ls, Log, Ended}
use Rattle.read_command.specs.declared.look.Ask.{Ask}
use Rattle.read_command.specs.declared.look.Ask.TheVariants as ask
use Rattle.read_command.specs.Asked.{Asked, asked}
use Rattle.read_command.specs.Chains.{IsChain}
use Rattle.read_command.specs.Commands.{IsNew, read_facts, read_kind}
use Rattle.read_command.specs.Kept.{chain_up}
use Rattle.read_command.specs.LogSteps.{log_kind}
use Rattle.command.specs.Removing.{IsRemoving}
use Rattle.command.specs.LockLaws.{AsksInOrder, asks_in_order}
use Rattle.read_family.specs.Family.{Reaches, reaches_of, works_of}

-- only the lane itself takes its steps, and they show, settle and remove nothing
log_apart : {P : Type 0} (rows : List LogRow) (next : List ℕ) (e : Event) → log_kind rows next ≡ Publish e → P
log_apart [] next e is = cc
log_apart (r ∷ rows) next e is = cc

pub no_publish : {P : Type 0} (t : ReadCommand) (e : Event) → read_kind t ≡ Publish e → P
no_publish (Look l) e is = cc
no_publish (Cat c) e is = cc
no_publish (Ls s) e is = cc
no_publish (Log g) e is = log_apart g.rows.items g.next e is
no_publish (Ended a) e is = cc

log_unsettled : (rows : List LogRow) (next : List ℕ) → IsMakeDurable (log_kind rows next) → ⊥
log_unsettled [] next is = is
log_unsettled (r ∷ rows) next is = is

pub no_make_durable : (t : ReadCommand) → IsMakeDurable (read_kind t) → ⊥
no_make_durable (Look l) is = is
no_make_durable (Cat c) is = is
no_make_durable (Ls s) is = is
no_make_durable (Log g) is = log_unsettled g.rows.items g.next is
no_make_durable (Ended a) is = is

log_stays : (rows : List LogRow) (next : List ℕ) → IsRemoving (log_kind rows next) → ⊥
log_stays [] next is = is
log_stays (r ∷ rows) next is = is

pub reads_stay : (t : ReadCommand) → IsRemoving (read_kind t) → ⊥
reads_stay (Look l) is = is
reads_stay (Cat c) is = is
reads_stay (Ls s) is = is
reads_stay (Log g) is = log_stays g.rows.items g.next is
reads_stay (Ended a) is = is

log_own : {P : Type 0} (rows : List LogRow) (next : List ℕ) → log_kind rows next ≡ Store → P
log_own [] next is = cc
log_own (r ∷ rows) next is = cc

no_store : {P : Type 0} (t : ReadCommand) → read_kind t ≡ Store → P
no_store (Look l) is = cc
no_store (Cat c) is = cc
no_store (Ls s) is = cc
no_store (Log g) is = log_own g.rows.items g.next is
no_store (Ended a) is = cc

pub own_step : (actor lane : ℕ) (t : ReadCommand) → IsBy (read_kind t) actor lane → actor ≡ lane
own_step actor lane t by = ⊎_elim (λ x. x) (λ k. no_store t k) by

pub read_holds : (lane : ℕ) (t : ReadCommand) (b : Books) → IsNew t → NotPending lane b → Holds (read_kind t) lane b
read_holds lane (Look l) b new none = none
read_holds lane (Cat c) b new none = absurd new
read_holds lane (Ls s) b new none = absurd new
read_holds lane (Log g) b new none = absurd new
read_holds lane (Ended a) b new none = absurd new

-- what is pinned
pinned : (commit : List ℕ) (wants : Wants) (name : ObjName) → Take (pin_wants commit) ≡ Take wants → wants.pin ≡ Some name → name ≡ commit_name commit
pinned commit wants name is pin =
    let same : pin_wants commit ≡ wants = cc in
    let at : Some (commit_name commit) ≡ Some name = ap (λ (x : Wants). x.pin) same ∙ pin in
    cc

log_pinned : (rows : List LogRow) (next : List ℕ) (wants : Wants) (name : ObjName) → log_kind rows next ≡ Take wants → wants.pin ≡ Some name → name ≡ commit_name next
log_pinned [] next wants name is pin = cc
log_pinned (r ∷ rows) next wants name is pin = pinned next wants name is pin

-- no lock is asked for
pin_light : (commit : List ℕ) (wants : Wants) → Take (pin_wants commit) ≡ Take wants → AsksInOrder wants
pin_light commit wants is = let same : pin_wants commit ≡ wants = cc in subst AsksInOrder same (asks_in_order (pin_wants commit) (refl, refl, refl))

log_light : (rows : List LogRow) (next : List ℕ) (wants : Wants) → log_kind rows next ≡ Take wants → AsksInOrder wants
log_light [] next wants is = cc
log_light (r ∷ rows) next wants is = pin_light next wants is

pub reads_light : (t : ReadCommand) (wants : Wants) → read_kind t ≡ Take wants → AsksInOrder wants
reads_light (Look l) wants is = pin_light l.commit wants is
reads_light (Cat c) wants is = cc
reads_light (Ls s) wants is = cc
reads_light (Log g) wants is = log_light g.rows.items g.next wants is
reads_light (Ended a) wants is = cc

-- the commit that a task was asked for, and what of it
abbrev asks_for : Option Asked → List ℕ → Ask → Type 0
asks_for None commit a = ⊥
asks_for (Some q) commit a = (q.commit ≡ commit) × (q.ask ≡ a)

asked_for : (o : Option Asked) (q : Asked) → o ≡ Some q → asks_for o q.commit q.ask
asked_for o q is = subst (λ x. asks_for x q.commit q.ask) (sym is) (refl, refl)

works_itself : (a : Ask) (commit : List ℕ) (name : ObjName) → name ≡ commit_name commit → works_of a commit name
works_itself ask.Log commit name is = (commit, is)
works_itself (ask.Cat path) commit name is = is
works_itself (ask.Ls path) commit name is = is

pub pins_work : (t : ReadCommand) (q : Asked) (wants : Wants) (name : ObjName) → asked t ≡ Some q → read_kind t ≡ Take wants → wants.pin ≡ Some name → works_of q.ask q.commit name
pins_work (Look l) q wants name is kind pin =
    works_itself q.ask q.commit name (pinned l.commit wants name kind pin ∙ ap commit_name (asked_for (asked (Look l)) q is).0)
pins_work (Cat c) q wants name is kind pin = cc
pins_work (Ls s) q wants name is kind pin = cc
pins_work (Log g) q wants name is kind pin =
    subst (λ a. works_of a q.commit name) (asked_for (asked (Log g)) q is).1 (g.next, log_pinned g.rows.items g.next wants name kind pin)
pins_work (Ended a) q wants name is kind pin = cc

itself : (commit : List ℕ) → Reaches commit commit
unfolding IsChain
itself commit = ([], refl)

reaches_itself : (a : Ask) (commit : List ℕ) (name : ObjName) → name ≡ commit_name commit → reaches_of a commit name
reaches_itself ask.Log commit name is = (commit, is, itself commit)
reaches_itself (ask.Cat path) commit name is = is
reaches_itself (ask.Ls path) commit name is = is

-- where the view is told a log knows the way to each commit that it pins
pub pins_reach : (lane : ℕ) (t : ReadCommand) (v : View) (b : Books) (q : Asked) (wants : Wants) (name : ObjName) → read_facts lane t v b → asked t ≡ Some q → read_kind t ≡ Take wants → wants.pin ≡ Some name → reaches_of q.ask q.commit name
pins_reach lane (Look l) v b q wants name f is kind pin =
    reaches_itself q.ask q.commit name (pinned l.commit wants name kind pin ∙ ap commit_name (asked_for (asked (Look l)) q is).0)
pins_reach lane (Cat c) v b q wants name f is kind pin = cc
pins_reach lane (Ls s) v b q wants name f is kind pin = cc
pins_reach lane (Log g) v b q wants name f is kind pin =
    let for = asked_for (asked (Log g)) q is in
    let way : Reaches g.commit g.next = (g.rows.items, chain_up (Stores v.now) IsNamed (λ name bytes stored. stored.named) g.commit g.rows.items g.next f.0) in
    subst (λ a. reaches_of a q.commit name) for.1 (g.next, log_pinned g.rows.items g.next wants name kind pin, subst (λ x. Reaches x g.next) for.0 way)
pins_reach lane (Ended a) v b q wants name f is kind pin = cc

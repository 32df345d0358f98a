-- What the steps of a checkout are to the system: each reads or makes a node, and may pin the commit or claim the folder first.
use Rattle.std.proofs.Common.{◌≡◌, ℕ, ⊎_elim, refl, sym, ◌∙◌, ap, subst, List, Option, Some}
use Rattle.ost_types.specs.declared.object.ObjName.{ObjName}
use Rattle.ost_types.specs.Path.{Name}
use Rattle.rely_guarantee.specs.declared.event.Event.{Event}
use Rattle.rely_guarantee.specs.declared.kind.Wants.{Wants}
use Rattle.rely_guarantee.specs.Books.{Books}
use Rattle.rely_guarantee.specs.Laws.{Kind, Quiet, Store, Take, Claim, Publish, Published, Remove, MakeDurable, Holds, IsQuiet, IsMakeDurable, NotPending}
use Rattle.rely_guarantee.specs.Pinning.{pin_in}
use Rattle.ref_command.specs.Commands.{pin_wants}
use Rattle.ref_command.specs.Found.{commit_name}
use Rattle.checkout_command.specs.declared.command.CheckoutCommand.{CheckoutCommand}
use Rattle.checkout_command.specs.declared.command.CheckoutCommand.TheVariants as command
use Rattle.checkout_command.specs.Asked.{Asked, asked}
use Rattle.checkout_command.specs.Commands.{IsNew, checkout_kind}
use Rattle.checkout_command.proofs.Ends.{checkout_pin, checkout_quiet, quiet_kind}
use Rattle.command.specs.Removing.{IsRemoving}
use Rattle.command.specs.LockLaws.{AsksInOrder, asks_in_order}

-- nothing is published, made durable or removed
pub no_publish : {P : Type 0} (t : CheckoutCommand) (e : Event) → checkout_kind t ≡ Publish e → P
no_publish t e is = absurd (subst IsQuiet is (checkout_quiet t))

quiet_unsettled : (k : Kind) → IsQuiet k → IsMakeDurable k → ⊥
quiet_unsettled Quiet quiet settles = settles
quiet_unsettled Store quiet settles = settles
quiet_unsettled (Take wants) quiet settles = settles
quiet_unsettled (Claim name) quiet settles = settles
quiet_unsettled (Publish e) quiet settles = quiet
quiet_unsettled (Published e owed) quiet settles = quiet
quiet_unsettled (Remove e owed) quiet settles = quiet
quiet_unsettled (MakeDurable e) quiet settles = quiet

pub no_make_durable : (t : CheckoutCommand) → IsMakeDurable (checkout_kind t) → ⊥
no_make_durable t = quiet_unsettled (checkout_kind t) (checkout_quiet t)

quiet_stays : (k : Kind) → IsQuiet k → IsRemoving k → ⊥
quiet_stays Quiet quiet removes = removes
quiet_stays Store quiet removes = removes
quiet_stays (Take wants) quiet removes = removes
quiet_stays (Claim name) quiet removes = removes
quiet_stays (Publish e) quiet removes = quiet
quiet_stays (Published e owed) quiet removes = quiet
quiet_stays (Remove e owed) quiet removes = quiet
quiet_stays (MakeDurable e) quiet removes = quiet

pub no_removal : (t : CheckoutCommand) → IsRemoving (checkout_kind t) → ⊥
no_removal t = quiet_stays (checkout_kind t) (checkout_quiet t)

pub checkout_holds : (lane : ℕ) (t : CheckoutCommand) (b : Books) → IsNew t → NotPending lane b → Holds (checkout_kind t) lane b
checkout_holds lane (command.Look r) b new none = none
checkout_holds lane (command.Read s) b new none = absurd new
checkout_holds lane (command.Make m) b new none = absurd new
checkout_holds lane (command.Ended a) b new none = absurd new

-- no lock is asked for
pin_light : (commit : List ℕ) (wants : Wants) → Take (pin_wants commit) ≡ Take wants → AsksInOrder wants
pin_light commit wants is = let same : pin_wants commit ≡ wants = cc in subst AsksInOrder same (asks_in_order (pin_wants commit) (refl, refl, refl))

pub checkouts_light : (t : CheckoutCommand) (wants : Wants) → checkout_kind t ≡ Take wants → AsksInOrder wants
checkouts_light t wants is = ⊎_elim
    (λ quiet. let no : Quiet ≡ Take wants = sym quiet ∙ is in cc)
    (⊎_elim (λ takes. pin_light takes.0.commit wants (sym takes.2 ∙ is)) (λ claims. let no : Claim claims.0.name ≡ Take wants = sym claims.2 ∙ is in cc))
    (quiet_kind t)

one : (o : Option Asked) (p q : Asked) → o ≡ Some p → o ≡ Some q → p ≡ q
one o p q is other = let e : Some p ≡ Some q = sym is ∙ other in cc

-- what is pinned is the commit
pub pins_commit : (t : CheckoutCommand) (q : Asked) (wants : Wants) (name : ObjName) → asked t ≡ Some q → checkout_kind t ≡ Take wants → wants.pin ≡ Some name → name ≡ commit_name q.commit
pins_commit t q wants name is kind pin =
    let at = checkout_pin t name (ap pin_in kind ∙ pin) in
    at.2 ∙ ap (λ (x : Asked). commit_name x.commit) (one (asked t) at.0 q at.1 is)

-- and what is claimed the folder of the name
claim_name : (of name : Name) → Claim of ≡ Claim name → of ≡ name
claim_name of name is = cc

pub claims_own : (t : CheckoutCommand) (q : Asked) (name : Name) → asked t ≡ Some q → checkout_kind t ≡ Claim name → q.name ≡ name
claims_own t q name is kind = ⊎_elim
    (λ quiet. let no : Quiet ≡ Claim name = sym quiet ∙ kind in cc)
    (⊎_elim
    (λ takes. let no : Take (pin_wants takes.0.commit) ≡ Claim name = sym takes.2 ∙ kind in cc)
    (λ claims. ap (λ (x : Asked). x.name) (one (asked t) q claims.0 is claims.1) ∙ claim_name claims.0.name name (sym claims.2 ∙ kind)))
    (quiet_kind t)

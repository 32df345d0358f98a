-- A checkout at its beginning.
use Rattle.std.proofs.Common.{◌≡◌, ◌≤◌, ℕ, subst, List, Option, Some}
use Rattle.ost_types.specs.declared.limits.Limits.{Limits}
use Rattle.ref_book.specs.declared.book.RefBook.{RefBook}
use Rattle.rely_guarantee.specs.State.{State, SystemState}
use Rattle.script.specs.declared.command.Rev.{Rev}
use Rattle.checkout_command.specs.declared.command.CheckoutCommand.{CheckoutCommand}
use Rattle.checkout_command.specs.Asked.{asked}
use Rattle.checkout_command.specs.Commands.{IsNew, checkout_left}
use Rattle.command.specs.Doing.{IsFirst, most}
use Rattle.command.specs.Revisions.{IsNamed, IsRev}
use Rattle.command.specs.Since.{begun_in}
use Rattle.checkout_family.specs.declared.words.CheckoutWords.{CheckoutWords}
use Rattle.checkout_family.specs.Family.{checkout_doing, checkout_means}

pub named : (rev : Rev) (s : State) (found : Option (List ℕ)) (commit : List ℕ) → found ≡ Some commit → IsNamed rev s found → IsRev rev s commit
named rev s found commit is names = subst (IsNamed rev s) is names

pub task_begun : (limits : Limits) (lane : ℕ) (s : SystemState) (c : CheckoutWords) (commit : List ℕ) (t : CheckoutCommand) (refs : RefBook) → IsRev c.rev s.refs commit → IsNew t → asked t ≡ Some (record { limits = limits; commit = commit; name = c.name }) → checkout_left t ≤ most
    → IsFirst checkout_means checkout_doing lane (begun_in limits s) c refs (record { work = t })
task_begun limits lane s c commit t refs names new asks left = (new, (commit, names, asks), (λ e bad. absurd bad), left)

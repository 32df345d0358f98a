-- A reset at its beginning.
use Rattle.std.proofs.Common.{◌≡◌, ◌<◌, ◌≤◌, ℕ, sym, ◌∙◌, subst, arith, List, Option}
use Rattle.ost_types.specs.declared.limits.Limits.{Limits}
use Rattle.rely_guarantee.specs.State.{State, RefOf, SystemState}
use Rattle.ref_book.specs.declared.book.RefBook.{RefBook}
use Rattle.ref_book.specs.Tracks.{HasEventRoom, HasRoom}
use Rattle.ref_command.specs.declared.command.RefCommand.{RefCommand}
use Rattle.ref_command.specs.declared.command.RefCommand.TheVariants.{Parse, Reset, Change}
use Rattle.ref_command.specs.Answers.{Begins}
use Rattle.ref_command.specs.Commands.{IsReset, command_left}
use Rattle.command.specs.Doing.{HasRoomFor, most}
use Rattle.command.specs.Since.{begun_in}
use Rattle.ref_family.specs.declared.words.RefWords.TheVariants as words
use Rattle.ref_family.specs.Family.{ref_means, ref_pursues}

reset_by : (lane : ℕ) (s : State) (branch commit name : List ℕ) (seen : Option (List ℕ)) (named : List ℕ) (t : RefCommand) → IsReset lane name seen named t → name ≡ branch → seen ≡ s (RefOf branch) → named ≡ commit → ref_pursues s (words.Reset branch commit) t
reset_by lane s branch commit name seen named (Reset look plan) is at had same = (is.0 ∙ same, is.3 ∙ at, is.4 ∙ had, is.5 ∙ same)
reset_by lane s branch commit name seen named (Parse look) is at had same = absurd is
reset_by lane s branch commit name seen named (Change work) is at had same = absurd is

pub reset_begun : (limits : Limits) (lane : ℕ) (s : SystemState) (branch commit name : List ℕ) (seen : Option (List ℕ)) (named : List ℕ) (t : RefCommand) (refs : RefBook) → IsReset lane name seen named t → Begins lane t → name ≡ branch → seen ≡ s.refs (RefOf branch) → named ≡ commit → HasRoom refs branch → command_left t < 340282366920938463463374607431768211456
    → Begins lane t × ref_pursues s.refs (words.Reset branch commit) t × HasRoomFor ref_means refs (begun_in limits s) (words.Reset branch commit) × (command_left t ≤ most)
reset_begun limits lane s branch commit name seen named t refs is begins at had same room left = (
  begins,
  reset_by lane s.refs branch commit name seen named t is at had same,
  λ e changes. subst (HasEventRoom refs) (sym changes) room,
  omega (arith, left),
)

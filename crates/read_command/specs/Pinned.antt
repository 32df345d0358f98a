-- The commit that a command reads is pinned for its lane, from the look on.
use Rattle.std.proofs.Common.{◌≡◌, ℕ, List, [], ◌∷◌, ◌++◌, refl, sym, subst, Option, Some, None}
use Rattle.std.specs.List.{AllByRecursion}
use Rattle.repo_model.specs.Objects.{Store}
use Rattle.rely_guarantee.specs.Books.{Books}
use Rattle.rely_guarantee.specs.Laws.{Stood}
use Rattle.ref_command.specs.Found.{commit_name}
use Rattle.ref_command.specs.Pins.{IsPinned, PinsStay, pinned_on}
use Rattle.read_command.specs.declared.command.ReadCommand.{ReadCommand}
use Rattle.read_command.specs.declared.command.ReadCommand.TheVariants.{Look, Cat, Ls, Log as LogCommand, Ended}
use Rattle.read_command.specs.Asked.{Asked, asked}
use Rattle.script.specs.declared.rows.LogRow.{LogRow}
use Rattle.read_command.specs.declared.log.Log.{Log}
use Rattle.read_command.specs.Chains.{IsChain}
use Rattle.read_command.specs.Commands.{ArePinned, IsOnward, IsPinnedOf, IsReading, Knows, read_kind}
use Rattle.read_command.specs.LogSteps.{log_kind}

module _ (lane : ℕ) (b b' : Books) (stay : PinsStay lane b b') where
  pub pinned_of_on : (o : Option Asked) → IsPinnedOf o lane b → IsPinnedOf o lane b'
  pinned_of_on None pin = tt
  pinned_of_on (Some q) pin = pinned_on lane b b' stay q.commit pin

  rows_on : (rows : List LogRow) → AllByRecursion (λ (r : LogRow). IsPinned lane b r.commit) rows → AllByRecursion (λ (r : LogRow). IsPinned lane b' r.commit) rows
  rows_on [] all = tt
  rows_on (r ∷ rows) all = (pinned_on lane b b' stay r.commit all.0, rows_on rows all.1)

  pub are_pinned_on : (t : ReadCommand) → ArePinned t lane b → ArePinned t lane b'
  are_pinned_on (Look l) pin = tt
  are_pinned_on (Cat c) pin = pinned_on lane b b' stay c.commit pin
  are_pinned_on (Ls s) pin = pinned_on lane b b' stay s.task.commit pin
  are_pinned_on (LogCommand g) pin = (pinned_on lane b b' stay g.commit pin.0, rows_on g.rows.items pin.1)
  are_pinned_on (Ended a) pin = tt

-- what was asked is pinned behind each step
asked_pinned : (t : ReadCommand) (actor lane : ℕ) (b : Books) → ArePinned t lane b → Stood (read_kind t) actor lane b → IsPinnedOf (asked t) lane b
asked_pinned (Look l) actor lane b pin stood = stood.pin (commit_name l.commit) refl
asked_pinned (Cat c) actor lane b pin stood = pin
asked_pinned (Ls s) actor lane b pin stood = pin
asked_pinned (LogCommand g) actor lane b pin stood = pin.0
asked_pinned (Ended a) actor lane b pin stood = tt

-- a log's commits are, those before with the one that came next
all_more : (P : LogRow → Type 0) (rows : List LogRow) (r : LogRow) → AllByRecursion P rows → P r → AllByRecursion P (rows ++ r ∷ [])
all_more P [] r all one = (one, tt)
all_more P (q ∷ rows) r all one = (all.0, all_more P rows r all.1 one)

next_pinned : (S : Store) (commit : List ℕ) (rows : List LogRow) (next : List ℕ) (actor lane : ℕ) (b : Books) → IsChain S commit rows next → IsPinned lane b commit → Stood (log_kind rows next) actor lane b → IsPinned lane b next
unfolding IsChain
next_pinned S commit [] next actor lane b chain pin stood = subst (IsPinned lane b) (sym chain) pin
next_pinned S commit (r ∷ rows) next actor lane b chain pin stood = stood.pin (commit_name next) refl

rows_pinned : (S : Store) (t : ReadCommand) (n : Log) (actor lane : ℕ) (b : Books) → Knows S t → ArePinned t lane b → Stood (read_kind t) actor lane b → IsOnward t (LogCommand n) → AllByRecursion (λ (r : LogRow). IsPinned lane b r.commit) n.rows.items
rows_pinned S (Look l) n actor lane b knows pin stood onward = subst (AllByRecursion (λ (r : LogRow). IsPinned lane b r.commit)) (sym onward) tt
rows_pinned S (LogCommand g) n actor lane b knows pin stood (r, rows, named) =
    let one : IsPinned lane b r.commit = subst (IsPinned lane b) (sym named) (next_pinned S g.commit g.rows.items g.next actor lane b knows pin.0 stood) in
    subst (AllByRecursion (λ (q : LogRow). IsPinned lane b q.commit)) (sym rows) (all_more (λ (q : LogRow). IsPinned lane b q.commit) g.rows.items r pin.1 one)
rows_pinned S (Cat c) n actor lane b knows pin stood onward = absurd onward
rows_pinned S (Ls s) n actor lane b knows pin stood onward = absurd onward
rows_pinned S (Ended a) n actor lane b knows pin stood onward = absurd onward

reading_pinned : (S : Store) (t new : ReadCommand) (actor lane : ℕ) (b : Books) → Knows S t → ArePinned t lane b → Stood (read_kind t) actor lane b → IsOnward t new → IsReading new → IsPinnedOf (asked new) lane b → ArePinned new lane b
reading_pinned S t (Look l) actor lane b knows pin stood onward reading of = absurd reading
reading_pinned S t (Cat c) actor lane b knows pin stood onward reading of = of
reading_pinned S t (Ls s) actor lane b knows pin stood onward reading of = of
reading_pinned S t (LogCommand g) actor lane b knows pin stood onward reading of = (of, rows_pinned S t g actor lane b knows pin stood onward)
reading_pinned S t (Ended a) actor lane b knows pin stood onward reading of = absurd reading

pub pinned_next : (S : Store) (t new : ReadCommand) (actor lane : ℕ) (b b' : Books) → PinsStay lane b b' → Knows S t → ArePinned t lane b → Stood (read_kind t) actor lane b → IsOnward t new → IsReading new → asked new ≡ asked t → ArePinned new lane b'
pinned_next S t new actor lane b b' stay knows pin stood onward reading same =
    are_pinned_on lane b b' stay new (reading_pinned S t new actor lane b knows pin stood onward reading (subst (λ q. IsPinnedOf q lane b) (sym same) (asked_pinned t actor lane b pin stood)))

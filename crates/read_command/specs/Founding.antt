-- A commit that a look found whole is finished from then on.
use Rattle.std.proofs.Common.{◌≡◌, ◌≢◌, ℕ, None, sym, subst}
use Rattle.fs_trait.specs.View.{View}
use Rattle.fs_trait.specs.Change.{Writes}
use Rattle.rely_guarantee.specs.Books.{Books}
use Rattle.rely_guarantee.specs.Rely.{Guarantee}
use Rattle.rely_guarantee.proofs.Finished.{finished_now}
use Rattle.ref_command.specs.Founding.{found_now, known_kept}
use Rattle.read_command.specs.declared.command.ReadCommand.{ReadCommand}
use Rattle.read_command.specs.declared.command.ReadCommand.TheVariants.{Look, Cat, Ls, Log, Ended}
use Rattle.read_command.specs.Asked.{asked}
use Rattle.read_command.specs.Commands.{ArePinned, Goes, IsReading}
use Rattle.read_command.specs.Founded.{IsFinishedOf, IsFounded}

module _ (b : Books) (v w : View) (actor lane : ℕ) (writes : Writes (Guarantee b v actor lane) v w) (mine : ℕ) (other : mine ≢ lane) where
  pub founded_kept : (t : ReadCommand) → ArePinned t mine b → IsFounded t v → IsFounded t w
  founded_kept (Look l) pin f = (f.0, known_kept b v w actor lane writes mine other None l.commit tt f.1)
  founded_kept (Cat c) pin f = finished_now b v w actor lane writes mine other c.commit pin f
  founded_kept (Ls s) pin f = finished_now b v w actor lane writes mine other s.task.commit pin f
  founded_kept (Log g) pin f = finished_now b v w actor lane writes mine other g.commit pin.0 f
  founded_kept (Ended a) pin f = f

-- a command that reads is founded where what it was asked is
reading_founded : (v : View) (new : ReadCommand) → IsReading new → IsFinishedOf (asked new) v → IsFounded new v
reading_founded v (Cat c) reading f = f
reading_founded v (Ls s) reading f = f
reading_founded v (Log g) reading f = f
reading_founded v (Look l) reading f = absurd reading
reading_founded v (Ended a) reading f = absurd reading

-- and so it is behind a step that goes on
asked_founded : (v : View) (t : ReadCommand) → IsFounded t v → Goes t v.now → IsFinishedOf (asked t) v
asked_founded v (Look l) f goes = found_now v l.commit goes.1 f.0 f.1 goes.0
asked_founded v (Cat c) f goes = f
asked_founded v (Ls s) f goes = f
asked_founded v (Log g) f goes = f
asked_founded v (Ended a) f goes = f

pub founded_next : (v : View) (t new : ReadCommand) → IsFounded t v → Goes t v.now → IsReading new → asked new ≡ asked t → IsFounded new v
founded_next v t new f goes reading same = reading_founded v new reading (subst (λ q. IsFinishedOf q v) (sym same) (asked_founded v t f goes))

-- What a family proves of the steps of its tasks.
use Rattle.std.specs.Prelude.{◌≡◌, ◌⊎◌, ◌<◌, ℕ, List, Option}
use Rattle.fs_trait.specs.declared.task.StepResult.TheVariants as turn
use Rattle.fs_trait.specs.declared.types.FsErr.{FsErr}
use Rattle.fs_trait.specs.Change.{Writes}
use Rattle.fs_trait.specs.Effect.{OfNone}
use Rattle.fs_trait.specs.Image.{IsTree}
use Rattle.fs_trait.specs.View.{View}
use Rattle.rely_guarantee.specs.declared.books.Entry.{Entry}
use Rattle.rely_guarantee.specs.declared.books.Pending.{Pending}
use Rattle.rely_guarantee.specs.Books.{Books}
use Rattle.rely_guarantee.specs.Laws.{IsBy, Holds, NotPending}
use Rattle.rely_guarantee.specs.State.{SystemState}
use Rattle.rely_guarantee.specs.SystemInvariant.{Stands}
use Rattle.command.specs.Doing.{Doing}
use Rattle.command.specs.Since.{Since}
use Rattle.command.specs.Staging.{StagingPathFree}
use Rattle.command.specs.Tasks.{TaskSpec}

pub record StepLaws {T W A : Type 0} (k : TaskSpec T) (d : Doing T W A) : Type 0 where
  -- a task at its beginning has its facts, and nothing of it is shown
  pub begun : (start : SystemState) (entries : List Entry) (pending : Option Pending) (lane : ℕ) (t : T) (v : View) (b : Books) → Stands start entries pending v → StagingPathFree lane v → d.begins lane t → k.facts lane t v b
  pub quiet : (lane : ℕ) (t : T) (b : Books) → d.begins lane t → NotPending lane b → Holds (k.kind t) lane b
  -- no step leaves a folder where its actor or its lane stages
  pub stages : (who actor lane : ℕ) (t : T) (v w : View) (b : Books) → (who ≡ actor) ⊎ (who ≡ lane) → IsBy (k.kind t) actor lane → k.facts lane t v b → Writes (k.writes actor t v) v w → StagingPathFree who v → StagingPathFree who w
  -- a step leaves it after what it was after, and nearer to it
  pub goes_on : (since : Since) (c : W) (t new : T) → d.pursues since c t → k.stepped t turn.More new → d.pursues since c new
  pub falls : (t new : T) → k.stepped t turn.More new → d.left new < d.left t
  -- where the view is told a step is refused only by a call that failed or for want of memory
  pub refused : (start : SystemState) (entries : List Entry) (pending : Option Pending) (lane : ℕ) (t : T) (v : View) (b : Books) (e : FsErr) → IsTree v.now → Stands start entries pending v → k.facts lane t v b → k.refuses t v e → OfNone e

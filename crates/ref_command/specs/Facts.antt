-- What is so for a change of a ref while others act.
use Rattle.std.specs.Prelude.{◌≡◌, ℕ, Some}
use Rattle.fs_trait.specs.View.{View}
use Rattle.fs_trait.specs.Seen.{shows, NotDirectory}
use Rattle.repo_layout.specs.Paths.{stage_path}
use Rattle.ref_store.specs.declared.progress.Progress.{Progress}
use Rattle.ref_store.specs.declared.progress.Progress.TheVariants as progress
use Rattle.ref_store.specs.Change.{Change, progress_in}
use Rattle.ref_store.specs.Steps.{Needs, HasSeen}
use Rattle.rely_guarantee.specs.Books.{Books}
use Rattle.rely_guarantee.specs.Laws.{Kind, Quiet, Store, Take, Claim, Publish, Published, Remove, MakeDurable}
use Rattle.ref_command.specs.declared.work.RefWork.{RefWork}
use Rattle.ref_command.specs.Kinds.{event, kind_in}

-- the lane holds the ref lock, once it has looked
abbrev pub turn_in : Kind → ℕ → Books → Type 0
turn_in (Take wants) lane b = Unit {0}
turn_in Quiet lane b = b.turn ≡ Some lane
turn_in Store lane b = b.turn ≡ Some lane
turn_in (Claim name) lane b = b.turn ≡ Some lane
turn_in (Publish e) lane b = b.turn ≡ Some lane
turn_in (Published e owed) lane b = b.turn ≡ Some lane
turn_in (Remove e owed) lane b = b.turn ≡ Some lane
turn_in (MakeDurable e) lane b = b.turn ≡ Some lane

-- it hasn't ended
abbrev pub IsRunning : Progress → Type 0
IsRunning progress.Ended = ⊥
IsRunning p = Unit {0}

-- The facts of a lane's change.
pub record Facts (lane : ℕ) (t : Change) (v : View) (b : Books) : Type 0 where
  pub needs : Needs t v
  pub mine : t.actor ≡ lane
  pub runs : IsRunning (progress_in t.phase)
  pub turn : turn_in (kind_in t.phase (event t)) lane b
  pub seen : HasSeen t v

abbrev pub ref_facts : ℕ → RefWork → View → Books → Type 0
ref_facts lane t v b = Facts lane t.task v b

-- no folder stands where the lane stages
abbrev pub StagingPathFree : ℕ → View → Type 0
StagingPathFree lane v = NotDirectory (shows v.now (stage_path lane))

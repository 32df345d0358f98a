-- The headline, with the state after so many events.
use Rattle.std.specs.Prelude.{◌≡◌, ◌≤◌, ℕ, List, length, take, None}
use Rattle.fs_trait.specs.View.{Disk, View}
use Rattle.fs_trait.specs.Change.{Left}
use Rattle.layout_rules.specs.Checks.{IsSane}
use Rattle.rely_guarantee.specs.declared.books.Base.{Base}
use Rattle.rely_guarantee.specs.State.{RefOf, State, after, events_of, stored, acked, IsRun, Ascends, SystemState, opening_state}
use Rattle.rely_guarantee.specs.Disks.{HasRef, Logical}

-- The disk is sane, and its refs are those of this state.
pub record Has (d : Disk) (state : State) : Type 0 where
  pub sane : IsSane d
  pub logical : Logical d state
  pub refs : (name : List ℕ) → HasRef d name (state (RefOf name))

-- the state after the first k events of the stored history
abbrev pub state_at : {F : Type 0} → Base F → ℕ → SystemState
state_at base k = after (take k (stored base.books.history.items base.books.pending)) (opening_state base.books.start)

-- What a crash left since this moment: the state after a prefix of the stored history that has each change that was
-- acknowledged by then.
pub record CrashFits {F : Type 0} (base : Base F) (t : ℕ) (d : Disk) : Type 0 where
  pub count : ℕ
  pub has_acked : acked t base.books.history.items ≤ count
  pub within : count ≤ length (stored base.books.history.items base.books.pending)
  pub has : Has d (state_at base count).refs

-- Each disk that a crash left since the opening fits. What reads see has the state after the whole history, but for a pending
-- change. Each event of the stored history could follow the state before it, and the moments of the entries don't fall.
pub record Headline {F : Type 0} (clock : F → ℕ) (was : F → ℕ → View → Type 0) (base : Base F) (v : View) : Type 0 where
  pub crash : (t : ℕ) (d : Disk) → base.books.opened ≤ t → Left (was base.fs) t d → CrashFits base t d
  pub now : base.books.pending ≡ None → Has v.now (after (events_of base.books.history.items) (opening_state base.books.start)).refs
  pub run : IsRun (stored base.books.history.items base.books.pending) (opening_state base.books.start)
  pub moments : Ascends base.books.opened base.books.history.items (clock base.fs)

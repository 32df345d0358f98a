-- What a crash may leave of a call, and what it leaves at its end, in plain data: the state at the opening, the changes
-- that last, and the one that is shown and doesn't last yet.
use Rattle.std.specs.Prelude.{◌≡◌, ◌≤◌, ℕ, List, [], ◌∷◌, ◌++◌, length, take, Option, Some, None}
use Rattle.fs_trait.specs.View.{Disk, View}
use Rattle.fs_trait.specs.Change.{Left}
use Rattle.rely_guarantee.specs.declared.books.Entry.{Entry}
use Rattle.rely_guarantee.specs.declared.event.Event.{Event}
use Rattle.rely_guarantee.specs.State.{SystemState, after, events_of, acked, IsRun, Ascends}
use Rattle.rely_guarantee.specs.Headline.{Has}

abbrev pub shown : Option Event → List Event
shown None = []
shown (Some e) = e ∷ []

-- the stored history: the changes that last, and the one that is shown
abbrev pub stored : List Entry → Option Event → List Event
stored history pending = events_of history ++ shown pending

-- A crash since this moment left this disk: it is sane, and its refs are those after a prefix of the stored history that has
-- each change that was acknowledged by then.
pub record Fits (start : SystemState) (history : List Entry) (pending : Option Event) (t : ℕ) (d : Disk) : Type 0 where
  pub count : ℕ
  pub has_acked : acked t history ≤ count
  pub within : count ≤ length (stored history pending)
  pub has : Has d (after (take count (stored history pending)) start).refs

-- Each disk that a crash left from the opening's first barrier on fits. What reads see has the refs after the whole history, but
-- for a pending change. Each event could follow the state before it, and the moments of the changes don't fall.
pub record Headline {F : Type 0} (clock : F → ℕ) (was : F → ℕ → View → Type 0) (barrier : ℕ) (start : SystemState) (fs : F) (history : List Entry) (pending : Option Event) (v : View) : Type 0 where
  pub crash : (t : ℕ) (d : Disk) → barrier ≤ t → Left (was fs) t d → Fits start history pending t d
  pub now : pending ≡ None → Has v.now (after (events_of history) start).refs
  pub run : IsRun (stored history pending) start
  pub moments : Ascends barrier history (clock fs)

-- The states that the changes so far make.
use Rattle.std.specs.Prelude.{ℕ, List, take}
use Rattle.ost_types.specs.declared.limits.Limits.{Limits}
use Rattle.rely_guarantee.specs.declared.books.Books as rust
use Rattle.rely_guarantee.specs.declared.books.Entry.{Entry}
use Rattle.rely_guarantee.specs.State.{SystemState, after, events_of, opening_state}
use Rattle.command.specs.Since.{Since, begun_in}

-- the state after the first k changes
abbrev pub state_after : SystemState → List Entry → ℕ → SystemState
state_after begin entries k = after (events_of (take k entries)) begin

-- so of the books, and the state after all of them
abbrev pub state_in : rust.Books → ℕ → SystemState
state_in b k = state_after (opening_state b.start) b.history.items k

abbrev pub now_of : rust.Books → SystemState
now_of b = after (events_of b.history.items) (opening_state b.start)

-- a command that began when the history had so many changes
abbrev pub since_in : Limits → rust.Books → ℕ → Since
since_in limits b start = begun_in limits (state_in b start)

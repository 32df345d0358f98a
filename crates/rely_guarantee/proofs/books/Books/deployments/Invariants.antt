use Rattle.std.proofs.Common.{◌≡◌, take}
use Rattle.rely_guarantee.specs.State.{after, events_of, opening_state}
use Rattle.rely_guarantee.proofs.books.Books.deployments.Given as goal

-- the list after the entries so far
abbrev pub invariant-loop-entry : goal.invariant-loop-entry
invariant-loop-entry l = l.list ≡ (after (events_of (take l.entry-index l.self.history.items)) (opening_state l.self.start)).deployments

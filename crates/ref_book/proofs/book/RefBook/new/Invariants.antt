use Rattle.std.proofs.Common.{◌≡◌, ◌≤◌, ℕ, List, drop, length}
use Rattle.std.specs.BTreeMap.{get}
use Rattle.rely_guarantee.specs.State.{RefOf, first}
use Rattle.ref_book.specs.Tracks.{said}
use Rattle.ref_book.proofs.Keyed.{order}
use Rattle.ref_book.proofs.book.RefBook.new.Given as goal

abbrev pub invariant-loop-left : goal.invariant-loop-left
invariant-loop-left l = record {
  tracks : (name : List ℕ) → said (get order l.refs name) ≡ first (drop l.left l.start) (RefOf name);
  within : l.left ≤ length l.start;
}

abbrev pub decreases-loop-left : goal.decreases-loop-left
decreases-loop-left l = l.left

use Rattle.std.proofs.Common.{◌≡◌, ◌≤◌, ◌<◌, length, ℕ, List}
use Rattle.ost_types.specs.Path.{Path, AreNames, under}
use Rattle.ost_types.specs.Flat.{flat}
use Rattle.memory_table.proofs.parts.folder_of.Given as goal

abbrev pub invariant-loop-end : goal.invariant-loop-end
invariant-loop-end l = record {
  low : l.«end» < length l.text;
  behind : (f : Path) (x : List ℕ) → AreNames (under f x) → l.text ≡ flat (under f x) → length (flat f) ≤ l.«end»;
}

abbrev pub decreases-loop-end : goal.decreases-loop-end
decreases-loop-end l = l.«end»

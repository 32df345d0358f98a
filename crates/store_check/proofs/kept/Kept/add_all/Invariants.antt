use Rattle.fs_trait.specs.View.{Disk}
use Rattle.store_check.specs.Keeping.{AreKept, AreStored}
use Rattle.store_check.proofs.kept.Kept.add_all.Given as goal

-- what is kept of the entries so far is theirs
abbrev pub invariant-loop-entry : goal.invariant-loop-entry
invariant-loop-entry l = (d : Disk) → AreKept d l.fn.self → AreStored d l.fn.entries.items → AreKept d l.self

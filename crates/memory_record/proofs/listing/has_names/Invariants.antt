use Rattle.std.proofs.Common.{◌≡◌, ℕ, ◌<◌, get_or, Some}
use Rattle.ost_types.specs.Path.{Name, under}
use Rattle.fs_trait.specs.declared.types.Value.TheVariants.{Absent}
use Rattle.memory_record.specs.declared.change.Change.{Change}
use Rattle.memory_record.specs.Changes.{view_of}
use Rattle.memory_record.specs.Seen.{target_of}
use Rattle.memory_record.proofs.listing.has_names.Given as goal

-- the names that the changes so far gave a value are absent
abbrev pub invariant-loop-change : goal.invariant-loop-change
invariant-loop-change l = (k : ℕ) (d : Change) → k < l.change-index → (x : Name) → target_of (get_or l.changes k d) ≡ Some (under l.folder x) → (view_of l.changes).now.at (under l.folder x) ≡ Absent

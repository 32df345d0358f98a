use Rattle.std.proofs.Common.{ℕ, List}
use Rattle.prune_mark.specs.Flags.{Spreads}
use Rattle.prune_mark.proofs.Spreading.{FileIs, OfFirst}
use Rattle.prune_mark.proofs.flags.mark_files.Given as goal

-- the files so far are marked
abbrev pub invariant-loop-item : goal.invariant-loop-item
invariant-loop-item l = (pending : List (List ℕ)) → Spreads l.names (OfFirst FileIs l.files l.item-index) l.fn.flags.items pending l.flags.items pending

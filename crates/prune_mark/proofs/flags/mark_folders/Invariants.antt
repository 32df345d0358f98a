use Rattle.std.proofs.Common.{◌≤◌, ◌+◌, ◌-◌, length}
use Rattle.std.specs.Prelude.{vec_len, vec_capacity}
use Rattle.prune_mark.specs.Flags.{Spreads}
use Rattle.prune_mark.proofs.Spreading.{FolderIs, OfFirst}
use Rattle.prune_mark.proofs.flags.mark_folders.Given as goal

-- the folders so far are marked, and the others find room
abbrev pub invariant-loop-item : goal.invariant-loop-item
invariant-loop-item l = record {
  spreads : Spreads l.names (OfFirst FolderIs l.folders l.item-index) l.fn.flags.items l.fn.pending.items l.flags.items l.pending.items;
  room : vec_len l.pending + (length l.folders - l.item-index) ≤ vec_capacity l.pending;
}

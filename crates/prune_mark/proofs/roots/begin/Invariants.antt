use Rattle.std.proofs.Common.{◌≤◌, ◌+◌, ◌-◌, length}
use Rattle.std.specs.Prelude.{vec_len, vec_capacity}
use Rattle.reach.specs.Reach.{Is}
use Rattle.prune_mark.specs.Flags.{Begins}
use Rattle.prune_mark.proofs.Spreading.{OfFirst}
use Rattle.prune_mark.proofs.roots.begin.Given as goal

-- the roots so far are marked, and the others find room
abbrev pub invariant-loop-root : goal.invariant-loop-root
invariant-loop-root l = record {
  begun : Begins l.names (OfFirst Is l.roots l.root-index) l.flags.items l.found.items l.pending.items;
  found_room : vec_len l.found + (length l.roots - l.root-index) ≤ vec_capacity l.found;
  pending_room : vec_len l.pending + (length l.roots - l.root-index) ≤ vec_capacity l.pending;
}

use Rattle.std.proofs.Common.{◌≤◌, length, ◌-◌}
use Rattle.places.specs.Roomy.{AreRoomy}
use Rattle.places.proofs.pool.Pool.fill.Given as goal

abbrev pub invariant-loop-self : goal.invariant-loop-self
invariant-loop-self l = AreRoomy l.self-inside.buffers.items × (length l.initial.self-inside.buffers.items ≤ length l.self-inside.buffers.items)

abbrev pub decreases-loop-self : goal.decreases-loop-self
decreases-loop-self l = l.count - length l.self-inside.buffers.items

use Rattle.std.proofs.Common.{◌≡◌}
use Rattle.fs_host.proofs.streams.StdSinkSink.put.Given as goal

abbrev pub invariant-loop : goal.invariant-loop
invariant-loop g l = l.self.faults ≡ l.fn.self.faults

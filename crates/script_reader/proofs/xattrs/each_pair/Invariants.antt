use Rattle.std.proofs.Common.{map, take}
use Rattle.script_reader.specs.Values.{ArePairs}
use Rattle.script_reader.proofs.xattrs.each_pair.Given as goal

abbrev pub invariant-loop-pair : goal.invariant-loop-pair
invariant-loop-pair l = ArePairs (map (λ p. p.now) (take l.pair-index l.pairs)) l.xattrs

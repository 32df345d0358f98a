use Rattle.std.proofs.Common.{◌≡◌, map, take}
use Rattle.gv_core.specs.Tree.{view, leaf, byte}
use Rattle.gv_core.proofs.reading.decode_bytes.Given as goal

abbrev pub invariant-loop-byte : goal.invariant-loop-byte
invariant-loop-byte l = map view l.values.items ≡ map (λ c. leaf (byte c)) (take l.byte-index l.bytes)

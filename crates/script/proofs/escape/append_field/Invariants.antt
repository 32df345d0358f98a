use Rattle.std.proofs.Common.{◌≡◌, ◌++◌, take}
use Rattle.script.specs.Field.{escaped}
use Rattle.script.proofs.escape.append_field.Given as goal

abbrev pub invariant-loop-byte : goal.invariant-loop-byte
invariant-loop-byte l = l.line ≡ l.fn.line ++ escaped (take l.byte-index l.value)

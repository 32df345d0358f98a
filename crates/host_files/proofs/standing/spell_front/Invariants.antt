use Rattle.std.proofs.Common.{◌≡◌, take}
use Rattle.host_files.specs.HostPath.{host_text}
use Rattle.host_files.proofs.standing.spell_front.Given as goal

abbrev pub invariant-loop-name : goal.invariant-loop-name
invariant-loop-name l = l.text ≡ host_text (take l.name-index l.name-items)

use Rattle.std.proofs.Common.{◌≡◌, take}
use Rattle.boot_model.specs.Entries.{spaced}
use Rattle.boot_model.proofs.lines.spaced.Given as goal

abbrev pub invariant-loop-word : goal.invariant-loop-word
invariant-loop-word l = l.text ≡ spaced (take l.word-index l.word-items)

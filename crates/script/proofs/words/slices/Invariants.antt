use Rattle.std.proofs.Common.{◌≡◌, map, take}
use Rattle.script.proofs.words.slices.Given as goal

abbrev pub invariant-loop-word : goal.invariant-loop-word
invariant-loop-word l = map (λ x. x.now) l.fields.items ≡ take l.word-index l.words

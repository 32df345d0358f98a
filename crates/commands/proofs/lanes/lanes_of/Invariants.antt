use Rattle.std.proofs.Common.{◌≡◌, map}
use Rattle.std.specs.Prelude.{All}
use Rattle.commands.specs.Lanes.{IsUnbegun}
use Rattle.commands.specs.Words.{words_of}
use Rattle.commands.proofs.lanes.lanes_of.Given as goal

abbrev pub invariant-loop-lane : goal.invariant-loop-lane
invariant-loop-lane l = record {
  words : map (λ lane. lane.words.items) l.all.items ≡ map (λ lane. map words_of lane.commands.items) l.yielded;
  unbegun : All IsUnbegun l.all.items;
}

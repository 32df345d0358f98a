use Rattle.std.proofs.Common.{◌≡◌, ◌++◌, length}
use Rattle.ost_types.specs.Text.{IsText}
use Rattle.boot_read.specs.Entries.{other_words}
use Rattle.boot_read.proofs.words.other_words.Given as goal

-- the words so far and those of the rest are all
abbrev pub invariant-loop-rest : goal.invariant-loop-rest
invariant-loop-rest l = record {
  same : l.words ++ other_words l.rest ≡ other_words l.options;
  text : IsText l.rest;
}

abbrev pub decreases-loop-rest : goal.decreases-loop-rest
decreases-loop-rest l = length l.rest

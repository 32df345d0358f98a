use Rattle.keyfile.specs.Entries.{entries_in}
use Rattle.keyfile.proofs.Taken.{has_none}
use Rattle.keyfile.proofs.reader.Reader.new.Goals as goal

pub returns : goal.returns
unfolding entries_in
returns c = record {
  sound = tt;
  entries = c.new.ensures.items;
  group = λ name h. h;
  groups = λ name. (λ h. absurd (has_none _ name c.new-2.ensures.empty h), λ h. absurd h);
  keys = λ name. (λ h. absurd (has_none _ name c.new-3.ensures.empty h), λ h. absurd h);
}

use Rattle.layout_rules.proofs.Suiting.{from_seen, to_seen}
use Rattle.layout_rules.proofs.laws.rules_by_seen.Goals as goal

pub returns : goal.returns
returns c = λ rule d p. (to_seen rule d (d.at p), from_seen rule d (d.at p))

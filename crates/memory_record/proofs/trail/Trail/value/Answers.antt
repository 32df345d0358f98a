use Rattle.std.proofs.Common.{◌∙◌}
use Rattle.memory_record.proofs.trail.Trail.value.Goals as goal

pub returns : goal.returns
returns c = λ v p s names is. c.or_absent.ensures.shows _ (c.value.ensures s.disk p s.ties names is) ∙ s.same p

use Rattle.std.proofs.Common.{max, ap₂, ◌∙◌}
use Rattle.gv_core.proofs.Nodes.{entry_align_is}
use Rattle.gv_core.proofs.kind.entry_align.Goals as goal

pub returns-clause-value : goal.returns-clause-value
returns-clause-value c = c.max.ensures ∙ ap₂ (λ x y. max x y) c.align.ensures c.align-2.ensures.value ∙ entry_align_is _ _

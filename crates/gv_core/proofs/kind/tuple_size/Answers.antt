use Rattle.std.proofs.Common.{sym, ◌∙◌}
use Rattle.std.proofs.lemmas.Bool.{eqb-true, eqb-false}
use Rattle.gv_core.proofs.Nodes.{unit_size, members_size}
use Rattle.gv_core.proofs.kind.tuple_size.Goals as goal

pub returns-then-is_empty : goal.returns-then-is_empty
returns-then-is_empty c = unit_size _ (eqb-true _ _ (sym c.if-is_empty.ensures))

pub returns : goal.returns
returns c = c.padded_end.ensures ∙ members_size _ _ (eqb-false _ _ (sym c.if-is_empty.ensures)) c.requires.align

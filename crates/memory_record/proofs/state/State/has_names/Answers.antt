use Rattle.std.proofs.Common.{inl}
use Rattle.memory_table.proofs.Splitting.{no_flat, some_flat, is_zero, not_zero}
use Rattle.memory_record.proofs.state.State.has_names.Goals as goal

pub returns-then-is_empty : goal.returns-then-is_empty
returns-then-is_empty c = λ v shows. inl (no_flat _ _ c.text.ensures.value (is_zero _ _ c.is_empty.ensures c.if-is_empty.true))

pub returns : goal.returns
returns c = λ v shows. c.has_names.ensures v.now shows.ties (some_flat _ _ c.text.ensures.value (not_zero _ _ c.is_empty.ensures c.if-is_empty.false))

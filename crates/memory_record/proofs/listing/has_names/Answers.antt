use Rattle.std.proofs.Common.{inl, arith}
use Rattle.memory_table.proofs.Splitting.{no_flat, some_flat, is_zero, not_zero}
use Rattle.memory_record.proofs.Listings.{all_absent}
use Rattle.memory_record.proofs.listing.has_names.Goals as goal

pub returns-then-is_empty : goal.returns-then-is_empty
returns-then-is_empty c = inl (no_flat _ _ c.text.ensures.value (is_zero _ _ c.is_empty.ensures c.if-is_empty.true))

pub returns : goal.returns
returns c = (some_flat _ _ c.text.ensures.value (not_zero _ _ c.is_empty.ensures c.if-is_empty.false), all_absent c.args.changes.now c.args.folder.now (λ k d less. c.loop-change.invariant k d (let f = c.loop-change-test.false in omega (arith, less, f))))

use Rattle.std.proofs.Common.{◌≡◌, map}
use Rattle.ref_book.specs.Rows.{rows_of}
use Rattle.ref_book.proofs.book.RefBook.rows.Given as goal

abbrev pub invariant-loop-name : goal.invariant-loop-name
invariant-loop-name l = l.rows.items ≡ rows_of (map (λ e. (e.0.now, e.1.now)) l.yielded)

use Rattle.std.proofs.Common.{◌≡◌, ◌++◌, length, take}
use Rattle.script.specs.Lines.{count_text, status_rows}
use Rattle.script.proofs.row_lines.append_status.Given as goal

abbrev pub invariant-loop-index : goal.invariant-loop-index
invariant-loop-index l = l.text ≡ l.fn.text ++ (count_text (length l.rows) ++ status_rows 0 (take l.index l.rows))

use Rattle.std.proofs.Common.{◌≡◌, ◌++◌, length, take}
use Rattle.std.specs.List.{flat_map}
use Rattle.script.specs.Lines.{count_text, ref_row}
use Rattle.script.proofs.row_lines.append_refs.Given as goal

abbrev pub invariant-loop-row : goal.invariant-loop-row
invariant-loop-row l = l.text ≡ l.fn.text ++ (count_text (length l.rows) ++ flat_map ref_row (take l.row-index l.rows))

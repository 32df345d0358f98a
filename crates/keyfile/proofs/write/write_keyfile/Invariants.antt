use Rattle.std.proofs.Common.{◌≡◌, ◌++◌, drop}
use Rattle.keyfile.specs.Line.{file_text}
use Rattle.keyfile.specs.Entries.{keyfile_text, lines_in}
use Rattle.keyfile.proofs.write.write_keyfile.Given as goal

abbrev pub invariant-loop-line : goal.invariant-loop-line
invariant-loop-line l = l.text ++ file_text (lines_in l.group (drop l.line-index l.lines)) ≡ keyfile_text l.lines

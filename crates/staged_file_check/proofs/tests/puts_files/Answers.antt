use Rattle.std.proofs.Common.{◌≡◌, sym, ◌∙◌}
use Rattle.fs_memory.specs.Changes.{empty_view}
use Rattle.staged_file_check.proofs.Starts.{empty_leaf}
use Rattle.staged_file_check.proofs.tests.puts_files.Goals as goal

pub put-requires : goal.put-requires
put-requires g c = λ v told.
    let new = c.in_ok-fs.ensures.view in
    let same : empty_view ≡ v = cc (new, told) in
    empty_leaf v same

pub put-requires-2 : goal.put-requires-2
put-requires-2 g c = λ v told. c.put.ensures.leaf v (sym c.check_bytes.ensures ∙ told)

use Rattle.std.proofs.Common.{◌≡◌}
use Rattle.fs_memory.specs.Changes.{empty_view}
use Rattle.staged_file_check.proofs.Starts.{empty_leaf}
use Rattle.staged_file_check.proofs.tests.check_failing.Goals as goal

pub put-requires : goal.put-requires
put-requires g c = λ v told.
    let new = c.in_ok-fs.ensures.view in
    let same : empty_view ≡ v = cc (new, told) in
    empty_leaf v same

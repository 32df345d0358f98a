use Rattle.std.proofs.Common.{arith}
use Rattle.ost_forms.proofs.Parts.{folder_count}
use Rattle.ost_forms.proofs.rows.read_folder.Goals as goal

pub prove-unreachable-requires : goal.prove-unreachable-requires
prove-unreachable-requires c =
    let form = rw (c.requires) at c.in_ok-parts.ensures.found in
    let count = folder_count _ _ form in
    grind (arith, count)

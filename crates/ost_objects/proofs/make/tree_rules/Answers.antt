use Rattle.ost_objects.proofs.Makes.{apart_from}
use Rattle.ost_objects.proofs.make.tree_rules.Goals as goal

pub returns-clause-sorted : goal.returns-clause-sorted
returns-clause-sorted c =
    let files = rw c.as_slice-files.ensures.value at c.as_slice-files.ensures.kept in
    let folders = rw c.as_slice-folders.ensures.value at c.as_slice-folders.ensures.kept in
    record { files = files.ascending; folders = folders.ascending; apart = apart_from _ _ c.args.value.now.apart }

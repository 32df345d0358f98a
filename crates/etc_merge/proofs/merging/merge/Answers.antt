use Rattle.std.proofs.Common.{get_or, sym, subst}
use Rattle.etc_merge.specs.Merging.{IsLeast}
use Rattle.etc_merge.proofs.Results.{merge_tree}
use Rattle.etc_merge.proofs.merging.merge.Goals as goal

pub returns-in-Some-clause-refused : goal.returns-in-Some-clause-refused
returns-in-Some-clause-refused c =
    let found = c.in-Some.ensures.1 c.index-entries-at.result in
    subst (IsLeast c.args.base.now c.args.current.now c.args.new.now) (sym c.in_ok-copy.ensures)
    (subst (λ m. IsLeast c.args.base.now c.args.current.now c.args.new.now (get_or m c.in-Some.at c.index-entries-at.result).0) (sym c.as_slice-entries.ensures.value) found)

pub returns-clause-tree : goal.returns-clause-tree
returns-clause-tree c = merge_tree c.args.base.now c.args.current.now c.args.new.now c.in_ok-merged.field-0 c.requires c.in_ok-merged.ensures c.in_default.ensures

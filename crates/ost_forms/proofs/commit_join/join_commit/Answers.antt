use Rattle.gv_core.specs.Tree.{view}
use Rattle.ost_forms.specs.Commit.{parts_from}
use Rattle.ost_forms.proofs.Commits.{commit_joined}
use Rattle.ost_forms.proofs.commit_join.join_commit.Goals as goal

pub returns : goal.returns
returns c =
    let subject = rw c.as_slice.ensures.value at c.in_ok-subject.ensures in
    let body = rw c.as_slice-2.ensures.value at c.in_ok-body.ensures in
    let whole = rw (c.in_ok-kind.ensures, c.as_slice-3.ensures, c.parent_slice.ensures, c.as_slice-4.ensures, c.deref.ensures.value, c.deref-2.ensures.value, c.to_be_bytes.ensures, c.as_slice-5.ensures.value, c.as_slice-6.ensures.value) at c.container.ensures in
    commit_joined (parts_from (view c.args.metadata.now) c.args.parent.now (view c.args.related.now) c.args.subject.now c.args.body.now c.args.root.time c.args.root.tree c.args.root.meta) _ _ _ _ _ c.in_ok-metadata.ensures c.in_ok-related.ensures subject body whole

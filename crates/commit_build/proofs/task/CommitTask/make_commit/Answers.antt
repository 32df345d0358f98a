use Rattle.std.proofs.Common.{◌≡◌, sym, subst, ap, ◌∙◌}
use Rattle.tree_build.specs.Objects.{root_of}
use Rattle.commit_build.specs.contracts.task.CommitTask.{the_view}
use Rattle.commit_build.specs.declared.phase.Phase.TheVariants as phases
use Rattle.commit_build.specs.Committing.{Committing}
use Rattle.commit_build.specs.Steps.{Needs}
use Rattle.commit_build.proofs.PutSteps.{kept_as}
use Rattle.commit_build.proofs.WorkSteps.{commit_new_as, commit_reads, commit_begun, commit_steps}
use Rattle.commit_build.proofs.task.CommitTask.make_commit.Goals as goal

pub returns-clause-after : goal.returns-clause-after
returns-clause-after c = λ v needs.
    let phase = ap (λ (t : Committing). t.phase) c.self.view_is ∙ c.requires in
    let all = (kept_as (the_view c.self.inside) c.self.invariant.1 phases.MakeCommit phase).1 in
    let same : (c.in-Some.tree, c.in-Some.meta) ≡ root_of c.self.inside.build.items = cc (c.in-Some.is, c.root.ensures.given all) in
    let new = commit_new_as (the_view c.self.inside) _ _ c.in_ok-commit.commit c.in_ok-put.put c.in_ok-commit.ensures.kind c.in_ok-commit.ensures.sum c.in_ok-commit.ensures.bytes c.in_ok-put.ensures c.in-Some.tree c.in-Some.meta same (cc c.in-Some.tree-is) (cc c.in-Some.meta-is) in
    let reads = commit_reads (the_view c.self.inside) _ _ c.in_ok-commit.commit c.in_ok-commit.ensures.bytes c.in_ok-commit.ensures.reads c.in-Some.tree c.in-Some.meta same (cc c.in-Some.tree-is) (cc c.in-Some.meta-is) in
    commit_begun (the_view c.self.inside) v (subst (λ t. Needs t v) (sym c.self.view_is) needs) phase c.in_ok-put.put new reads

pub returns-clause-stepped : goal.returns-clause-stepped
returns-clause-stepped c = λ count.
    let phase = ap (λ (t : Committing). t.phase) c.self.view_is ∙ c.requires in
    let all = (kept_as (the_view c.self.inside) c.self.invariant.1 phases.MakeCommit phase).1 in
    let same : (c.in-Some.tree, c.in-Some.meta) ≡ root_of c.self.inside.build.items = cc (c.in-Some.is, c.root.ensures.given all) in
    let new = commit_new_as (the_view c.self.inside) _ _ c.in_ok-commit.commit c.in_ok-put.put c.in_ok-commit.ensures.kind c.in_ok-commit.ensures.sum c.in_ok-commit.ensures.bytes c.in_ok-put.ensures c.in-Some.tree c.in-Some.meta same (cc c.in-Some.tree-is) (cc c.in-Some.meta-is) in
    commit_steps (the_view c.self.inside) _ c.self.view_is phase c.in_ok-put.put new

use Rattle.std.proofs.Common.{refl, ap}
use Rattle.ost_types.specs.declared.object.Kind.TheVariants as kind
use Rattle.ost_forms.specs.CommitRow.{parts_of}
use Rattle.repo_model.specs.Trees.{name_of}
use Rattle.tree_read.proofs.TreeStores.{commit_in}
use Rattle.tree_read.proofs.Told.{is_here, is_absent, is_damaged}
use Rattle.tree_read.proofs.Telling.{commit_absent, commit_damaged, more_commit, stepped_begun}
use Rattle.tree_read.proofs.walking.TreeWalk.read_commit.Goals as goal

pub returns-in_ok-begin-in-Here-clause-told : goal.returns-in_ok-begin-in-Here-clause-told
returns-in_ok-begin-in-Here-clause-told g c = λ v is.
    let has = is_here v.now c.self.inside.limits.content (name_of kind.Commit c.self.inside.commit) _ c.in_ok-commit.field-0 _ c.in-Here.is (c.in_ok-commit.ensures.told v is) in
    more_commit (g.L.AtFile.store v.now) v.now c.args.self.now c.begin.new.self c.self.inside.commit _ _ (ap (λ t. t.commit) c.self.view_is) (parts_of c.in-Here.commit) (commit_in v.now (g.L.AtFile.store v.now) (g.met.L.AtFile.trees v.now) c.self.inside.commit (parts_of c.in-Here.commit) has) refl refl c.in_ok-begin-in-Here.ensures.ok

pub returns-in_ok-begin-in-Here-clause-stepped : goal.returns-in_ok-begin-in-Here-clause-stepped
returns-in_ok-begin-in-Here-clause-stepped g c = stepped_begun c.args.self.now c.begin.new.self _ _ c.requires c.in_ok-begin-in-Here.ensures.ok

pub returns-in-Absent-clause-told : goal.returns-in-Absent-clause-told
returns-in-Absent-clause-told g c = λ v is.
    let absent = is_absent v.now c.self.inside.limits.content (name_of kind.Commit c.self.inside.commit) _ c.in_ok-commit.field-0 c.in-Absent.is (c.in_ok-commit.ensures.told v is) in
    commit_absent (g.L.AtFile.store v.now) v.now c.args.self.now c.absent.result c.self.inside.commit c.absent.ensures (ap (λ t. t.commit) c.self.view_is) absent

pub returns-in-Damaged-clause-told : goal.returns-in-Damaged-clause-told
returns-in-Damaged-clause-told g c = λ v is.
    let damaged = is_damaged v.now c.self.inside.limits.content (name_of kind.Commit c.self.inside.commit) _ c.in_ok-commit.field-0 c.in-Damaged.is (c.in_ok-commit.ensures.told v is) in
    commit_damaged (g.L.AtFile.store v.now) v.now c.args.self.now c.damaged.result c.self.inside.commit c.self.inside.limits c.damaged.ensures (ap (λ t. t.commit) c.self.view_is) (ap (λ t. t.limits) c.self.view_is) damaged

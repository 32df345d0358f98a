use Rattle.std.proofs.Common.{refl, ap}
use Rattle.ost_types.specs.declared.object.Kind.TheVariants as kind
use Rattle.repo_model.specs.Trees.{name_of}
use Rattle.tree_read.specs.declared.item.Named.TheVariants as named
use Rattle.tree_read.proofs.TreeStores.{folder_in}
use Rattle.tree_read.proofs.Told.{is_here, is_absent, is_damaged}
use Rattle.tree_read.proofs.Telling.{stop_absent, stop_damaged, opened_told, opened_stepped}
use Rattle.tree_read.proofs.walking.TreeWalk.read_new_entries.Goals as goal

pub returns-in_ok-open-in-Here-clause-told : goal.returns-in_ok-open-in-Here-clause-told
returns-in_ok-open-in-Here-clause-told g c = λ v is so.
    let has = is_here v.now c.self.inside.limits.content (name_of kind.DirTree c.args.tree) _ c.in_ok-entries.field-0 c.in-Here.entries c.in-Here.is (c.in_ok-entries.ensures.told v is) in
    opened_told (g.L.AtFile.store v.now) (g.met.L.AtFile.trees v.now).one_each v.now c.args.self.now c.open.new.self c.args.tree c.args.meta c.args.owner _ c.requires so (folder_in v.now (g.L.AtFile.store v.now) (g.met.L.AtFile.trees v.now) c.args.tree _ has) c.in_ok-open-in-Here.field-0 c.in_ok-open-in-Here.ensures

pub returns-in_ok-open-in-Here-clause-stepped : goal.returns-in_ok-open-in-Here-clause-stepped
returns-in_ok-open-in-Here-clause-stepped g c = opened_stepped c.args.self.now c.open.new.self c.args.tree c.args.meta c.args.owner _ c.requires c.in_ok-open-in-Here.field-0 c.in_ok-open-in-Here.ensures

pub returns-in-Absent-clause-told : goal.returns-in-Absent-clause-told
returns-in-Absent-clause-told g c = λ v is so.
    let absent = is_absent v.now c.self.inside.limits.content (name_of kind.DirTree c.args.tree) _ c.in_ok-entries.field-0 c.in-Absent.is (c.in_ok-entries.ensures.told v is) in
    stop_absent (g.L.AtFile.store v.now) (g.met.L.AtFile.trees v.now).one_each v.now c.args.self.now (named.Folder c.args.tree c.args.meta) c.args.owner c.requires so c.absent.result (name_of kind.DirTree c.args.tree) c.absent.ensures refl absent

pub returns-in-Damaged-clause-told : goal.returns-in-Damaged-clause-told
returns-in-Damaged-clause-told g c = λ v is so.
    let damaged = is_damaged v.now c.self.inside.limits.content (name_of kind.DirTree c.args.tree) _ c.in_ok-entries.field-0 c.in-Damaged.is (c.in_ok-entries.ensures.told v is) in
    stop_damaged (g.L.AtFile.store v.now) (g.met.L.AtFile.trees v.now).one_each v.now c.args.self.now (named.Folder c.args.tree c.args.meta) c.args.owner c.requires so c.damaged.result (name_of kind.DirTree c.args.tree) c.self.inside.limits c.damaged.ensures refl (ap (λ t. t.limits) c.self.view_is) damaged

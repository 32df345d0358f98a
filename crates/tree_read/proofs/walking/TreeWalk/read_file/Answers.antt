use Rattle.std.proofs.Common.{refl, subst}
use Rattle.ost_types.specs.declared.node.NodeName.TheVariants as node
use Rattle.ost_types.specs.declared.object.Kind.TheVariants as kind
use Rattle.repo_model.specs.Trees.{name_of}
use Rattle.tree_read.specs.declared.item.Named.TheVariants as named
use Rattle.tree_read.specs.Remembered.{GainsFile}
use Rattle.tree_read.proofs.Told.{is_here, is_absent, is_damaged}
use Rattle.tree_read.proofs.Telling.{stop_absent, stop_damaged, more_file, stepped_taken, taken_begun, taken_kept, taken_memory}
use Rattle.tree_read.proofs.walking.TreeWalk.read_file.Goals as goal

pub keep_file-requires : goal.keep_file-requires
keep_file-requires g c = taken_begun c.args.self.now c.take.new.self (named.File c.args.file) c.args._owner c.requires _ (node.Leaf c.args.file) c.in_ok-take-in-Here.ensures.ok

pub returns-in_ok-take-in-Here-clause-told : goal.returns-in_ok-take-in-Here-clause-told
returns-in_ok-take-in-Here-clause-told g c = λ v is so.
    let old = c.args.self.now in
    let new = c.keep_file.new.self in
    let has = is_here v.now old.limits.content (name_of kind.File c.args.file) _ c.in_ok-look_at_file.field-0 c.in-Here.field-0 c.in-Here.is (c.in_ok-look_at_file.ensures.told v is (so c.requires.begun)) in
    let takes = c.in_ok-take-in-Here.ensures.ok in
    let same = taken_memory old c.take.new.self (named.File c.args.file) c.args._owner c.requires _ (node.Leaf c.args.file) takes in
    more_file (g.L.AtFile.store v.now) (g.met.L.AtFile.trees v.now).one_each v.now old new old.limits c.args.file c.args._owner new.remembered c.requires so refl has
    (subst (λ m. GainsFile m new.remembered c.args.file) same c.keep_file.ensures.gains) (taken_kept old c.take.new.self new (node.Leaf c.args.file) _ new.remembered takes c.keep_file.ensures.rest)

pub returns-in_ok-take-in-Here-clause-stepped : goal.returns-in_ok-take-in-Here-clause-stepped
returns-in_ok-take-in-Here-clause-stepped g c =
    let old = c.args.self.now in
    let new = c.keep_file.new.self in
    stepped_taken old new (named.File c.args.file) c.args._owner (node.Leaf c.args.file) new.remembered c.requires
    (taken_kept old c.take.new.self new (node.Leaf c.args.file) _ new.remembered c.in_ok-take-in-Here.ensures.ok c.keep_file.ensures.rest)

pub returns-in-Absent-clause-told : goal.returns-in-Absent-clause-told
returns-in-Absent-clause-told g c = λ v is so.
    let old = c.args.self.now in
    let absent = is_absent v.now old.limits.content (name_of kind.File c.args.file) _ c.in_ok-look_at_file.field-0 c.in-Absent.is (c.in_ok-look_at_file.ensures.told v is (so c.requires.begun)) in
    stop_absent (g.L.AtFile.store v.now) (g.met.L.AtFile.trees v.now).one_each v.now old (named.File c.args.file) c.args._owner c.requires so c.absent.result (name_of kind.File c.args.file) c.absent.ensures refl absent

pub returns-in-Damaged-clause-told : goal.returns-in-Damaged-clause-told
returns-in-Damaged-clause-told g c = λ v is so.
    let old = c.args.self.now in
    let damaged = is_damaged v.now old.limits.content (name_of kind.File c.args.file) _ c.in_ok-look_at_file.field-0 c.in-Damaged.is (c.in_ok-look_at_file.ensures.told v is (so c.requires.begun)) in
    stop_damaged (g.L.AtFile.store v.now) (g.met.L.AtFile.trees v.now).one_each v.now old (named.File c.args.file) c.args._owner c.requires so c.damaged.result (name_of kind.File c.args.file) old.limits c.damaged.ensures refl refl damaged

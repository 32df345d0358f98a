use Rattle.std.proofs.Common.{refl, sym, ap, subst}
use Rattle.ost_types.specs.declared.meta.Meta.{Meta}
use Rattle.ost_types.specs.Mode.{IsFolderMode}
use Rattle.ost_types.specs.declared.node.NodeName.TheVariants as node
use Rattle.ost_types.specs.declared.object.Kind.TheVariants as kind
use Rattle.repo_model.specs.Trees.{name_of}
use Rattle.tree_read.specs.declared.item.Named.TheVariants as named
use Rattle.tree_read.specs.Remembered.{GainsMeta}
use Rattle.tree_read.proofs.TreeStores.{meta_in}
use Rattle.tree_read.proofs.Told.{is_here, is_absent, is_damaged}
use Rattle.tree_read.proofs.Telling.{of_folder, taken_kept, taken_begun, taken_memory, stop_absent, stop_damaged, more_folder, stepped_taken}
use Rattle.tree_read.proofs.walking.TreeWalk.read_new_attributes.Goals as goal

pub take-requires : goal.take-requires
take-requires g c = of_folder c.in_ok-attributes.field-0 c.in-Here.attributes c.in-Here.is c.in_ok-attributes.ensures.folder

pub keep_attributes-requires : goal.keep_attributes-requires
keep_attributes-requires g c = record {
  begun = taken_begun c.args.self.now c.take.new.self (named.Attributes c.args.meta) c.args._owner c.requires _ (node.Folder c.in-Here.attributes) c.in_ok-take-in-Here.ensures.ok;
  folder = subst (λ (m : Meta). IsFolderMode m.mode) (sym c.in_ok-copy-in-Here.ensures) (of_folder c.in_ok-attributes.field-0 c.in-Here.attributes c.in-Here.is c.in_ok-attributes.ensures.folder);
}

pub returns-in_ok-take-in-Here-clause-told : goal.returns-in_ok-take-in-Here-clause-told
returns-in_ok-take-in-Here-clause-told g c = λ v is so.
    let old = c.args.self.now in
    let new = c.keep_attributes.new.self in
    let has = is_here v.now c.self.inside.limits.content (name_of kind.DirMeta c.args.meta) _ c.in_ok-attributes.field-0 c.in-Here.attributes c.in-Here.is (c.in_ok-attributes.ensures.told v is) in
    let takes = c.in_ok-take-in-Here.ensures.ok in
    let same = taken_memory old c.take.new.self (named.Attributes c.args.meta) c.args._owner c.requires _ (node.Folder c.in-Here.attributes) takes in
    let gains = subst (λ m. GainsMeta old.remembered new.remembered c.args.meta m) c.in_ok-copy-in-Here.ensures (subst (λ r. GainsMeta r new.remembered c.args.meta c.in_ok-copy-in-Here.copy) same c.keep_attributes.ensures.gains) in
    more_folder (g.L.AtFile.store v.now) (g.met.L.AtFile.trees v.now).one_each v.now old new c.args.meta c.args._owner c.in-Here.attributes new.remembered c.requires so
    (meta_in v.now (g.L.AtFile.store v.now) (g.met.L.AtFile.trees v.now) c.args.meta c.in-Here.attributes has) gains
    (taken_kept old c.take.new.self new (node.Folder c.in-Here.attributes) _ new.remembered takes c.keep_attributes.ensures.rest)

pub returns-in_ok-take-in-Here-clause-stepped : goal.returns-in_ok-take-in-Here-clause-stepped
returns-in_ok-take-in-Here-clause-stepped g c =
    let old = c.args.self.now in
    let new = c.keep_attributes.new.self in
    stepped_taken old new (named.Attributes c.args.meta) c.args._owner (node.Folder c.in-Here.attributes) new.remembered c.requires
    (taken_kept old c.take.new.self new (node.Folder c.in-Here.attributes) _ new.remembered c.in_ok-take-in-Here.ensures.ok c.keep_attributes.ensures.rest)

pub returns-in-Absent-clause-told : goal.returns-in-Absent-clause-told
returns-in-Absent-clause-told g c = λ v is so.
    let absent = is_absent v.now c.self.inside.limits.content (name_of kind.DirMeta c.args.meta) _ c.in_ok-attributes.field-0 c.in-Absent.is (c.in_ok-attributes.ensures.told v is) in
    stop_absent (g.L.AtFile.store v.now) (g.met.L.AtFile.trees v.now).one_each v.now c.args.self.now (named.Attributes c.args.meta) c.args._owner c.requires so c.absent.result (name_of kind.DirMeta c.args.meta) c.absent.ensures refl absent

pub returns-in-Damaged-clause-told : goal.returns-in-Damaged-clause-told
returns-in-Damaged-clause-told g c = λ v is so.
    let damaged = is_damaged v.now c.self.inside.limits.content (name_of kind.DirMeta c.args.meta) _ c.in_ok-attributes.field-0 c.in-Damaged.is (c.in_ok-attributes.ensures.told v is) in
    stop_damaged (g.L.AtFile.store v.now) (g.met.L.AtFile.trees v.now).one_each v.now c.args.self.now (named.Attributes c.args.meta) c.args._owner c.requires so c.damaged.result (name_of kind.DirMeta c.args.meta) c.self.inside.limits c.damaged.ensures refl (ap (λ t. t.limits) c.self.view_is) damaged

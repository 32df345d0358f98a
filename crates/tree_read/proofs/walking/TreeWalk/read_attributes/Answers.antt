use Rattle.std.proofs.Common.{Contains, IfSome, subst}
use Rattle.ost_types.specs.declared.node.NodeName.TheVariants as node
use Rattle.tree_read.specs.declared.item.Named.TheVariants as named
use Rattle.tree_read.proofs.Telling.{again_folder, stepped_taken}
use Rattle.tree_read.proofs.walking.TreeWalk.read_attributes.Goals as goal

pub returns-clause-told : goal.returns-clause-told
returns-clause-told g c = λ v is so.
    let there = subst (λ o. IfSome o (λ m. Contains c.args.self.now.remembered.metas (c.args.meta, m))) c.in-Some.is c.in_ok-attributes.ensures.there in
    again_folder (g.L.AtFile.store v.now) (g.met.L.AtFile.trees v.now).one_each v.now c.args.self.now c.take.new.self c.args.meta c.args._owner c.in-Some.attributes c.requires so there c.in_ok-take.ensures.ok

pub returns-clause-stepped : goal.returns-clause-stepped
returns-clause-stepped g c = stepped_taken c.args.self.now c.take.new.self (named.Attributes c.args.meta) c.args._owner (node.Folder c.in-Some.attributes) c.args.self.now.remembered c.requires c.in_ok-take.ensures.ok

use Rattle.std.proofs.Common.{Contains, subst}
use Rattle.tree_read.specs.Line.{InLine}
use Rattle.tree_read.proofs.Openings.{fits}
use Rattle.tree_read.proofs.Telling.{again_far, again_opened, again_stepped}
use Rattle.tree_read.proofs.walking.TreeWalk.read_entries.Goals as goal

pub replace_next-requires : goal.replace_next-requires
replace_next-requires g c =
    fits c.args.self.now c.args.owner c.args.tree c.args.meta _ c.in-Some-2.below.items c.requires (subst (λ t. InLine t.found t.pending) c.self.view_is c.self.invariant.0) (rw c.in-Some-2.is at c.in_ok-below.ensures)

pub returns-in_ok-replace_next-in-Some-2-clause-told : goal.returns-in_ok-replace_next-in-Some-2-clause-told
returns-in_ok-replace_next-in-Some-2-clause-told g c = λ v is so.
    let there = subst (λ t. Contains t.remembered.trees (c.args.tree, c.in-Some.entries.now)) c.self.view_is c.in-Some.ensures in
    again_opened c.args.self.now c.replace_next.new.self c.args.tree c.args.meta c.args.owner c.in-Some.entries.now c.requires (g.L.AtFile.store v.now) (g.met.L.AtFile.trees v.now).one_each v.now so there
    c.in-Some-2.below.items (rw c.in-Some-2.is at c.in_ok-below.ensures) c.in_ok-replace_next-in-Some-2.ensures.ok

pub returns-in_ok-replace_next-in-Some-2-clause-stepped : goal.returns-in_ok-replace_next-in-Some-2-clause-stepped
returns-in_ok-replace_next-in-Some-2-clause-stepped g c =
    again_stepped c.args.self.now c.replace_next.new.self c.args.tree c.args.meta c.args.owner c.in-Some.entries.now c.requires
    c.in-Some-2.below.items (rw c.in-Some-2.is at c.in_ok-below.ensures) c.in_ok-replace_next-in-Some-2.ensures.ok

pub returns-in-None-clause-told : goal.returns-in-None-clause-told
returns-in-None-clause-told g c = λ v is so.
    let there = subst (λ t. Contains t.remembered.trees (c.args.tree, c.in-Some.entries.now)) c.self.view_is c.in-Some.ensures in
    again_far c.args.self.now c.args.self.now c.args.tree c.args.meta c.args.owner c.in-Some.entries.now c.requires (g.L.AtFile.store v.now) (g.met.L.AtFile.trees v.now).one_each v.now so there
    (rw c.in-None.is at c.in_ok-below.ensures) c.damaged.result c.damaged.ensures

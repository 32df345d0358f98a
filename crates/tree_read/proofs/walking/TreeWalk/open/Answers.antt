use Rattle.std.proofs.Common.{subst}
use Rattle.tree_read.specs.Line.{InLine}
use Rattle.tree_read.specs.declared.item.Named.TheVariants as named
use Rattle.tree_read.specs.Remembered.{GainsTree}
use Rattle.tree_read.proofs.Openings.{fits}
use Rattle.tree_read.proofs.Telling.{opened_begun, opened_kept, opened_memory}
use Rattle.tree_read.proofs.walking.TreeWalk.open.Goals as goal

pub replace_next-requires : goal.replace_next-requires
replace_next-requires c =
    fits c.args.self.now c.args.owner c.args.tree c.args.meta _ c.in-Some.below.items c.requires (subst (λ t. InLine t.found t.pending) c.self.view_is c.self.invariant.0) (rw c.in-Some.is at c.in_ok-below.ensures)

pub keep_entries-requires : goal.keep_entries-requires
keep_entries-requires c = opened_begun c.args.self.now c.replace_next.new.self (named.Folder c.args.tree c.args.meta) c.args.owner c.requires _ c.in-Some.below.items c.in_ok-replace_next-in-Some.ensures.ok

pub returns-in_ok-replace_next-in-Some : goal.returns-in_ok-replace_next-in-Some
returns-in_ok-replace_next-in-Some c =
    let old = c.args.self.now in
    let new = c.keep_entries.new.self in
    let opens = c.in_ok-replace_next-in-Some.ensures.ok in
    let same = opened_memory old c.replace_next.new.self (named.Folder c.args.tree c.args.meta) c.args.owner c.requires _ c.in-Some.below.items opens in
    record {
      below = c.in-Some.below.items;
      lists = rw c.in-Some.is at c.in_ok-below.ensures;
      opens = opened_kept old c.replace_next.new.self new c.in-Some.below.items _ new.remembered opens c.keep_entries.ensures.rest;
      gains = subst (λ m. GainsTree m new.remembered c.args.tree c.args.entries) same c.keep_entries.ensures.gains;
    }

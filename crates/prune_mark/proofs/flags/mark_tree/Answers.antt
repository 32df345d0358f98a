use Rattle.std.proofs.Common.{subst}
use Rattle.ost_types.specs.declared.object.Kind.TheVariants as kinds
use Rattle.repo_model.specs.Trees.{name_of}
use Rattle.prune_mark.specs.Flags.{IsDown}
use Rattle.prune_mark.proofs.Spreading.{spreads_tree}
use Rattle.prune_mark.proofs.flags.mark_tree.Goals as goal

pub returns-in-Some-clause-spreads : goal.returns-in-Some-clause-spreads
returns-in-Some-clause-spreads c =
    let was = subst (λ f. IsDown c.args.names.now f (name_of kinds.DirTree c.args.tree) c.in-Some.at) c.as_slice.ensures.value c.in-Some.ensures in
    rw c.push_reserved.ensures.items (spreads_tree c.args.names.now c.args.flags.now.items c.args.pending.now.items c.args.tree c.in-Some.at c.requires.long was)

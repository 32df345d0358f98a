use Rattle.std.proofs.Common.{inl, inr, ⊎_elim}
use Rattle.ost_types.specs.declared.object.Kind.TheVariants as kinds
use Rattle.repo_model.specs.Trees.{name_of}
use Rattle.reach.specs.Reach.{Is, IsFolderOf}
use Rattle.prune_mark.proofs.Spreading.{spreads_as, spreads_then}
use Rattle.prune_mark.proofs.flags.mark_folder.Goals as goal

pub returns-clause-spreads : goal.returns-clause-spreads
returns-clause-spreads c =
    spreads_as c.args.names.now _ (IsFolderOf c.args.tree c.args.meta) c.args.flags.now.items c.mark_tree.new.flags.items c.args.pending.now.items c.mark_tree.new.pending.items
    (λ o. ⊎_elim (λ m. inr m) (λ t. inl t))
    (λ o. ⊎_elim (λ t. inr t) (λ m. inl m))
    (spreads_then c.args.names.now (Is (name_of kinds.DirMeta c.args.meta)) (Is (name_of kinds.DirTree c.args.tree)) c.args.flags.now.items _ c.mark_tree.new.flags.items c.args.pending.now.items c.args.pending.now.items c.mark_tree.new.pending.items (c.mark_leaf.ensures c.args.pending.now.items) c.mark_tree.ensures.spreads)

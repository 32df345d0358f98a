use Rattle.std.proofs.Common.{◌≡◌, inr, refl, sym, ◌∙◌, ap, subst}
use Rattle.ost_types.specs.declared.object.Kind.TheVariants as kinds
use Rattle.ost_types.specs.declared.object.ObjName.{ObjName}
use Rattle.repo_model.specs.Trees.{name_of}
use Rattle.reach.specs.Reach.{Is}
use Rattle.prune_mark.specs.Flags.{Spreads}
use Rattle.prune_mark.proofs.roots.mark_root.Goals as goal

pub returns-in-DirTree-clause-marks : goal.returns-in-DirTree-clause-marks
returns-in-DirTree-clause-marks c = inr (
  (λ e. let n : kinds.DirTree ≡ kinds.Commit = sym c.in-DirTree.is ∙ e in cc),
  subst (λ (o : ObjName). Spreads c.args.names.now (Is o) c.args.flags.now.items c.args.pending.now.items c.mark_tree.new.flags.items c.mark_tree.new.pending.items) (sym (ap (λ k. name_of k c.args.root.now.csum) c.in-DirTree.is)) c.mark_tree.ensures.spreads,
  refl,
)

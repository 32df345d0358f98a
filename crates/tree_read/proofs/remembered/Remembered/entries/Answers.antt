use Rattle.std.proofs.Common.{Contains, IfSome, subst}
use Rattle.std.proofs.lemmas.Cmp.{nat_list_cmp_total}
use Rattle.std.proofs.lemmas.Map.Lookups.{exact_bytes}
use Rattle.std.proofs.lemmas.Map.Views.{IfSome-get}
use Rattle.tree_read.proofs.Recalling.{of_copied}
use Rattle.tree_read.proofs.remembered.Remembered.entries.Goals as goal

pub returns : goal.returns
returns c =
    let trees = c.self.inside.trees in
    subst (λ m. IfSome c.get.result (λ t. Contains m.trees (c.args.tree.now, t.now))) c.self.view_is
    (of_copied (λ t. Contains trees.entries (c.args.tree.now, t)) c.get.result _ c.get.ensures.value (IfSome-get nat_list_cmp_total exact_bytes trees c.args.tree.now))

use Rattle.std.proofs.Common.{Contains, IfSome, subst}
use Rattle.std.proofs.lemmas.Cmp.{nat_list_cmp_total}
use Rattle.std.proofs.lemmas.Map.Lookups.{exact_bytes}
use Rattle.std.proofs.lemmas.Map.Views.{IfSome-get}
use Rattle.std.proofs.lemmas.Option.{IfSome_then}
use Rattle.tree_read.proofs.Recalling.{of_copied}
use Rattle.tree_read.proofs.remembered.Remembered.attributes.Goals as goal

pub returns-clause-there : goal.returns-clause-there
returns-clause-there c =
    let metas = c.self.inside.metas in
    subst (λ r. IfSome c.get.result (λ m. Contains r.metas (c.args.meta.now, m.now))) c.self.view_is
    (of_copied (λ m. Contains metas.entries (c.args.meta.now, m)) c.get.result _ c.get.ensures.value (IfSome-get nat_list_cmp_total exact_bytes metas c.args.meta.now))

pub returns-clause-folder : goal.returns-clause-folder
returns-clause-folder c =
    let metas = c.self.inside.metas in
    IfSome_then c.get.result
    (of_copied (λ m. Contains metas.entries (c.args.meta.now, m)) c.get.result _ c.get.ensures.value (IfSome-get nat_list_cmp_total exact_bytes metas c.args.meta.now))
    (λ m among. c.self.invariant c.args.meta.now m.now among)

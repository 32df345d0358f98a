use Rattle.std.proofs.Common.{◌∙◌, sym, ap, subst}
use Rattle.ost_types.specs.Path.{IsPath, under}
use Rattle.boot_read.proofs.PathLemmas.{link_path_1, link_path_2, link_path_3}
use Rattle.boot_read.proofs.places.item_link.Goals as goal

pub child-requires : goal.child-requires
child-requires c = subst (λ f. IsPath (under f c.in_ok-os_name.field-0)) (sym c.in_ok-folder.ensures) (link_path_1 c.args.loader c.args.sub c.in_ok-os_name.field-0 c.in_ok-os_name.ensures.name)

pub child-requires-2 : goal.child-requires-2
child-requires-2 c =
    subst (λ f. IsPath (under f c.in_ok-sum_name.field-0)) (sym (c.in_ok-links.ensures ∙ ap (λ f. under f c.in_ok-os_name.field-0) c.in_ok-folder.ensures))
    (link_path_2 c.args.loader c.args.sub c.in_ok-os_name.field-0 c.in_ok-sum_name.field-0 c.in_ok-os_name.ensures.name c.in_ok-sum_name.ensures.name)

pub child-requires-3 : goal.child-requires-3
child-requires-3 c =
    subst (λ f. IsPath (under f c.in_ok-number_name.field-0)) (sym (c.in_ok-kernel.ensures ∙ ap (λ f. under f c.in_ok-sum_name.field-0) (c.in_ok-links.ensures ∙ ap (λ f. under f c.in_ok-os_name.field-0) c.in_ok-folder.ensures)))
    (link_path_3 c.args.loader c.args.sub c.in_ok-os_name.field-0 c.in_ok-sum_name.field-0 c.in_ok-number_name.field-0 c.in_ok-os_name.ensures.name c.in_ok-sum_name.ensures.name c.in_ok-number_name.ensures.name)

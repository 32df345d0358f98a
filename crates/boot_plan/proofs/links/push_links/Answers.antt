use Rattle.std.proofs.Common.{◌∙◌, sym, ap, subst}
use Rattle.ost_types.specs.Path.{IsPath, under}
use Rattle.boot_plan.proofs.LinkNodes.{links_pushed}
use Rattle.boot_plan.proofs.Plain.{links_child, links_child_2, links_child_3}
use Rattle.boot_plan.proofs.links.push_links.Goals as goal

pub child-requires : goal.child-requires
child-requires c = subst (λ f. IsPath (under f c.in_ok-os_name.field-0)) (sym c.in_ok-top.ensures) (links_child c.args.version c.args.sub c.in_ok-os_name.field-0 c.in_ok-os_name.ensures.name)

pub child-requires-2 : goal.child-requires-2
child-requires-2 c =
    subst (λ f. IsPath (under f c.in_ok-sum_name.field-0)) (sym (c.in_ok-os.ensures ∙ ap (λ f. under f c.in_ok-os_name.field-0) c.in_ok-top.ensures))
    (links_child_2 c.args.version c.args.sub c.in_ok-os_name.field-0 c.in_ok-sum_name.field-0 c.in_ok-os_name.ensures.name c.in_ok-sum_name.ensures.name)

pub child-requires-3 : goal.child-requires-3
child-requires-3 c =
    subst (λ f. IsPath (under f c.in_ok-link_name.field-0)) (sym (c.in_ok-kernel.ensures ∙ ap (λ f. under f c.in_ok-sum_name.field-0) (c.in_ok-os.ensures ∙ ap (λ f. under f c.in_ok-os_name.field-0) c.in_ok-top.ensures)))
    (links_child_3 c.args.version c.args.sub c.in_ok-os_name.field-0 c.in_ok-sum_name.field-0 c.in_ok-link_name.field-0 c.in_ok-os_name.ensures.name c.in_ok-sum_name.ensures.name c.in_ok-link_name.ensures.name)

pub returns : goal.returns
returns c = λ item at.
    links_pushed _ _ c.args.items.now c.args.index item c.index-items-index.result at c.index-items-index.is _ _ _ _ _ _ _ _ _ c.in_ok-top.ensures c.in_ok-os_name.ensures.value c.in_ok-os.ensures c.in_ok-sum_name.ensures.value c.in_ok-kernel.ensures
    c.in_ok-link_name.ensures.value (c.link_number.ensures.value item at) c.in_ok-at.ensures c.in_ok-target.ensures _ _ _ _ c.in_ok-push.ensures.items c.in_ok-push-2.ensures.items c.in_ok-push-3.ensures.items

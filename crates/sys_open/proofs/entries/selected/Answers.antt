use Rattle.std.proofs.Common.{sym, ◌∙◌, ap, Some}
use Rattle.sys_open.proofs.EntryPlaces.{is_one, link_target, same_by, selected_node}
use Rattle.sys_open.proofs.entries.selected.Goals as goal

pub returns-then-eq : goal.returns-then-eq
returns-then-eq c = λ d loader is selects.
    let same = same_by _ _ _ c.eq.ensures c.if-eq.true in
    let node = selected_node d loader c.args.node is selects in
    let target = link_target _ _ _ _ (sym node.1 ∙ c.in-Some-Link.is ∙ ap Some c.in-Some-Link.field-0-is) in
    is_one loader selects.small (target ∙ sym c.as_slice.ensures.value ∙ same ∙ c.loader_target.ensures)

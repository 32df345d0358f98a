use Rattle.std.proofs.Common.{◌≡◌, true, false, sym, ◌∙◌}
use Rattle.sys_open.proofs.Gathering.{left_over_all, left_over_links}
use Rattle.sys_open.proofs.unlisted.left_overs.Goals as goal

pub returns-then-not-is_selected-clause-told : goal.returns-then-not-is_selected-clause-told
returns-then-not-is_selected-clause-told g c = λ v told are.
    left_over_links v.now _ _ _ _ _ c.new-found.ensures.items c.in_ok-loader_stage_path.ensures c.in_ok-boot_link_stage_path.ensures c.in_ok-push.ensures.items c.in_ok-push-2.ensures.items
    (λ has. (let n : false ≡ true = sym c.if-not-is_selected.true ∙ (c.in_ok-is_selected.ensures.told v told).1 has in cc))

pub returns-clause-told : goal.returns-clause-told
returns-clause-told g c = λ v told are.
    left_over_all v.now _ _ _ _ _ c.new-found.ensures.items c.in_ok-loader_stage_path.ensures c.in_ok-boot_link_stage_path.ensures c.in_ok-push.ensures.items c.in_ok-push-2.ensures.items
    c.args.rows.now c.as_slice.result.now _ (c.as_slice.ensures.value ∙ c.in_ok-listed.ensures) are ((c.in_ok-is_selected.ensures.told v told).0 c.if-not-is_selected.false) (c.in_ok-add_all.ensures.told v (c.in_ok-is_selected.ensures.quiet.view ∙ told))

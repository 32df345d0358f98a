use Rattle.std.proofs.Common.{◌∙◌, subst}
use Rattle.deploy_clean.specs.Unlisted.{IsUnlisted}
use Rattle.durable_list.specs.Standing.{ids_of}
use Rattle.sys_open.specs.LeftOver.{Gathers, IsThere}
use Rattle.sys_open.proofs.Stays.{AreOwn, staying_all, staying_own}
use Rattle.sys_open.proofs.staying.staying.Goals as goal

pub returns-then-is_selected-clause-told : goal.returns-then-is_selected-clause-told
returns-then-is_selected-clause-told g c = λ v told.
    let own = subst (λ l. AreOwn l c.in_ok-found.found.items) (c.as_slice.ensures.value ∙ c.in_ok-listed.ensures) c.in_ok-found.ensures in
    staying_own v.now (ids_of c.args.rows.now) c.in_ok-found.found.items _ own c.in_ok-add_boot.ensures ((c.in_ok-is_selected.ensures.told v told).0 c.if-is_selected.true)

pub returns-clause-told : goal.returns-clause-told
returns-clause-told g c = λ v told.
    let own = subst (λ l. AreOwn l c.in_ok-found.found.items) (c.as_slice.ensures.value ∙ c.in_ok-listed.ensures) c.in_ok-found.ensures in
    staying_all v.now (ids_of c.args.rows.now) c.in_ok-found.found.items _ own c.in_ok-add_boot.ensures _
    (subst (λ l. Gathers (IsUnlisted l) (IsThere (IsUnlisted l) v.now) c.add_boot.new.found.items c.add_all.new.found.items) (c.as_slice-2.ensures.value ∙ c.in_ok-listed.ensures)
    (c.in_ok-add_all.ensures.told v (c.in_ok-is_selected.ensures.quiet.view ∙ told)))

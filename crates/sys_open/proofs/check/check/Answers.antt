use Rattle.std.proofs.Common.{◌∙◌, sym, subst, List, ℕ}
use Rattle.std.proofs.lemmas.Result.{err_from_is_err_and}
use Rattle.std.specs.Global.{Vec}
use Rattle.ost_types.specs.declared.object.ObjName.{ObjName}
use Rattle.ost_types.specs.Path.{Path}
use Rattle.boot_read.specs.declared.row.BootRow.{BootRow}
use Rattle.boot_read.specs.Rows.{AreRowsOf}
use Rattle.rely_guarantee.specs.State.{first}
use Rattle.rely_guarantee.specs.Disks.{Logical}
use Rattle.sys_open.specs.declared.check.Contents.{Contents}
use Rattle.sys_open.specs.Damages.{Places, Config, RefFiles, BootList, Deployments, Staging}
use Rattle.sys_open.specs.Opening.{AreAscending}
use Rattle.sys_open.proofs.Checking.{all_good, before_config, before_deployments, before_list, before_places, before_refs, before_staging, config_told, first_fault, places_pass, places_told, refs_pass, refs_told, stages_pass, stages_told, store_fault}
use Rattle.sys_open.proofs.Booting.{right_objects}
use Rattle.sys_open.proofs.check.check.Goals as goal

pub returns-in_err-check_places-clause-told : goal.returns-in_err-check_places-clause-told
returns-in_err-check_places-clause-told g c = λ v told.
    let error = err_from_is_err_and c.from_residual.result c.from_residual.ensures.1 in
    rw (error.1, error.2) (first_fault (Unit {0}) Contents Places c.args.limits.now v.now _ (before_places c.args.limits.now v.now) (places_told (Unit {0}) c.args.limits.now v.now _ (c.in_err-check_places.ensures.told v told)))

pub returns-in_err-check_config-clause-told : goal.returns-in_err-check_config-clause-told
returns-in_err-check_config-clause-told g c = λ v told.
    let error = err_from_is_err_and c.from_residual-in_err-check_config.result c.from_residual-in_err-check_config.ensures.1 in
    let now = c.check_places.ensures.quiet.view ∙ told in
    let places = places_pass c.args.limits.now v.now (c.in_ok-check_places.ensures.told v told) in
    rw (error.1, error.2) (first_fault (Unit {0}) Contents Config c.args.limits.now v.now _ (before_config c.args.limits.now v.now places) (config_told (Unit {0}) c.args.limits.now v.now _ (c.in_err-check_config.ensures.told v now)))

pub returns-in_err-refs-clause-told : goal.returns-in_err-refs-clause-told
returns-in_err-refs-clause-told g c = λ v told.
    let error = err_from_is_err_and c.from_residual-in_err-refs.result c.from_residual-in_err-refs.ensures.1 in
    let now = c.check_places.ensures.quiet.view ∙ told in
    let places = places_pass c.args.limits.now v.now (c.in_ok-check_places.ensures.told v told) in
    let config = c.in_ok-check_config.ensures.told v now in
    rw (error.1, error.2) (first_fault (Vec (List ℕ × List ℕ)) Contents RefFiles c.args.limits.now v.now _ (before_refs c.args.limits.now v.now places config) (refs_told (Vec (List ℕ × List ℕ)) c.args.limits.now v.now _ (c.in_err-refs.ensures.told v (c.check_config.ensures.quiet.view ∙ now))))

pub objects_of-requires : goal.objects_of-requires
objects_of-requires g c = (
  c.type_bounds.sync-R,
  λ u now. record {
    ascending = subst AreAscending (sym c.as_slice.ensures.value) c.in_ok-refs.ensures.ascending;
    logical = subst (λ l. Logical u.now (first l)) (sym c.as_slice.ensures.value) (c.in_ok-refs.ensures.refs u (sym c.refs_of.ensures.quiet.view ∙ now));
  },
)

pub returns-in_err-objects-clause-told : goal.returns-in_err-objects-clause-told
returns-in_err-objects-clause-told g c = λ v told.
    let error = err_from_is_err_and c.from_residual-in_err-objects.result c.from_residual-in_err-objects.ensures.1 in
    let placed = c.check_places.ensures.quiet.view ∙ told in
    let configured = c.check_config.ensures.quiet.view ∙ placed in
    let now = c.refs_of.ensures.quiet.view ∙ configured in
    let places = places_pass c.args.limits.now v.now (c.in_ok-check_places.ensures.told v told) in
    let config = c.in_ok-check_config.ensures.told v placed in
    let refs = refs_pass c.args.limits.now v.now (c.in_ok-refs.ensures.told v configured) in
    rw (error.1, error.2) (store_fault c.args.limits.now v.now places config refs (Vec ObjName) Contents _ (c.in_err-objects.ensures.told v now))

pub returns-in_err-rows-clause-told : goal.returns-in_err-rows-clause-told
returns-in_err-rows-clause-told g c = λ v told.
    let error = err_from_is_err_and c.from_residual-in_err-rows.result c.from_residual-in_err-rows.ensures.1 in
    let placed = c.check_places.ensures.quiet.view ∙ told in
    let configured = c.check_config.ensures.quiet.view ∙ placed in
    let read = c.refs_of.ensures.quiet.view ∙ configured in
    let now = c.objects_of.ensures.quiet.view ∙ read in
    let places = places_pass c.args.limits.now v.now (c.in_ok-check_places.ensures.told v told) in
    let config = c.in_ok-check_config.ensures.told v placed in
    let refs = refs_pass c.args.limits.now v.now (c.in_ok-refs.ensures.told v configured) in
    rw (error.1, error.2) (first_fault (Vec BootRow) Contents BootList c.args.limits.now v.now _ (before_list c.args.limits.now v.now places config refs (c.in_ok-objects.ensures.told v read)) (c.in_err-rows.ensures.told v c.args.limits.now now))

pub returns-in_err-check_deployments-clause-told : goal.returns-in_err-check_deployments-clause-told
returns-in_err-check_deployments-clause-told g c = λ v told.
    let error = err_from_is_err_and c.from_residual-in_err-check_deployments.result c.from_residual-in_err-check_deployments.ensures.1 in
    let placed = c.check_places.ensures.quiet.view ∙ told in
    let configured = c.check_config.ensures.quiet.view ∙ placed in
    let read = c.refs_of.ensures.quiet.view ∙ configured in
    let stored = c.objects_of.ensures.quiet.view ∙ read in
    let listed = c.read_boot_list.ensures.quiet.view ∙ stored in
    let places = places_pass c.args.limits.now v.now (c.in_ok-check_places.ensures.told v told) in
    let config = c.in_ok-check_config.ensures.told v placed in
    let refs = refs_pass c.args.limits.now v.now (c.in_ok-refs.ensures.told v configured) in
    let store = c.in_ok-objects.ensures.told v read in
    let list = c.in_ok-rows.ensures.told v c.args.limits.now stored in
    let right = right_objects c.args.limits.now v.now store.0 in
    let rows = subst (AreRowsOf v.now) (sym c.as_slice-2.ensures.value) (c.in_ok-rows.ensures.rows v stored) in
    rw (error.1, error.2) (first_fault (Unit {0}) Contents Deployments c.args.limits.now v.now _ (before_deployments c.args.limits.now v.now places config refs store list) (c.in_err-check_deployments.ensures.told v listed right rows))

pub returns-in_err-left_overs-clause-told : goal.returns-in_err-left_overs-clause-told
returns-in_err-left_overs-clause-told g c = λ v told.
    let error = err_from_is_err_and c.from_residual-in_err-left_overs.result c.from_residual-in_err-left_overs.ensures.1 in
    let placed = c.check_places.ensures.quiet.view ∙ told in
    let configured = c.check_config.ensures.quiet.view ∙ placed in
    let read = c.refs_of.ensures.quiet.view ∙ configured in
    let stored = c.objects_of.ensures.quiet.view ∙ read in
    let listed = c.read_boot_list.ensures.quiet.view ∙ stored in
    let places = places_pass c.args.limits.now v.now (c.in_ok-check_places.ensures.told v told) in
    let config = c.in_ok-check_config.ensures.told v placed in
    let refs = refs_pass c.args.limits.now v.now (c.in_ok-refs.ensures.told v configured) in
    let store = c.in_ok-objects.ensures.told v read in
    let list = c.in_ok-rows.ensures.told v c.args.limits.now stored in
    let right = right_objects c.args.limits.now v.now store.0 in
    let rows = subst (AreRowsOf v.now) (sym c.as_slice-2.ensures.value) (c.in_ok-rows.ensures.rows v stored) in
    let whole = c.in_ok-check_deployments.ensures.told v listed right rows in
    let now = c.check_deployments.ensures.quiet.view ∙ listed in
    let listed_rows = subst (AreRowsOf v.now) (sym c.as_slice-3.ensures.value) (c.in_ok-rows.ensures.rows v stored) in
    rw (error.1, error.2) (first_fault (Vec Path) Contents Staging c.args.limits.now v.now _ (before_staging c.args.limits.now v.now places config refs store list whole) (stages_told (Vec Path) c.args.limits.now v.now _ (c.in_err-left_overs.ensures.told v c.args.limits.now now listed_rows (whole _ listed_rows))))

pub returns-clause-told : goal.returns-clause-told
returns-clause-told g c = λ v told.
    let placed = c.check_places.ensures.quiet.view ∙ told in
    let configured = c.check_config.ensures.quiet.view ∙ placed in
    let read = c.refs_of.ensures.quiet.view ∙ configured in
    let stored = c.objects_of.ensures.quiet.view ∙ read in
    let listed = c.read_boot_list.ensures.quiet.view ∙ stored in
    let places = places_pass c.args.limits.now v.now (c.in_ok-check_places.ensures.told v told) in
    let config = c.in_ok-check_config.ensures.told v placed in
    let refs = refs_pass c.args.limits.now v.now (c.in_ok-refs.ensures.told v configured) in
    let store = c.in_ok-objects.ensures.told v read in
    let list = c.in_ok-rows.ensures.told v c.args.limits.now stored in
    let right = right_objects c.args.limits.now v.now store.0 in
    let rows = subst (AreRowsOf v.now) (sym c.as_slice-2.ensures.value) (c.in_ok-rows.ensures.rows v stored) in
    let whole = c.in_ok-check_deployments.ensures.told v listed right rows in
    let now = c.check_deployments.ensures.quiet.view ∙ listed in
    let listed_rows = subst (AreRowsOf v.now) (sym c.as_slice-3.ensures.value) (c.in_ok-rows.ensures.rows v stored) in
    all_good c.args.limits.now v.now places config refs store list whole (stages_pass c.args.limits.now v.now (c.in_ok-left_overs.ensures.told v c.args.limits.now now listed_rows (whole _ listed_rows)))

pub returns-clause-refs : goal.returns-clause-refs
returns-clause-refs g c = λ v told.
    c.in_ok-refs.ensures.refs v (c.check_config.ensures.quiet.view ∙ (c.check_places.ensures.quiet.view ∙ told))

pub returns-clause-objects : goal.returns-clause-objects
returns-clause-objects g c = λ v told.
    c.in_ok-objects.ensures.all v (c.refs_of.ensures.quiet.view ∙ (c.check_config.ensures.quiet.view ∙ (c.check_places.ensures.quiet.view ∙ told)))

pub returns-clause-rows : goal.returns-clause-rows
returns-clause-rows g c = λ v told.
    c.in_ok-rows.ensures.rows v (c.objects_of.ensures.quiet.view ∙ (c.refs_of.ensures.quiet.view ∙ (c.check_config.ensures.quiet.view ∙ (c.check_places.ensures.quiet.view ∙ told))))

pub returns-clause-left_overs : goal.returns-clause-left_overs
returns-clause-left_overs g c = λ v told.
    let stored = c.objects_of.ensures.quiet.view ∙ (c.refs_of.ensures.quiet.view ∙ (c.check_config.ensures.quiet.view ∙ (c.check_places.ensures.quiet.view ∙ told))) in
    let now = c.check_deployments.ensures.quiet.view ∙ (c.read_boot_list.ensures.quiet.view ∙ stored) in
    c.in_ok-left_overs.ensures.left_overs v now (subst (AreRowsOf v.now) (sym c.as_slice-3.ensures.value) (c.in_ok-rows.ensures.rows v stored))

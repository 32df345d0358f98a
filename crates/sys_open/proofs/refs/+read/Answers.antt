use Rattle.std.proofs.Common.{◌∙◌, arith, Err}
use Rattle.std.proofs.lemmas.Result.{err_from_is_err_and}
use Rattle.std.specs.Global.{Vec}
use Rattle.ost_types.specs.Path.{Path}
use Rattle.fs_trait.proofs.Quiet.{IsQuiet-trans}
use Rattle.ref_room.specs.declared.stands.Stands.{Stands}
use Rattle.sys_open.specs.declared.fault.Why.TheVariants.{BadRef}
use Rattle.layout_rules.specs.Checks.{HoldsRefs, IsReached}
use Rattle.sys_open.specs.Gathered.{AreOf}
use Rattle.sys_open.proofs.FaultLemmas.{look_same}
use Rattle.sys_open.proofs.ReachedPlaces.{walked_here, walked_later, walked_all}
use Rattle.sys_open.proofs.Holding.{holds_vacant, holds_folder, folder_below, more_below, more_so, grows_trans, on_ok_then, on_ok_grows, still_walked}
use Rattle.sys_open.proofs.refs.+read.Goals as goal

pub read_refs-returns-in-Ok-Folder-clause-right : goal.read_refs-returns-in-Ok-Folder-clause-right
read_refs-returns-in-Ok-Folder-clause-right g t c = λ v told.
    on_ok_then (Unit {0}) (AreOf v.now c.args.found.now.refs) (AreOf v.now c.visit.new.found.refs) (AreOf v.now c.read_folder.new.found.refs) c.read_folder.result (c.in-Ok-Folder.ensures.right v told) (c.read_folder.ensures.right v (c.visit.ensures.quiet.view ∙ told))

pub read_refs-returns-in-Ok-Folder-clause-grows : goal.read_refs-returns-in-Ok-Folder-clause-grows
read_refs-returns-in-Ok-Folder-clause-grows g t c =
    on_ok_grows (Unit {0}) c.args.found.now.refs c.visit.new.found.refs c.read_folder.new.found.refs c.read_folder.result c.in-Ok-Folder.ensures.grows c.read_folder.ensures.grows

pub read_refs-returns-in-Err-clause-told : goal.read_refs-returns-in-Err-clause-told
read_refs-returns-in-Err-clause-told g t c = λ v told.
    still_walked Stands (Unit {0}) (HoldsRefs v.now) BadRef c.args.at.now c.in-Err.fault (c.in-Err.ensures.told v told)

pub read_folder-returns-in_err-inside-clause-told : goal.read_folder-returns-in_err-inside-clause-told
read_folder-returns-in_err-inside-clause-told g t c = λ v told.
    let error = err_from_is_err_and c.from_residual.result c.from_residual.ensures.1 in
    let reached = λ (h : HoldsRefs v.now c.args.at.now). h.reached in
    let tree = g.met.F.Fs.tree c.args.fs.now v told in
    rw (error.1, error.2) (walked_here (Vec Path) (Unit {0}) (HoldsRefs v.now) BadRef c.args.at.now _ (look_same {T = Vec Path} (IsReached v.now c.args.at.now) (HoldsRefs v.now c.args.at.now) BadRef c.args.at.now (Err _) (holds_folder v.now tree c.args.at.now (c.requires v told)) reached (c.in_err-inside.ensures.told v told (c.requires v told))))

pub read_folder-returns-in_err-read_refs-clause-told : goal.read_folder-returns-in_err-read_refs-clause-told
read_folder-returns-in_err-read_refs-clause-told g t c = λ v told.
    let error = err_from_is_err_and c.from_residual-in_err-read_refs.result c.from_residual-in_err-read_refs.ensures.1 in
    let listed = c.in_ok-inside.ensures.listed in
    let tree = g.met.F.Fs.tree c.args.fs.now v told in
    let here = holds_folder v.now tree c.args.at.now (c.requires v told) (c.in_ok-inside.ensures.told v told (c.requires v told)) in
    rw (error.1, error.2) (walked_later v.now tree (HoldsRefs v.now) (holds_vacant v.now tree) BadRef c.args.at.now c.as_slice-path-items.result.now listed.0 (c.as_slice-path-items.ensures.value ∙ listed.1) (listed.2 v told) here c.loop-path.path-index (c.loop-path.invariant.2 v told) (Unit {0}) c.loop-path-test.true _ c.path-item.result c.path-item.is (c.in_err-read_refs.ensures.told v (c.loop-path.invariant.0.view ∙ told)))

pub read_folder-returns-clause-told : goal.read_folder-returns-clause-told
read_folder-returns-clause-told g t c = λ v told.
    let listed = c.in_ok-inside.ensures.listed in
    let tree = g.met.F.Fs.tree c.args.fs.now v told in
    let here = holds_folder v.now tree c.args.at.now (c.requires v told) (c.in_ok-inside.ensures.told v told (c.requires v told)) in
    walked_all v.now tree (HoldsRefs v.now) (holds_vacant v.now tree) BadRef c.args.at.now c.as_slice-path-items.result.now listed.0 (c.as_slice-path-items.ensures.value ∙ listed.1) (listed.2 v told) here c.loop-path.path-index (c.loop-path.invariant.2 v told) c.loop-path-test.false

pub read_folder-returns-clause-whole : goal.read_folder-returns-clause-whole
read_folder-returns-clause-whole g t c = λ v told.
    let listed = c.in_ok-inside.ensures.listed in
    folder_below v.now (g.met.F.Fs.tree c.args.fs.now v told) c.args.at.now c.loop-path.found.refs c.as_slice-path-items.result.now listed.0 (c.as_slice-path-items.ensures.value ∙ listed.1) (listed.2 v told) (c.requires v told) c.loop-path.path-index c.loop-path-test.false (c.loop-path.invariant.5 v told)

pub read_folder-loop-path-preserved : goal.read_folder-loop-path-preserved
read_folder-loop-path-preserved g t c =
    let inv = c.loop-path.invariant in
    let first = inv.1 in
    let later = c.read_refs.ensures.reason.later in
    let quiet = IsQuiet-trans _ _ _ _ _ _ _ _ _ inv.0 c.read_refs.ensures.quiet in (
      quiet,
      omega (arith, first, later),
      λ v told. more_so (HoldsRefs v.now) c.as_slice-path-items.result.now c.loop-path.path-index c.path-item.result c.loop-path-test.true c.path-item.is (c.in_ok-read_refs.ensures.told v (inv.0.view ∙ told)) (inv.2 v told),
      grows_trans c.args.found.now.refs c.loop-path.found.refs c.read_refs.new.found.refs inv.3 c.in_ok-read_refs.ensures.grows,
      λ v told are. c.in_ok-read_refs.ensures.right v (inv.0.view ∙ told) (inv.4 v told are),
      λ v told. more_below v.now c.loop-path.found.refs c.read_refs.new.found.refs c.as_slice-path-items.result.now c.loop-path.path-index c.path-item.result c.loop-path-test.true c.path-item.is c.in_ok-read_refs.ensures.grows (c.in_ok-read_refs.ensures.whole v (inv.0.view ∙ told)) (inv.5 v told),
    )

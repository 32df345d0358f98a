use Rattle.std.proofs.Common.{sym, ◌∙◌, ap}
use Rattle.std.proofs.lemmas.Result.{err_from_is_err_and}
use Rattle.std.specs.Global.{Vec}
use Rattle.ost_types.specs.Path.{Path}
use Rattle.fs_trait.specs.Image.{is_folder}
use Rattle.sys_open.specs.declared.fault.Why.TheVariants.{WrongKind}
use Rattle.layout_rules.specs.Checks.{IsReached}
use Rattle.ref_room.proofs.Disks.{looked_nothing, looked_leaf}
use Rattle.sys_open.proofs.ReachedPlaces.{leaf_no_folder, reached_vacant, reached_leaf, walked_here, walked_later, walked_all}
use Rattle.sys_open.proofs.reaching.+reach.Goals as goal

pub reach-returns-in-Ok-Nothing-clause-told : goal.reach-returns-in-Ok-Nothing-clause-told
reach-returns-in-Ok-Nothing-clause-told g t c = λ v told.
    reached_leaf v.now (g.met.F.Fs.tree c.args.fs.now v told) c.args.at.now (ap is_folder (looked_nothing (v.now.at c.args.at.now) (sym c.in-Ok-Nothing.field-0-is ∙ c.in-Ok-Nothing.ensures.told v told)))

pub reach-returns-in-Ok-Leaf-clause-told : goal.reach-returns-in-Ok-Leaf-clause-told
reach-returns-in-Ok-Leaf-clause-told g t c = λ v told.
    reached_leaf v.now (g.met.F.Fs.tree c.args.fs.now v told) c.args.at.now (leaf_no_folder (v.now.at c.args.at.now) (looked_leaf (v.now.at c.args.at.now) (sym c.in-Ok-Leaf.field-0-is ∙ c.in-Ok-Leaf.ensures.told v told)))

pub reach_folder-returns-in_err-inside-clause-told : goal.reach_folder-returns-in_err-inside-clause-told
reach_folder-returns-in_err-inside-clause-told g t c = λ v told.
    let error = err_from_is_err_and c.from_residual.result c.from_residual.ensures.1 in
    rw (error.1, error.2) (walked_here (Vec Path) (Unit {0}) (IsReached v.now) WrongKind c.args.at.now _ (c.in_err-inside.ensures.told v told (c.requires v told)))

pub reach_folder-returns-in_err-reach-clause-told : goal.reach_folder-returns-in_err-reach-clause-told
reach_folder-returns-in_err-reach-clause-told g t c = λ v told.
    let error = err_from_is_err_and c.from_residual-in_err-reach.result c.from_residual-in_err-reach.ensures.1 in
    let listed = c.in_ok-inside.ensures.listed in
    let tree = g.met.F.Fs.tree c.args.fs.now v told in
    rw (error.1, error.2) (walked_later v.now tree (IsReached v.now) (reached_vacant v.now tree) WrongKind c.args.at.now c.as_slice-path-items.result.now listed.0 (c.as_slice-path-items.ensures.value ∙ listed.1) (listed.2 v told) (c.in_ok-inside.ensures.told v told (c.requires v told)) c.loop-path.path-index (c.loop-path.invariant.2 v told) (Unit {0}) c.loop-path-test.true _ c.path-item.result c.path-item.is (c.in_err-reach.ensures.told v (c.loop-path.invariant.0.view ∙ told)))

pub reach_folder-returns-clause-told : goal.reach_folder-returns-clause-told
reach_folder-returns-clause-told g t c = λ v told.
    let listed = c.in_ok-inside.ensures.listed in
    let tree = g.met.F.Fs.tree c.args.fs.now v told in
    walked_all v.now tree (IsReached v.now) (reached_vacant v.now tree) WrongKind c.args.at.now c.as_slice-path-items.result.now listed.0 (c.as_slice-path-items.ensures.value ∙ listed.1) (listed.2 v told) (c.in_ok-inside.ensures.told v told (c.requires v told)) c.loop-path.path-index (c.loop-path.invariant.2 v told) c.loop-path-test.false

use Rattle.fs_trait.specs.declared.types.Value.TheVariants.{Absent}
use Rattle.fs_trait.specs.View.{named}
use Rattle.sys_open.specs.Changes.{Clears}
use Rattle.sys_open.proofs.Clearings.{cleared_name, no_rmdir-free, removed_left}
use Rattle.sys_open.proofs.FaultLemmas.{call_interrupted}
use Rattle.sys_open.proofs.Working.{works_call}
use Rattle.sys_open.proofs.clear.remove.Goals as goal

pub returns-in-Ok-clause-works : goal.returns-in-Ok-clause-works
returns-in-Ok-clause-works g c = λ v told.
    works_call (Clears c.args.at.now) v _ _ _ _ _ (g.met.F.Fs.only_now c.rmdir.new.self) c.rmdir.ensures.time (removed_left c.args.at.now v c.rmdir.result _ (c.rmdir.ensures.effect v told))

pub returns-in-Ok-clause-cleared : goal.returns-in-Ok-clause-cleared
returns-in-Ok-clause-cleared g c = λ v told. cleared_name v c.args.at.now _ (c.in-Ok.ensures.effect v told).2.1

pub returns-in-Err-clause-works : goal.returns-in-Err-clause-works
returns-in-Err-clause-works g c = λ v told.
    works_call (Clears c.args.at.now) v _ _ _ _ _ (g.met.F.Fs.only_now c.rmdir.new.self) c.rmdir.ensures.time (removed_left c.args.at.now v c.rmdir.result _ (c.rmdir.ensures.effect v told))

pub returns-in-Err-clause-fails : goal.returns-in-Err-clause-fails
returns-in-Err-clause-fails g c = λ v told. (let r = c.in-Err.ensures.effect v told in call_interrupted _ v (named c.args.at.now Absent v) c.args.at.now c.in-Err.error _ c.refused.result (no_rmdir-free v.now (g.met.F.Fs.tree c.args.fs.now v told) c.args.at.now (c.requires v told) r.0 r.1) r.2 c.refused.ensures)

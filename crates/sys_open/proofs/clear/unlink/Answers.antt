use Rattle.fs_trait.specs.declared.types.Value.TheVariants.{Absent}
use Rattle.fs_trait.specs.View.{named}
use Rattle.fs_trait.specs.Effect.{no_leaf}
use Rattle.sys_open.specs.Changes.{Clears}
use Rattle.sys_open.proofs.Clearings.{clears_name, cleared_name, no_leaf-free}
use Rattle.sys_open.proofs.FaultLemmas.{call_interrupted}
use Rattle.sys_open.proofs.Working.{changed_left, works_call}
use Rattle.sys_open.proofs.clear.unlink.Goals as goal

pub returns-in-Ok-clause-works : goal.returns-in-Ok-clause-works
returns-in-Ok-clause-works g c = λ v told.
    works_call (Clears c.args.at.now) v _ _ _ _ _ (g.met.F.Fs.only_now c.unlink.new.self) c.unlink.ensures.time (changed_left (Clears c.args.at.now) (no_leaf c.args.at.now v.now) v (named c.args.at.now Absent v) c.unlink.result _ (clears_name v c.args.at.now) (c.unlink.ensures.effect v told))

pub returns-in-Ok-clause-cleared : goal.returns-in-Ok-clause-cleared
returns-in-Ok-clause-cleared g c = λ v told. cleared_name v c.args.at.now _ (c.in-Ok.ensures.effect v told).1

pub returns-in-Err-clause-works : goal.returns-in-Err-clause-works
returns-in-Err-clause-works g c = λ v told.
    works_call (Clears c.args.at.now) v _ _ _ _ _ (g.met.F.Fs.only_now c.unlink.new.self) c.unlink.ensures.time (changed_left (Clears c.args.at.now) (no_leaf c.args.at.now v.now) v (named c.args.at.now Absent v) c.unlink.result _ (clears_name v c.args.at.now) (c.unlink.ensures.effect v told))

pub returns-in-Err-clause-fails : goal.returns-in-Err-clause-fails
returns-in-Err-clause-fails g c = λ v told. (call_interrupted _ v (named c.args.at.now Absent v) c.args.at.now c.in-Err.error _ c.refused.result (no_leaf-free v.now (g.met.F.Fs.tree c.args.fs.now v told) c.args.at.now (c.requires v told)) (c.in-Err.ensures.effect v told) c.refused.ensures)

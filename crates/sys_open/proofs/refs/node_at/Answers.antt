use Rattle.std.proofs.Common.{refl}
use Rattle.fs_trait.specs.Effect.{IsNode}
use Rattle.sys_open.proofs.FaultLemmas.{read_interrupted}
use Rattle.sys_open.proofs.refs.node_at.Goals as goal

pub returns-in-Err-clause-told : goal.returns-in-Err-clause-told
returns-in-Err-clause-told g c = λ v told.
    read_interrupted _ (IsNode v.now (v.now.at c.args.at.now)) c.args.at.now c.in-Err.error c.refused.result refl (c.in-Err.ensures.answer v told) c.refused.ensures

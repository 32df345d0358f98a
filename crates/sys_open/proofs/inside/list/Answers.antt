use Rattle.fs_trait.specs.Effect.{IsListing}
use Rattle.fs_trait.proofs.Refusals.{no_folder-there}
use Rattle.sys_open.proofs.FaultLemmas.{read_interrupted}
use Rattle.sys_open.proofs.inside.list.Goals as goal

pub returns-in-Err-clause-told : goal.returns-in-Err-clause-told
returns-in-Err-clause-told g c = λ v told.
    read_interrupted _ (IsListing v.now c.args.at.now) c.args.at.now c.in-Err.error c.refused.result (no_folder-there v.now (g.met.F.Fs.tree c.args.fs.now v told) c.args.at.now (c.requires v told)) (c.in-Err.ensures.answer v told) c.refused.ensures

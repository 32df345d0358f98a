use Rattle.std.proofs.Common.{sym, subst}
use Rattle.std.specs.Global.{Vec}
use Rattle.ost_types.specs.Path.{Path}
use Rattle.fs_trait.specs.Effect.{IsListing}
use Rattle.fs_trait.proofs.Refusals.{no_folder-there}
use Rattle.layout_rules.specs.Checks.{IsReached}
use Rattle.sys_open.proofs.FaultLemmas.{read_interrupted, interrupted_look, listed_look, no_reason}
use Rattle.sys_open.proofs.children.children.Goals as goal

pub returns-in-Ok-clause-told : goal.returns-in-Ok-clause-told
returns-in-Ok-clause-told g c = λ v told folder.
    let listing = (c.in-Ok.ensures.answer v told).1 in
    listed_look v.now c.args.at.now c.as_slice.result.now c.args.why c.paths_of.result (subst (IsListing v.now c.args.at.now) (sym c.as_slice.ensures) listing) c.paths_of.ensures.told

pub returns-in-Ok-clause-reason : goal.returns-in-Ok-clause-reason
returns-in-Ok-clause-reason g c = no_reason _ _ _ c.paths_of.result c.in-Ok.ensures.cause.later c.paths_of.ensures.no_call

pub returns-in-Err-clause-told : goal.returns-in-Err-clause-told
returns-in-Err-clause-told g c = λ v told folder.
    interrupted_look (Vec Path) (IsReached v.now c.args.at.now) c.args.why c.args.at.now c.refused.result
    (read_interrupted _ (IsListing v.now c.args.at.now) c.args.at.now c.in-Err.error c.refused.result (no_folder-there v.now (g.met.F.Fs.tree c.args.fs.now v told) c.args.at.now folder) (c.in-Err.ensures.answer v told) c.refused.ensures)

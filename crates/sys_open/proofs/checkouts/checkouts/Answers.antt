use Rattle.std.proofs.Common.{◌≡◌, sym, subst, true}
use Rattle.ost_types.specs.Path.{Path}
use Rattle.fs_trait.specs.Image.{is_folder}
use Rattle.fs_trait.specs.Effect.{IsListing}
use Rattle.fs_trait.proofs.Refusals.{no_folder-there}
use Rattle.sys_open.proofs.FaultLemmas.{read_interrupted}
use Rattle.sys_open.proofs.checkouts.checkouts.Goals as goal

pub returns-in-Ok-clause-told : goal.returns-in-Ok-clause-told
returns-in-Ok-clause-told g c = λ v told. subst (λ (p : Path). IsListing v.now p c.in-Ok.names) c.in_ok-at.ensures (c.in-Ok.ensures.answer v told).1

pub returns-clause-fails : goal.returns-clause-fails
returns-clause-fails g c = λ v told.
    read_interrupted _ (IsListing v.now c.in_ok-at.at) c.in_ok-at.at c.in-Err.error c.refused.result
    (no_folder-there v.now (g.met.F.Fs.tree c.args.fs.now v told) c.in_ok-at.at (subst (λ (p : Path). is_folder (v.now.at p) ≡ true) (sym c.in_ok-at.ensures) (c.requires v told)))
    (c.in-Err.ensures.answer v told) c.refused.ensures

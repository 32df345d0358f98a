use Rattle.std.proofs.Common.{sym, ◌∙◌, ap, subst}
use Rattle.std.proofs.lemmas.Result.{err_from_is_err_and}
use Rattle.fs_trait.specs.Effect.{OfNone}
use Rattle.fs_trait.proofs.Answering.{ok_writes, ok_after, err_writes, err_fails}
use Rattle.file_copy.specs.Copying.{Copying}
use Rattle.file_copy.specs.CopySteps.{Needs}
use Rattle.file_copy.proofs.CopyLemmas.{as_is, sync_file}
use Rattle.file_copy.proofs.copying.FileCopy.sync_file.Goals as goal

pub returns-in_err-sync_file-clause-writes : goal.returns-in_err-sync_file-clause-writes
returns-in_err-sync_file-clause-writes g c = λ v told.
    let needs = subst (λ t. Needs t v) (sym c.self.view_is) (c.requires.needs v told) in
    let phase = ap (λ (t : Copying). t.phase) c.self.view_is ∙ c.requires.phase in
    let tree = g.met.F.Fs.tree c.args.fs.now v told in
    err_writes _ _ v _ _ (as_is _ _ c.self.view_is v _ _ _ (sync_file _ v needs tree phase)) _ _ (c.in_err-sync_file.ensures.effect v told)

pub returns-in_err-sync_file-clause-fails : goal.returns-in_err-sync_file-clause-fails
returns-in_err-sync_file-clause-fails g c = λ v told.
    let needs = subst (λ t. Needs t v) (sym c.self.view_is) (c.requires.needs v told) in
    let phase = ap (λ (t : Copying). t.phase) c.self.view_is ∙ c.requires.phase in
    let tree = g.met.F.Fs.tree c.args.fs.now v told in
    let error = err_from_is_err_and c.from_residual.result c.from_residual.ensures.1 in
    rw (error.1, error.2) (err_fails _ _ v _ _ (as_is _ _ c.self.view_is v _ _ _ (sync_file _ v needs tree phase)) OfNone tt tt _ _ (c.in_err-sync_file.ensures.effect v told))

pub returns-clause-writes : goal.returns-clause-writes
returns-clause-writes g c = λ v told.
    let needs = subst (λ t. Needs t v) (sym c.self.view_is) (c.requires.needs v told) in
    let phase = ap (λ (t : Copying). t.phase) c.self.view_is ∙ c.requires.phase in
    let tree = g.met.F.Fs.tree c.args.fs.now v told in
    ok_writes _ _ v _ _ (as_is _ _ c.self.view_is v _ _ _ (sync_file _ v needs tree phase)) _ (c.in_ok-sync_file.ensures.effect v told)

pub returns-clause-after : goal.returns-clause-after
returns-clause-after g c = λ v told.
    let needs = subst (λ t. Needs t v) (sym c.self.view_is) (c.requires.needs v told) in
    let phase = ap (λ (t : Copying). t.phase) c.self.view_is ∙ c.requires.phase in
    let tree = g.met.F.Fs.tree c.args.fs.now v told in
    ok_after _ _ v _ _ (as_is _ _ c.self.view_is v _ _ _ (sync_file _ v needs tree phase)) _ (c.in_ok-sync_file.ensures.effect v told)

use Rattle.std.proofs.Common.{sym, ◌∙◌, ap, subst}
use Rattle.std.proofs.lemmas.Result.{err_from_is_err_and}
use Rattle.fs_trait.specs.Effect.{OfNone}
use Rattle.fs_trait.proofs.Answering.{ok_writes, ok_after, err_writes, err_fails}
use Rattle.file_copy.specs.Copying.{Copying}
use Rattle.file_copy.specs.CopySteps.{Needs}
use Rattle.file_copy.proofs.CopyLemmas.{as_is, comes_to, create, filled_as}
use Rattle.file_copy.proofs.copying.FileCopy.create.Goals as goal

pub returns-in_err-size-clause-fails : goal.returns-in_err-size-clause-fails
returns-in_err-size-clause-fails g c = λ v told.
    let needs = subst (λ t. Needs t v) (sym c.self.view_is) (c.requires.needs v told) in
    let error = err_from_is_err_and c.from_residual.result c.from_residual.ensures.1 in
    rw (error.1, error.2) (c.in_err-size.ensures.told v told needs.bytes needs.source)

pub returns-in_err-create-clause-writes : goal.returns-in_err-create-clause-writes
returns-in_err-create-clause-writes g c = λ v told.
    let needs = subst (λ t. Needs t v) (sym c.self.view_is) (c.requires.needs v told) in
    let phase = ap (λ (t : Copying). t.phase) c.self.view_is ∙ c.requires.phase in
    let tree = g.met.F.Fs.tree c.args.fs.now v told in
    let still = c.in_ok-size.ensures.quiet.view ∙ told in
    let size = c.in_ok-size.ensures.told v told needs.bytes needs.source in
    let e = c.in_err-create.ensures.effect v still in
    err_writes _ _ v _ _ (as_is _ _ c.self.view_is v _ _ _ (create _ v needs tree _ size e.0 e.1 phase)) _ _ e.2

pub returns-in_err-create-clause-fails : goal.returns-in_err-create-clause-fails
returns-in_err-create-clause-fails g c = λ v told.
    let needs = subst (λ t. Needs t v) (sym c.self.view_is) (c.requires.needs v told) in
    let phase = ap (λ (t : Copying). t.phase) c.self.view_is ∙ c.requires.phase in
    let tree = g.met.F.Fs.tree c.args.fs.now v told in
    let still = c.in_ok-size.ensures.quiet.view ∙ told in
    let size = c.in_ok-size.ensures.told v told needs.bytes needs.source in
    let e = c.in_err-create.ensures.effect v still in
    let error = err_from_is_err_and c.from_residual-in_err-create.result c.from_residual-in_err-create.ensures.1 in
    rw (error.1, error.2) (err_fails _ _ v _ _ (as_is _ _ c.self.view_is v _ _ _ (create _ v needs tree _ size e.0 e.1 phase)) OfNone tt tt _ _ e.2)

pub returns-clause-writes : goal.returns-clause-writes
returns-clause-writes g c = λ v told.
    let needs = subst (λ t. Needs t v) (sym c.self.view_is) (c.requires.needs v told) in
    let phase = ap (λ (t : Copying). t.phase) c.self.view_is ∙ c.requires.phase in
    let tree = g.met.F.Fs.tree c.args.fs.now v told in
    let still = c.in_ok-size.ensures.quiet.view ∙ told in
    let size = c.in_ok-size.ensures.told v told needs.bytes needs.source in
    let e = c.in_ok-create.ensures.effect v still in
    ok_writes _ _ v _ _ (as_is _ _ c.self.view_is v _ _ _ (create _ v needs tree _ size e.0 e.1 phase)) _ e.2

pub returns-clause-after : goal.returns-clause-after
returns-clause-after g c = λ v told.
    let needs = subst (λ t. Needs t v) (sym c.self.view_is) (c.requires.needs v told) in
    let phase = ap (λ (t : Copying). t.phase) c.self.view_is ∙ c.requires.phase in
    let tree = g.met.F.Fs.tree c.args.fs.now v told in
    let still = c.in_ok-size.ensures.quiet.view ∙ told in
    let size = c.in_ok-size.ensures.told v told needs.bytes needs.source in
    let e = c.in_ok-create.ensures.effect v still in
    ok_after _ _ v _ _ (as_is _ _ c.self.view_is v _ _ _ (comes_to _ _ _ (filled_as _ _ _ _ _ c.self.view_is c.filled.ensures) v _ _ (create _ v needs tree _ size e.0 e.1 phase))) _ e.2

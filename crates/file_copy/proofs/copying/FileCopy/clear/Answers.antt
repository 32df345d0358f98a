use Rattle.std.proofs.Common.{sym, ◌∙◌, ap, subst}
use Rattle.std.proofs.lemmas.Result.{err_from_is_err_and}
use Rattle.fs_trait.specs.Effect.{OfNone}
use Rattle.fs_trait.proofs.Answering.{ok_writes, ok_after, err_writes, err_fails}
use Rattle.file_copy.specs.Copying.{Copying}
use Rattle.file_copy.specs.CopySteps.{Needs, WritesOf}
use Rattle.file_copy.proofs.CopyLemmas.{as_is, clear, clear_vacant, unchanged_as}
use Rattle.fs_trait.proofs.Kept.{same_view}
use Rattle.staging.proofs.StepLemmas.{looked_none, looked_some}
use Rattle.file_copy.proofs.copying.FileCopy.clear.Goals as goal
use Rattle.file_copy.proofs.copying.FileCopy.clear.Goals.{then-is_some+in_ok-unlink, else-is_some}

pub returns-in_err-unlink-clause-writes : goal.returns-in_err-unlink-clause-writes
returns-in_err-unlink-clause-writes g c = λ v told.
    let needs = subst (λ t. Needs t v) (sym c.self.view_is) (c.requires.needs v told) in
    let phase = ap (λ (t : Copying). t.phase) c.self.view_is ∙ c.requires.phase in
    let tree = g.met.F.Fs.tree c.args.fs.now v told in
    let there = looked_some v.now _ _ (c.in_ok-stat.ensures.answer v told).1 (sym c.if-is_some.ensures) in
    err_writes _ _ v _ _ (as_is _ _ c.self.view_is v _ _ _ (clear _ v needs tree phase there)) _ _ (c.in_err-unlink.ensures.effect v (c.in_ok-stat.ensures.quiet.view ∙ told))

pub returns-in_err-unlink-clause-fails : goal.returns-in_err-unlink-clause-fails
returns-in_err-unlink-clause-fails g c = λ v told.
    let needs = subst (λ t. Needs t v) (sym c.self.view_is) (c.requires.needs v told) in
    let phase = ap (λ (t : Copying). t.phase) c.self.view_is ∙ c.requires.phase in
    let tree = g.met.F.Fs.tree c.args.fs.now v told in
    let there = looked_some v.now _ _ (c.in_ok-stat.ensures.answer v told).1 (sym c.if-is_some.ensures) in
    let error = err_from_is_err_and c.from_residual-in_err-unlink.result c.from_residual-in_err-unlink.ensures.1 in
    rw (error.1, error.2) (err_fails _ _ v _ _ (as_is _ _ c.self.view_is v _ _ _ (clear _ v needs tree phase there)) OfNone tt tt _ _ (c.in_err-unlink.ensures.effect v (c.in_ok-stat.ensures.quiet.view ∙ told)))

pub returns-in_err-unlink-clause-unchanged : goal.returns-in_err-unlink-clause-unchanged
returns-in_err-unlink-clause-unchanged g c = λ v told memory.
    let error = err_from_is_err_and c.from_residual-in_err-unlink.result c.from_residual-in_err-unlink.ensures.1 in
    unchanged_as error.0 _ error.1 _ error.2 memory _ _ _ _ (c.in_err-unlink.ensures.effect v (c.in_ok-stat.ensures.quiet.view ∙ told))

pub returns-clause-writes : goal.returns-clause-writes
returns-clause-writes g c = λ v told.
    let needs = subst (λ t. Needs t v) (sym c.self.view_is) (c.requires.needs v told) in
    let phase = ap (λ (t : Copying). t.phase) c.self.view_is ∙ c.requires.phase in
    let tree = g.met.F.Fs.tree c.args.fs.now v told in
    let node = (c.in_ok-stat.ensures.answer v told).1 in
    let still = c.in_ok-stat.ensures.quiet.view ∙ told in
    elim c.if-is_some.branch [
      | then-is_some+in_ok-unlink w ↦ rw w.fs-is (ok_writes _ _ v _ _ (as_is _ _ c.self.view_is v _ _ _ (clear _ v needs tree phase (looked_some v.now _ _ node (sym w.if-is_some.ensures)))) _ (w.in_ok-unlink.ensures.effect v still))
      | else-is_some w ↦ rw w.fs-is (v, still, same_view (WritesOf c.args.self.now v) v)
    ]

pub returns-clause-after : goal.returns-clause-after
returns-clause-after g c = λ v told.
    let needs = subst (λ t. Needs t v) (sym c.self.view_is) (c.requires.needs v told) in
    let phase = ap (λ (t : Copying). t.phase) c.self.view_is ∙ c.requires.phase in
    let tree = g.met.F.Fs.tree c.args.fs.now v told in
    let node = (c.in_ok-stat.ensures.answer v told).1 in
    let still = c.in_ok-stat.ensures.quiet.view ∙ told in
    elim c.if-is_some.branch [
      | then-is_some+in_ok-unlink w ↦ rw w.fs-is (ok_after _ _ v _ _ (as_is _ _ c.self.view_is v _ _ _ (clear _ v needs tree phase (looked_some v.now _ _ node (sym w.if-is_some.ensures)))) _ (w.in_ok-unlink.ensures.effect v still))
      | else-is_some w ↦ rw w.fs-is (v, still, clear_vacant _ v needs tree phase (looked_none v.now _ _ node (sym w.if-is_some.ensures)))
    ]

use Rattle.std.proofs.Common.{sym, ◌∙◌, ap, subst}
use Rattle.std.proofs.lemmas.Result.{err_from_is_err_and}
use Rattle.file_copy.specs.Putting.{Putting}
use Rattle.file_copy.specs.PutSteps.{Needs}
use Rattle.file_copy.proofs.PutLemmas.{replace_apart, replace_err_fails, replace_err_writes, replace_ok_after, replace_ok_writes}
use Rattle.file_copy.proofs.putting.PutCopy.replace.Goals as goal

pub rename-requires : goal.rename-requires
rename-requires g c = λ v told.
    let needs = subst (λ t. Needs t v) (sym c.self.view_is) (c.requires.needs v told) in
    let is = ap (λ (t : Putting). t.phase) c.self.view_is ∙ c.requires.phase in
    replace_apart _ v (g.met.F.Fs.tree c.args.fs.now v told) needs is _ c.self.view_is _ c.stage.ensures

pub returns-in_err-rename-clause-writes : goal.returns-in_err-rename-clause-writes
returns-in_err-rename-clause-writes g c = λ v told.
    let needs = subst (λ t. Needs t v) (sym c.self.view_is) (c.requires.needs v told) in
    let is = ap (λ (t : Putting). t.phase) c.self.view_is ∙ c.requires.phase in
    replace_err_writes _ v (g.met.F.Fs.tree c.args.fs.now v told) needs is _ c.self.view_is _ c.stage.ensures _ _ (c.in_err-rename.ensures.effect v told)

pub returns-in_err-rename-clause-fails : goal.returns-in_err-rename-clause-fails
returns-in_err-rename-clause-fails g c = λ v told.
    let needs = subst (λ t. Needs t v) (sym c.self.view_is) (c.requires.needs v told) in
    let is = ap (λ (t : Putting). t.phase) c.self.view_is ∙ c.requires.phase in
    let error = err_from_is_err_and c.from_residual.result c.from_residual.ensures.1 in
    rw (error.1, error.2) (replace_err_fails _ v (g.met.F.Fs.tree c.args.fs.now v told) needs is _ c.self.view_is _ c.stage.ensures _ _ (c.in_err-rename.ensures.effect v told))

pub returns-clause-writes : goal.returns-clause-writes
returns-clause-writes g c = λ v told.
    let needs = subst (λ t. Needs t v) (sym c.self.view_is) (c.requires.needs v told) in
    let is = ap (λ (t : Putting). t.phase) c.self.view_is ∙ c.requires.phase in
    replace_ok_writes _ v (g.met.F.Fs.tree c.args.fs.now v told) needs is _ c.self.view_is _ c.stage.ensures _ (c.in_ok-rename.ensures.effect v told)

pub returns-clause-after : goal.returns-clause-after
returns-clause-after g c = λ v told.
    let needs = subst (λ t. Needs t v) (sym c.self.view_is) (c.requires.needs v told) in
    let is = ap (λ (t : Putting). t.phase) c.self.view_is ∙ c.requires.phase in
    replace_ok_after _ v (g.met.F.Fs.tree c.args.fs.now v told) needs is _ c.self.view_is _ c.stage.ensures _ (c.in_ok-rename.ensures.effect v told)

use Rattle.std.proofs.Common.{sym, ◌∙◌, ap, subst}
use Rattle.std.proofs.lemmas.Result.{err_from_is_err_and}
use Rattle.folder_build.specs.Link.{Linking}
use Rattle.folder_build.specs.LinkSteps.{Needs}
use Rattle.folder_build.proofs.Linking.{replace_err_fails, replace_err_writes, replace_ok_after, replace_ok_writes, two_inodes}
use Rattle.folder_build.proofs.link.LinkTask.replace.Goals as goal

pub rename-requires : goal.rename-requires
rename-requires g c = λ v now.
    let told = sym c.in_ok-reserve.ensures.quiet.view ∙ now in
    let needs = subst (λ t. Needs t v) (sym c.self.view_is) (c.requires.needs v told) in
    let is = ap (λ (t : Linking). t.phase) c.self.view_is ∙ c.requires.phase in
    two_inodes _ v (g.met.F.Fs.tree c.args.fs.now v told) needs is

pub returns-in_err-rename-clause-writes : goal.returns-in_err-rename-clause-writes
returns-in_err-rename-clause-writes g c = λ v told.
    let needs = subst (λ t. Needs t v) (sym c.self.view_is) (c.requires.needs v told) in
    let is = ap (λ (t : Linking). t.phase) c.self.view_is ∙ c.requires.phase in
    replace_err_writes _ _ c.self.view_is v (g.met.F.Fs.tree c.args.fs.now v told) needs is _ _ (c.in_err-rename.ensures.effect v (c.in_ok-reserve.ensures.quiet.view ∙ told))

pub returns-in_err-rename-clause-fails : goal.returns-in_err-rename-clause-fails
returns-in_err-rename-clause-fails g c = λ v told.
    let needs = subst (λ t. Needs t v) (sym c.self.view_is) (c.requires.needs v told) in
    let is = ap (λ (t : Linking). t.phase) c.self.view_is ∙ c.requires.phase in
    let error = err_from_is_err_and c.from_residual-in_err-rename.result c.from_residual-in_err-rename.ensures.1 in
    rw (error.1, error.2) (replace_err_fails _ _ c.self.view_is v (g.met.F.Fs.tree c.args.fs.now v told) needs is _ _ (c.in_err-rename.ensures.effect v (c.in_ok-reserve.ensures.quiet.view ∙ told)))

pub returns-clause-writes : goal.returns-clause-writes
returns-clause-writes g c = λ v told.
    let needs = subst (λ t. Needs t v) (sym c.self.view_is) (c.requires.needs v told) in
    let is = ap (λ (t : Linking). t.phase) c.self.view_is ∙ c.requires.phase in
    replace_ok_writes _ _ c.self.view_is v (g.met.F.Fs.tree c.args.fs.now v told) needs is _ (c.in_ok-rename.ensures.effect v (c.in_ok-reserve.ensures.quiet.view ∙ told))

pub returns-clause-after : goal.returns-clause-after
returns-clause-after g c = λ v told.
    let needs = subst (λ t. Needs t v) (sym c.self.view_is) (c.requires.needs v told) in
    let is = ap (λ (t : Linking). t.phase) c.self.view_is ∙ c.requires.phase in
    replace_ok_after _ _ c.self.view_is v (g.met.F.Fs.tree c.args.fs.now v told) needs is _ (c.in_ok-rename.ensures.effect v (c.in_ok-reserve.ensures.quiet.view ∙ told))

use Rattle.std.proofs.Common.{sym, ◌∙◌, ap, subst}
use Rattle.staged_file.specs.Staged.{Staged}
use Rattle.staged_file.specs.Steps.{Needs}
use Rattle.staged_file.proofs.StepLemmas.{look, looked_leaf}
use Rattle.staged_file.proofs.staged.StagedFile.look.Goals as goal

pub returns-clause-after : goal.returns-clause-after
returns-clause-after g c = λ v told.
    let needs = subst (λ t. Needs t v) (sym c.self.view_is) (c.requires.needs v told) in
    let phase = ap (λ (t : Staged). t.phase) c.self.view_is ∙ c.requires.phase in
    let leaf = looked_leaf v.now _ _ (c.in_ok-stat.ensures.answer v told).1 (sym c.if-is_folder.ensures) in
    (v, c.in_ok-stat.ensures.quiet.view ∙ told, look _ v (g.met.F.Fs.tree c.args.fs.now v told) needs phase leaf)

use Rattle.std.proofs.Common.{sym, ◌∙◌, ap, subst}
use Rattle.std.proofs.lemmas.Result.{err_from_is_err_and}
use Rattle.fs_trait.proofs.Answering.{ok_writes, ok_after, err_writes, err_fails}
use Rattle.folder_build.specs.Build.{Building, IsNumber}
use Rattle.folder_build.specs.Steps.{Needs, Refuses}
use Rattle.folder_build.proofs.Making.{failed, file_at, no_memory, number_make}
use Rattle.folder_build.proofs.build.BuildTask.make_file.Goals as goal

pub returns-in_err-create-clause-writes : goal.returns-in_err-create-clause-writes
returns-in_err-create-clause-writes g c = λ v told.
    let e = c.in_err-create.ensures.effect v told in
    let needs = subst (λ t. Needs t v) (sym c.self.view_is) (c.requires.needs v told) in
    let is = ap (λ (t : Building). t.phase) c.self.view_is ∙ c.requires.phase in
    let number = number_make _ c.args.number needs.made is c.index.result.now c.index.ensures in
    let what = c.requires.what c.index.result.now (subst (λ (t : Building). IsNumber t.nodes c.args.number c.index.result.now) c.self.view_is number) in
    err_writes _ _ v _ _ (file_at c.args.number _ _ c.self.view_is v (g.met.F.Fs.tree c.args.fs.now v told) needs is c.index.result.now number what.0 what.1 _ c.file_meta.ensures.value e.0 e.1) _ _ e.2

pub returns-in_err-create-clause-fails : goal.returns-in_err-create-clause-fails
returns-in_err-create-clause-fails g c = λ v told.
    let e = c.in_err-create.ensures.effect v told in
    let needs = subst (λ t. Needs t v) (sym c.self.view_is) (c.requires.needs v told) in
    let is = ap (λ (t : Building). t.phase) c.self.view_is ∙ c.requires.phase in
    let number = number_make _ c.args.number needs.made is c.index.result.now c.index.ensures in
    let what = c.requires.what c.index.result.now (subst (λ (t : Building). IsNumber t.nodes c.args.number c.index.result.now) c.self.view_is number) in
    let error = err_from_is_err_and c.from_residual.result c.from_residual.ensures.1 in
    rw (error.1, error.2) (err_fails _ _ v _ _ (file_at c.args.number _ _ c.self.view_is v (g.met.F.Fs.tree c.args.fs.now v told) needs is c.index.result.now number what.0 what.1 _ c.file_meta.ensures.value e.0 e.1) (Refuses c.args.self.now v) (failed c.args.self.now.phase v) (no_memory c.args.self.now.phase v) _ _ e.2)

pub returns-clause-writes : goal.returns-clause-writes
returns-clause-writes g c = λ v told.
    let e = c.in_ok-create.ensures.effect v told in
    let needs = subst (λ t. Needs t v) (sym c.self.view_is) (c.requires.needs v told) in
    let is = ap (λ (t : Building). t.phase) c.self.view_is ∙ c.requires.phase in
    let number = number_make _ c.args.number needs.made is c.index.result.now c.index.ensures in
    let what = c.requires.what c.index.result.now (subst (λ (t : Building). IsNumber t.nodes c.args.number c.index.result.now) c.self.view_is number) in
    ok_writes _ _ v _ _ (file_at c.args.number _ _ c.self.view_is v (g.met.F.Fs.tree c.args.fs.now v told) needs is c.index.result.now number what.0 what.1 _ c.file_meta.ensures.value e.0 e.1) _ e.2

pub returns-clause-after : goal.returns-clause-after
returns-clause-after g c = λ v told.
    let e = c.in_ok-create.ensures.effect v told in
    let needs = subst (λ t. Needs t v) (sym c.self.view_is) (c.requires.needs v told) in
    let is = ap (λ (t : Building). t.phase) c.self.view_is ∙ c.requires.phase in
    let number = number_make _ c.args.number needs.made is c.index.result.now c.index.ensures in
    let what = c.requires.what c.index.result.now (subst (λ (t : Building). IsNumber t.nodes c.args.number c.index.result.now) c.self.view_is number) in
    ok_after _ _ v _ _ (file_at c.args.number _ _ c.self.view_is v (g.met.F.Fs.tree c.args.fs.now v told) needs is c.index.result.now number what.0 what.1 _ c.file_meta.ensures.value e.0 e.1) _ e.2

use Rattle.std.proofs.Common.{sym, ◌∙◌, ap, subst}
use Rattle.std.proofs.lemmas.Result.{err_from_is_err_and}
use Rattle.fs_trait.proofs.Answering.{ok_writes, ok_after, err_writes, err_fails}
use Rattle.folder_build.specs.Build.{Building}
use Rattle.folder_build.specs.Steps.{Needs, Refuses}
use Rattle.folder_build.proofs.Making.{failed, needs_as, no_memory, number_write, write_at}
use Rattle.folder_build.proofs.build.BuildTask.write.Goals as goal

pub returns-in_err-append-clause-writes : goal.returns-in_err-append-clause-writes
returns-in_err-append-clause-writes g c = λ v told.
    let needs = subst (λ t. Needs t v) (sym c.self.view_is) (c.requires.needs v told) in
    let is = ap (λ (t : Building). t.phase) c.self.view_is ∙ c.requires.phase in
    let number = number_write _ c.args.number needs.made is c.index-node.result.now c.index-node.ensures in
    err_writes _ _ v _ _ (write_at c.args.number _ _ c.self.view_is v (g.met.F.Fs.tree c.args.fs.now v told) needs is c.index-node.result.now number c.in-File.bytes c.in-File.is _ c.as_slice.ensures) _ _ (c.in_err-append.ensures.effect v told)

pub returns-in_err-append-clause-fails : goal.returns-in_err-append-clause-fails
returns-in_err-append-clause-fails g c = λ v told.
    let needs = subst (λ t. Needs t v) (sym c.self.view_is) (c.requires.needs v told) in
    let is = ap (λ (t : Building). t.phase) c.self.view_is ∙ c.requires.phase in
    let number = number_write _ c.args.number needs.made is c.index-node.result.now c.index-node.ensures in
    let error = err_from_is_err_and c.from_residual.result c.from_residual.ensures.1 in
    rw (error.1, error.2) (err_fails _ _ v _ _ (write_at c.args.number _ _ c.self.view_is v (g.met.F.Fs.tree c.args.fs.now v told) needs is c.index-node.result.now number c.in-File.bytes c.in-File.is _ c.as_slice.ensures) (Refuses c.args.self.now v) (failed c.args.self.now.phase v) (no_memory c.args.self.now.phase v) _ _ (c.in_err-append.ensures.effect v told))

pub returns-clause-writes : goal.returns-clause-writes
returns-clause-writes g c = λ v told.
    let needs = subst (λ t. Needs t v) (sym c.self.view_is) (c.requires.needs v told) in
    let is = ap (λ (t : Building). t.phase) c.self.view_is ∙ c.requires.phase in
    let number = number_write _ c.args.number needs.made is c.index-node.result.now c.index-node.ensures in
    ok_writes _ _ v _ _ (write_at c.args.number _ _ c.self.view_is v (g.met.F.Fs.tree c.args.fs.now v told) needs is c.index-node.result.now number c.in-File.bytes c.in-File.is _ c.as_slice.ensures) _ (c.in_ok-append.ensures.effect v told)

pub returns-clause-after : goal.returns-clause-after
returns-clause-after g c = λ v told.
    let needs = subst (λ t. Needs t v) (sym c.self.view_is) (c.requires.needs v told) in
    let is = ap (λ (t : Building). t.phase) c.self.view_is ∙ c.requires.phase in
    let number = number_write _ c.args.number needs.made is c.index-node.result.now c.index-node.ensures in
    needs_as _ _ _ c.args.number c.self.view_is c.reached.ensures.next _ (ok_after _ _ v _ _ (write_at c.args.number _ _ c.self.view_is v (g.met.F.Fs.tree c.args.fs.now v told) needs is c.index-node.result.now number c.in-File.bytes c.in-File.is _ c.as_slice.ensures) _ (c.in_ok-append.ensures.effect v told))

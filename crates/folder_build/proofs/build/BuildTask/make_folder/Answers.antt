use Rattle.std.proofs.Common.{sym, ◌∙◌, ap, subst}
use Rattle.std.proofs.lemmas.Result.{err_from_is_err_and}
use Rattle.fs_trait.proofs.Answering.{ok_writes, ok_after, err_writes, err_fails}
use Rattle.folder_build.specs.Build.{Building, IsNumber}
use Rattle.folder_build.specs.Steps.{Needs, Refuses}
use Rattle.checkout.proofs.CheckoutAnswering.{looked_none, looked_some}
use Rattle.folder_build.proofs.Making.{failed, folder_at, kept_at, needs_as, no_memory, number_make, unchanged_as}
use Rattle.folder_build.proofs.build.BuildTask.make_folder.Goals as goal

pub returns-then-is_some-clause-after : goal.returns-then-is_some-clause-after
returns-then-is_some-clause-after g c = λ v told.
    let needs = subst (λ t. Needs t v) (sym c.self.view_is) (c.requires.needs v told) in
    let is = ap (λ (t : Building). t.phase) c.self.view_is ∙ c.requires.phase in
    let number = number_make _ c.args.number needs.made is c.index-node.result.now c.index-node.ensures in
    let what = c.requires.what c.index-node.result.now (subst (λ (t : Building). IsNumber t.nodes c.args.number c.index-node.result.now) c.self.view_is number) in
    let still = c.in_ok-stat.ensures.quiet.view ∙ told in
    let node = (c.in_ok-stat.ensures.answer v told).1 in
    let kept = kept_at c.args.number _ _ c.self.view_is v (g.met.F.Fs.tree c.args.fs.now v told) needs is c.index-node.result.now number what (looked_some v.now _ _ node (sym c.if-is_some.ensures)) in
    needs_as _ _ _ c.args.number c.self.view_is c.reached.ensures.next _ (v, still, kept)

pub returns-in_err-mkdir-clause-writes : goal.returns-in_err-mkdir-clause-writes
returns-in_err-mkdir-clause-writes g c = λ v told.
    let needs = subst (λ t. Needs t v) (sym c.self.view_is) (c.requires.needs v told) in
    let is = ap (λ (t : Building). t.phase) c.self.view_is ∙ c.requires.phase in
    let number = number_make _ c.args.number needs.made is c.index-node.result.now c.index-node.ensures in
    let what = c.requires.what c.index-node.result.now (subst (λ (t : Building). IsNumber t.nodes c.args.number c.index-node.result.now) c.self.view_is number) in
    let still = c.in_ok-stat.ensures.quiet.view ∙ told in
    let node = (c.in_ok-stat.ensures.answer v told).1 in
    err_writes _ _ v _ _ (folder_at c.args.number _ _ c.self.view_is v (g.met.F.Fs.tree c.args.fs.now v told) needs is c.index-node.result.now number what (looked_none v.now _ _ node (sym c.if-is_some.ensures)) _ c.folder_meta.ensures.value) _ _ (c.in_err-mkdir.ensures.effect v still)

pub returns-in_err-mkdir-clause-fails : goal.returns-in_err-mkdir-clause-fails
returns-in_err-mkdir-clause-fails g c = λ v told.
    let needs = subst (λ t. Needs t v) (sym c.self.view_is) (c.requires.needs v told) in
    let is = ap (λ (t : Building). t.phase) c.self.view_is ∙ c.requires.phase in
    let number = number_make _ c.args.number needs.made is c.index-node.result.now c.index-node.ensures in
    let what = c.requires.what c.index-node.result.now (subst (λ (t : Building). IsNumber t.nodes c.args.number c.index-node.result.now) c.self.view_is number) in
    let still = c.in_ok-stat.ensures.quiet.view ∙ told in
    let node = (c.in_ok-stat.ensures.answer v told).1 in
    let error = err_from_is_err_and c.from_residual-in_err-mkdir.result c.from_residual-in_err-mkdir.ensures.1 in
    rw (error.1, error.2) (err_fails _ _ v _ _ (folder_at c.args.number _ _ c.self.view_is v (g.met.F.Fs.tree c.args.fs.now v told) needs is c.index-node.result.now number what (looked_none v.now _ _ node (sym c.if-is_some.ensures)) _ c.folder_meta.ensures.value) (Refuses c.args.self.now v) (failed c.args.self.now.phase v) (no_memory c.args.self.now.phase v) _ _ (c.in_err-mkdir.ensures.effect v still))

pub returns-in_err-mkdir-clause-unchanged : goal.returns-in_err-mkdir-clause-unchanged
returns-in_err-mkdir-clause-unchanged g c = λ v told memory.
    let still = c.in_ok-stat.ensures.quiet.view ∙ told in
    let error = err_from_is_err_and c.from_residual-in_err-mkdir.result c.from_residual-in_err-mkdir.ensures.1 in
    unchanged_as error.0 _ error.1 _ error.2 memory _ _ _ _ (c.in_err-mkdir.ensures.effect v still)

pub returns-clause-writes : goal.returns-clause-writes
returns-clause-writes g c = λ v told.
    let needs = subst (λ t. Needs t v) (sym c.self.view_is) (c.requires.needs v told) in
    let is = ap (λ (t : Building). t.phase) c.self.view_is ∙ c.requires.phase in
    let number = number_make _ c.args.number needs.made is c.index-node.result.now c.index-node.ensures in
    let what = c.requires.what c.index-node.result.now (subst (λ (t : Building). IsNumber t.nodes c.args.number c.index-node.result.now) c.self.view_is number) in
    let still = c.in_ok-stat.ensures.quiet.view ∙ told in
    let node = (c.in_ok-stat.ensures.answer v told).1 in
    ok_writes _ _ v _ _ (folder_at c.args.number _ _ c.self.view_is v (g.met.F.Fs.tree c.args.fs.now v told) needs is c.index-node.result.now number what (looked_none v.now _ _ node (sym c.if-is_some.ensures)) _ c.folder_meta.ensures.value) _ (c.in_ok-mkdir.ensures.effect v still)

pub returns-clause-after : goal.returns-clause-after
returns-clause-after g c = λ v told.
    let needs = subst (λ t. Needs t v) (sym c.self.view_is) (c.requires.needs v told) in
    let is = ap (λ (t : Building). t.phase) c.self.view_is ∙ c.requires.phase in
    let number = number_make _ c.args.number needs.made is c.index-node.result.now c.index-node.ensures in
    let what = c.requires.what c.index-node.result.now (subst (λ (t : Building). IsNumber t.nodes c.args.number c.index-node.result.now) c.self.view_is number) in
    let still = c.in_ok-stat.ensures.quiet.view ∙ told in
    let node = (c.in_ok-stat.ensures.answer v told).1 in
    needs_as _ _ _ c.args.number c.self.view_is c.reached-2.ensures.next _ (ok_after _ _ v _ _ (folder_at c.args.number _ _ c.self.view_is v (g.met.F.Fs.tree c.args.fs.now v told) needs is c.index-node.result.now number what (looked_none v.now _ _ node (sym c.if-is_some.ensures)) _ c.folder_meta.ensures.value) _ (c.in_ok-mkdir.ensures.effect v still))

use Rattle.std.proofs.Common.{◌≢◌, sym, ◌∙◌, ap, subst, refl}
use Rattle.std.proofs.lemmas.Result.{err_from_is_err_and}
use Rattle.fs_trait.specs.Seen.{Vacant, shows}
use Rattle.checkout.proofs.CheckoutAnswering.{looked_none, looked_some}
use Rattle.kernel_copy.specs.Work.{KernelCopying}
use Rattle.kernel_copy.specs.Steps.{Needs}
use Rattle.kernel_copy.proofs.Telling.{begun_as, folder_told, made_told, told_as, unmade_told, vacant_as}
use Rattle.kernel_copy.proofs.task.KernelTask.make_folder.Goals as goal

pub returns-then-is_some-clause-told : goal.returns-then-is_some-clause-told
returns-then-is_some-clause-told g c = λ v told.
    let needs = subst (λ t. Needs t v) (sym c.self.view_is) (c.requires.needs v told) in
    let is = ap (λ (t : KernelCopying). t.phase) c.self.view_is ∙ c.requires.phase in
    let still = c.in_ok-stat.ensures.quiet.view ∙ told in
    let some = looked_some v.now _ _ (c.in_ok-stat.ensures.answer v told).1 (sym c.if-is_some.ensures) in
    let there = subst (λ p. shows v.now p ≢ Vacant) c.self.invariant.home some in
    begun_as _ _ _ _ c.self.view_is c.begin_kernel.ensures.task c.begin_kernel.ensures.turn v _ (folder_told _ c.self.invariant is v needs there _ still)

pub returns-in_err-mkdir-clause-told : goal.returns-in_err-mkdir-clause-told
returns-in_err-mkdir-clause-told g c = λ v told.
    let needs = subst (λ t. Needs t v) (sym c.self.view_is) (c.requires.needs v told) in
    let is = ap (λ (t : KernelCopying). t.phase) c.self.view_is ∙ c.requires.phase in
    let still = c.in_ok-stat.ensures.quiet.view ∙ told in
    let vacant = vacant_as v.now _ _ c.self.invariant.home (looked_none v.now _ _ (c.in_ok-stat.ensures.answer v told).1 (sym c.if-is_some.ensures)) in
    let tree = g.met.F.Fs.tree c.args.fs.now v told in
    let error = err_from_is_err_and c.from_residual-in_err-mkdir.result c.from_residual-in_err-mkdir.ensures.1 in
    rw (error.1, error.2) (told_as _ _ _ _ c.self.view_is c.self.view_is v _ _ (unmade_told _ c.self.invariant is v needs tree vacant _ refl _ c.folder_meta.ensures.value _ _ (c.in_err-mkdir.ensures.effect v still)))

pub returns-clause-told : goal.returns-clause-told
returns-clause-told g c = λ v told.
    let needs = subst (λ t. Needs t v) (sym c.self.view_is) (c.requires.needs v told) in
    let is = ap (λ (t : KernelCopying). t.phase) c.self.view_is ∙ c.requires.phase in
    let still = c.in_ok-stat.ensures.quiet.view ∙ told in
    let vacant = vacant_as v.now _ _ c.self.invariant.home (looked_none v.now _ _ (c.in_ok-stat.ensures.answer v told).1 (sym c.if-is_some.ensures)) in
    let tree = g.met.F.Fs.tree c.args.fs.now v told in
    begun_as _ _ _ _ c.self.view_is c.begin_kernel-2.ensures.task c.begin_kernel-2.ensures.turn v _
    (made_told _ c.self.invariant is v needs tree vacant _ refl _ c.folder_meta.ensures.value _ (c.in_ok-mkdir.ensures.effect v still))

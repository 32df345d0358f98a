use Rattle.std.proofs.Common.{refl, sym, ◌∙◌, subst}
use Rattle.fs_trait.specs.declared.task.StepResult.TheVariants.{More}
use Rattle.fs_trait.specs.Effect.{IsListing}
use Rattle.deploy_clean.proofs.Telling.{begins, told_as, told_still}
use Rattle.deploy_clean.proofs.task.CleanTask.begin.Goals as goal

pub returns-clause-told : goal.returns-clause-told
returns-clause-told g c = λ v told.
    let listing = subst (λ p. IsListing v.now p c.in_ok-names.names) c.in_ok-at.ensures (c.in_ok-names.ensures.told v told) in
    told_as _ _ _ _ c.self.view_is refl v _ _
    (told_still _ _ v More _ (c.in_ok-names.ensures.quiet.view ∙ told) (begins _ v _ (g.met.F.Fs.tree c.args.fs.now v told) (subst (IsListing v.now _) (sym c.next_last.ensures.value) listing)) tt)

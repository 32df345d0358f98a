use Rattle.std.proofs.Common.{refl, sym, subst, reverse}
use Rattle.fs_trait.specs.declared.task.StepResult.TheVariants.{More}
use Rattle.deploy_clean.specs.NextName.{IsNextName}
use Rattle.deploy_clean.specs.declared.stateroot.NextName.TheVariants.{Other, Unlisted}
use Rattle.deploy_clean.specs.Cleaning.{Cleaning}
use Rattle.deploy_clean.specs.Steps.{Needs}
use Rattle.deploy_clean.proofs.Telling.{passed_stepped, sees_none, sees_other, sees_unlisted, stepped_as, told_as, told_still}
use Rattle.deploy_clean.proofs.task.CleanTask.see.Goals as goal

pub returns-in-Nothing-clause-told : goal.returns-in-Nothing-clause-told
returns-in-Nothing-clause-told c = λ v needs.
    let none = subst (IsNextName c.as_slice.result.now c.in-See.stateroot) c.in-Nothing.is c.in_ok-next.ensures in
    told_as _ _ _ _ c.self.view_is refl v _ _ (told_still _ _ v More _ refl (sees_none _ c.in-See.stateroot c.in-See.is v (subst (λ t. Needs t v) (sym c.self.view_is) needs) none) tt)

pub returns-in-Other-clause-told : goal.returns-in-Other-clause-told
returns-in-Other-clause-told c = λ v needs.
    let other = subst (λ l. IsNextName l c.in-See.stateroot Other) c.as_slice.ensures.value (subst (IsNextName c.as_slice.result.now c.in-See.stateroot) c.in-Other.is c.in_ok-next.ensures) in
    told_as _ _ _ _ c.self.view_is refl v _ _
    (told_still _ _ v More _ refl (sees_other _ c.in-See.stateroot c.in-See.is v (subst (λ t. Needs t v) (sym c.self.view_is) needs) c.pass.new.self c.pass.ensures other.0 other.1 other.2) tt)

pub returns-in-Other-clause-stepped : goal.returns-in-Other-clause-stepped
returns-in-Other-clause-stepped c =
    let other = subst (λ l. IsNextName l c.in-See.stateroot Other) c.as_slice.ensures.value (subst (IsNextName c.as_slice.result.now c.in-See.stateroot) c.in-Other.is c.in_ok-next.ensures) in
    let t : Cleaning = record { listed = c.self.inside.listed.items; stateroots = reverse c.self.inside.stateroots.items; phase = c.self.inside.phase } in
    stepped_as t _ _ c.self.view_is (passed_stepped t c.in-See.stateroot c.pass.new.self other.0 c.in-See.is other.1 other.2 c.pass.ensures)

pub returns-in-Unlisted-clause-told : goal.returns-in-Unlisted-clause-told
returns-in-Unlisted-clause-told c = λ v needs.
    let next = subst (λ l. IsNextName l c.in-See.stateroot (Unlisted c.in-Unlisted.at)) c.as_slice.ensures.value (subst (IsNextName c.as_slice.result.now c.in-See.stateroot) c.in-Unlisted.is c.in_ok-next.ensures) in
    told_as _ _ _ _ c.self.view_is (sym c.begin_removal.ensures) v _ _
    (told_still _ _ v More _ refl (sees_unlisted _ c.in-See.stateroot c.in-See.is v (subst (λ t. Needs t v) (sym c.self.view_is) needs) c.in-Unlisted.at next) tt)

use Rattle.std.proofs.Common.{◌≡◌, ◌≢◌, true, false, Ok, refl, sym, ◌∙◌, ap, subst}
use Rattle.std.proofs.lemmas.Result.{err_from_is_err_and}
use Rattle.ost_types.specs.PathMap.{IsPathMap}
use Rattle.fs_trait.specs.declared.task.StepResult.TheVariants.{Done}
use Rattle.deploy_task.specs.declared.phase.Phase.{Phase}
use Rattle.deploy_task.specs.Deploying.{Deploying, in_phase}
use Rattle.deploy_task.specs.Steps.{Needs}
use Rattle.deploy_task.proofs.Keeping.{scan_keeps}
use Rattle.deploy_task.proofs.Reading.{etc_so_far}
use Rattle.deploy_task.proofs.Telling.{stepped_as, told_as}
use Rattle.deploy_task.proofs.Comparing.{read_changed, read_err, read_off, read_on, read_unchanged, scans_changed, scans_off, scans_on, scans_unchanged}
use Rattle.deploy_task.proofs.task.DeployTask.read_etc.Goals as goal

pub invariant_of-self-in-More : goal.invariant_of-self-in-More
invariant_of-self-in-More g c = scan_keeps _ c.in-Etc.defaults c.in-Etc.scan c.in-Etc.is c.self.invariant c.step.new.self c.step.result (c.in_ok-step.was ∙ ap Ok c.in-More.is) c.step.ensures.stepped

pub returns-in-More-clause-told : goal.returns-in-More-clause-told
returns-in-More-clause-told g c = λ v told.
    let needs = subst (λ t. Needs t v) (sym c.self.view_is) (c.requires.needs v told) in
    told_as _ _ _ _ c.self.view_is refl v _ _
    (read_on _ c.in-Etc.defaults c.in-Etc.scan c.in-Etc.is c.step.new.self c.step.result c.step.ensures.stepped v needs _ (c.step.ensures.quiet.view ∙ told) (c.step.ensures.told v told (etc_so_far _ c.in-Etc.defaults c.in-Etc.scan c.in-Etc.is v needs)) (c.in_ok-step.was ∙ ap Ok c.in-More.is))

pub returns-in-More-clause-stepped : goal.returns-in-More-clause-stepped
returns-in-More-clause-stepped g c =
    stepped_as _ _ _ _ _ c.self.view_is refl (scans_on _ c.in-Etc.defaults c.in-Etc.scan c.in-Etc.is c.step.new.self c.step.result c.step.ensures.stepped (c.in_ok-step.was ∙ ap Ok c.in-More.is))

pub returns-in-Done-Err-clause-told : goal.returns-in-Done-Err-clause-told
returns-in-Done-Err-clause-told g c = λ v told.
    let needs = subst (λ t. Needs t v) (sym c.self.view_is) (c.requires.needs v told) in
    told_as _ _ _ _ c.self.view_is refl v _ _
    (read_off _ c.in-Etc.defaults c.in-Etc.scan c.in-Etc.is c.step.new.self c.step.result c.step.ensures.stepped v needs _ (c.step.ensures.quiet.view ∙ told) (c.step.ensures.told v told (etc_so_far _ c.in-Etc.defaults c.in-Etc.scan c.in-Etc.is v needs)) c.in-Done-Err.fault
    (c.in_ok-step.was ∙ ap Ok (c.in-Done-Err.is ∙ ap Done c.in-Done-Err.field-0-is)))

pub returns-in-Done-Err-clause-stepped : goal.returns-in-Done-Err-clause-stepped
returns-in-Done-Err-clause-stepped g c =
    stepped_as _ _ _ _ _ c.self.view_is refl
    (scans_off _ c.in-Etc.defaults c.in-Etc.scan c.in-Etc.is c.step.new.self c.step.result c.step.ensures.stepped c.in-Done-Err.fault (c.in_ok-step.was ∙ ap Ok (c.in-Done-Err.is ∙ ap Done c.in-Done-Err.field-0-is)))

pub returns-in_err-step-clause-told : goal.returns-in_err-step-clause-told
returns-in_err-step-clause-told g c = λ v told.
    let needs = subst (λ t. Needs t v) (sym c.self.view_is) (c.requires.needs v told) in
    let error = err_from_is_err_and c.from_residual.result c.from_residual.ensures.1 in
    rw (error.1, error.2)
    (told_as _ _ _ _ c.self.view_is refl v _ _
    (read_err _ c.in-Etc.defaults c.in-Etc.scan c.in-Etc.is c.step.new.self c.step.result c.step.ensures.stepped v needs _ (c.step.ensures.quiet.view ∙ told) (c.step.ensures.told v told (etc_so_far _ c.in-Etc.defaults c.in-Etc.scan c.in-Etc.is v needs)) _ c.in_err-step.was _))

pub returns-then-not-is_same_map-clause-told : goal.returns-then-not-is_same_map-clause-told
returns-then-not-is_same_map-clause-told g c = λ v told.
    let needs = subst (λ x. Needs x v) (sym c.self.view_is) (c.requires.needs v told) in
    let ok = c.in_ok-step.was ∙ ap Ok (c.in-Done-Ok.is ∙ ap Done c.in-Done-Ok.field-0-is) in
    let other : c.step.new.self.found ≢ c.in-Etc.defaults = λ same. let n : true ≡ false = sym (c.is_same_map.ensures.1 (c.found-in-Done-Ok.ensures ∙ same)) ∙ c.if-not-is_same_map.true in cc in
    let map = subst IsPathMap (c.as_slice-etc.ensures.value ∙ c.found.ensures) c.as_slice-etc.ensures.map in
    told_as _ _ _ _ c.self.view_is refl v _ _
    (read_changed _ c.in-Etc.defaults c.in-Etc.scan c.in-Etc.is c.step.new.self c.step.result c.step.ensures.stepped v needs _ (c.step.ensures.quiet.view ∙ told) (c.step.ensures.told v told (etc_so_far _ c.in-Etc.defaults c.in-Etc.scan c.in-Etc.is v needs)) _ ok map other)

pub returns-then-not-is_same_map-clause-stepped : goal.returns-then-not-is_same_map-clause-stepped
returns-then-not-is_same_map-clause-stepped g c =
    let ok = c.in_ok-step.was ∙ ap Ok (c.in-Done-Ok.is ∙ ap Done c.in-Done-Ok.field-0-is) in
    let other : c.step.new.self.found ≢ c.in-Etc.defaults = λ same. let n : true ≡ false = sym (c.is_same_map.ensures.1 (c.found-in-Done-Ok.ensures ∙ same)) ∙ c.if-not-is_same_map.true in cc in
    stepped_as _ _ _ _ _ c.self.view_is refl (scans_changed _ c.in-Etc.defaults c.in-Etc.scan c.in-Etc.is c.step.new.self c.step.result c.step.ensures.stepped _ ok other)

pub returns-else-not-is_same_map-clause-told : goal.returns-else-not-is_same_map-clause-told
returns-else-not-is_same_map-clause-told g c = λ v told.
    let t : Deploying = record { plan = c.self.inside.deploy; id = c.self.inside.id; kept = c.self.inside.kept.items; phase = c.self.inside.phase } in
    let needs = subst (λ x. Needs x v) (sym c.self.view_is) (c.requires.needs v told) in
    let ok = c.in_ok-step.was ∙ ap Ok (c.in-Done-Ok.is ∙ ap Done c.in-Done-Ok.field-0-is) in
    let same : c.step.new.self.found ≡ c.in-Etc.defaults = sym c.found-in-Done-Ok.ensures ∙ c.is_same_map.ensures.0 c.if-not-is_same_map.false in
    told_as t _ _ _ c.self.view_is (ap (λ (ph : Phase). in_phase ph t) (sym c.go_on.ensures)) v _ _
    (read_unchanged t c.in-Etc.defaults c.in-Etc.scan c.in-Etc.is c.step.new.self c.step.result c.step.ensures.stepped v needs _ (c.step.ensures.quiet.view ∙ told) (c.step.ensures.told v told (etc_so_far _ c.in-Etc.defaults c.in-Etc.scan c.in-Etc.is v needs)) _ ok same)

pub returns-else-not-is_same_map-clause-stepped : goal.returns-else-not-is_same_map-clause-stepped
returns-else-not-is_same_map-clause-stepped g c =
    let t : Deploying = record { plan = c.self.inside.deploy; id = c.self.inside.id; kept = c.self.inside.kept.items; phase = c.self.inside.phase } in
    let ok = c.in_ok-step.was ∙ ap Ok (c.in-Done-Ok.is ∙ ap Done c.in-Done-Ok.field-0-is) in
    let same : c.step.new.self.found ≡ c.in-Etc.defaults = sym c.found-in-Done-Ok.ensures ∙ c.is_same_map.ensures.0 c.if-not-is_same_map.false in
    stepped_as t _ _ _ _ c.self.view_is (ap (λ (ph : Phase). in_phase ph t) (sym c.go_on.ensures)) (scans_unchanged t c.in-Etc.defaults c.in-Etc.scan c.in-Etc.is c.step.new.self c.step.result c.step.ensures.stepped _ ok same)

use Rattle.std.proofs.Common.{refl, sym, ◌∙◌, ap, subst, reverse}
use Rattle.std.specs.Option.{IfSome}
use Rattle.fs_trait.specs.declared.task.StepResult.TheVariants.{More, Done}
use Rattle.fs_trait.specs.Effect.{IsListing}
use Rattle.deploy_clean.specs.Opened.{Opened, IsOpenedAs}
use Rattle.deploy_clean.specs.Cleaning.{Cleaning}
use Rattle.deploy_clean.specs.Steps.{Needs}
use Rattle.deploy_clean.specs.Unlisted.{deployments}
use Rattle.deploy_clean.proofs.Lasts.{last_first, last_none, last_rest}
use Rattle.deploy_clean.proofs.Telling.{ends, opened_stepped, opens_none, opens_other, opens_stateroot, stepped_as, told_as, told_still}
use Rattle.deploy_clean.proofs.task.CleanTask.open.Goals as goal

pub returns-in_default-clause-told : goal.returns-in_default-clause-told
returns-in_default-clause-told g c = λ v told.
    let is = ap (λ (t : Cleaning). t.phase) c.self.view_is ∙ c.requires.phase in
    let needs = subst (λ t. Needs t v) (sym c.self.view_is) (c.requires.needs v told) in
    let clean = opens_none _ v is needs (last_none c.self.inside.stateroots.items c.deref.result.now c.deref.ensures.value c.in_default.ensures.value) in
    told_as _ _ _ _ c.self.view_is refl v _ _ (told_still _ _ v (Done tt) _ told (ends _ v is needs clean) clean)

pub returns-in-None-clause-told : goal.returns-in-None-clause-told
returns-in-None-clause-told g c =
    let rest = last_rest c.self.inside.stateroots.items c.deref.result.now c.pop.new.self.items c.in-Some.name.now _ c.deref.ensures.value c.in-Some.ensures.value c.self.inside.stateroots.ok.0 c.pop.ensures.rest in
    λ v told.
    let is = ap (λ (t : Cleaning). t.phase) c.self.view_is ∙ c.requires.phase in
    let needs = subst (λ t. Needs t v) (sym c.self.view_is) (c.requires.needs v told) in
    let first = last_first c.self.inside.stateroots.items c.deref.result.now c.in-Some.name.now c.deref.ensures.value c.in-Some.ensures.value in
    let other = subst (IsOpenedAs c.in-Some.name.now) c.in-None.is c.in_ok-opened.ensures.opened in
    told_as _ _ _ _ c.self.view_is refl v _ _ (told_still _ _ v More _ (c.in_ok-opened.ensures.quiet.view ∙ told) (opens_other _ v is needs c.in-Some.name.now first _ rest other _ is) tt)

pub returns-in-Some-opened-clause-told : goal.returns-in-Some-opened-clause-told
returns-in-Some-opened-clause-told g c =
    let rest = last_rest c.self.inside.stateroots.items c.deref.result.now c.pop.new.self.items c.in-Some.name.now _ c.deref.ensures.value c.in-Some.ensures.value c.self.inside.stateroots.ok.0 c.pop.ensures.rest in
    λ v told.
    let is = ap (λ (t : Cleaning). t.phase) c.self.view_is ∙ c.requires.phase in
    let needs = subst (λ t. Needs t v) (sym c.self.view_is) (c.requires.needs v told) in
    let first = last_first c.self.inside.stateroots.items c.deref.result.now c.in-Some.name.now c.deref.ensures.value c.in-Some.ensures.value in
    let opened = subst (IsOpenedAs c.in-Some.name.now) c.in-Some-opened.is c.in_ok-opened.ensures.opened in
    let listing = subst (λ x. IfSome x (λ (o : Opened). IsListing v.now (deployments c.in-Some.name.now) o.names)) c.in-Some-opened.is (c.in_ok-opened.ensures.told v told) in
    told_as _ _ _ _ c.self.view_is refl v _ _
    (told_still _ _ v More _ (c.in_ok-opened.ensures.quiet.view ∙ told) (opens_stateroot _ v is needs c.in-Some.name.now first _ rest c.in-Some-opened.stateroot opened.1 listing) tt)

pub returns-in-Some-opened-clause-stepped : goal.returns-in-Some-opened-clause-stepped
returns-in-Some-opened-clause-stepped g c =
    let rest = last_rest c.self.inside.stateroots.items c.deref.result.now c.pop.new.self.items c.in-Some.name.now _ c.deref.ensures.value c.in-Some.ensures.value c.self.inside.stateroots.ok.0 c.pop.ensures.rest in
    let is = ap (λ (t : Cleaning). t.phase) c.self.view_is ∙ c.requires.phase in
    let first = last_first c.self.inside.stateroots.items c.deref.result.now c.in-Some.name.now c.deref.ensures.value c.in-Some.ensures.value in
    let opened = subst (IsOpenedAs c.in-Some.name.now) c.in-Some-opened.is c.in_ok-opened.ensures.opened in
    let t : Cleaning = record { listed = c.self.inside.listed.items; stateroots = reverse c.self.inside.stateroots.items; phase = c.self.inside.phase } in
    stepped_as t _ _ c.self.view_is (opened_stepped t c.in-Some.name.now c.in-Some-opened.stateroot _ is first opened.0 opened.1 rest)

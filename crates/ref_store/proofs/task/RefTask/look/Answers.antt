use Rattle.std.proofs.Common.{rules, ◌≡◌, ◌≢◌, sym, ◌∙◌, ap, subst}
use Rattle.ref_store.specs.Change.{Change, begun}
use Rattle.ref_store.specs.Steps.{Needs}
use Rattle.ref_store.proofs.LookLemmas.{is_look, look_over}
use Rattle.ref_store.specs.declared.lookup.There.TheVariants as there
use Rattle.ref_store.proofs.FallLemmas.{look_falls, look_tells}
use Rattle.ref_store.proofs.task.RefTask.look.Goals as goal

pub returns-then-ne-clause-after : goal.returns-then-ne-clause-after
returns-then-ne-clause-after g c = λ v told. (v, c.look.ensures.quiet.view ∙ told, c.requires.needs v told)

pub returns-clause-after : goal.returns-clause-after
returns-clause-after g c = λ v told.
    let needs = subst (λ t. Needs t v) (sym c.self.view_is) (c.requires.needs v told) in
    let phase = ap (λ (t : Change). t.phase) c.self.view_is ∙ is_look _ c.requires.phase in
    let there = c.in_ok-there.ensures.told v told in
    let same : c.commit_of-now.result ≡ c.self.inside.seen = search rules in
    let next = c.in_ok-self-inside.ensures ∙ sym (ap (λ (t : Change). begun t.value c.in_ok-there.there t.name) c.self.view_is) in
    (v, c.look.ensures.quiet.view ∙ told, look_over _ v needs phase _ c.in_ok-at.ensures c.in_ok-there.there there (sym c.commit_of-now.ensures ∙ same) _ next)

pub returns-clause-falls : goal.returns-clause-falls
returns-clause-falls g c =
    let phase = ap (λ (t : Change). t.phase) c.self.view_is ∙ is_look _ c.requires.phase in
    let next = c.in_ok-self-inside.ensures ∙ sym (ap (λ (t : Change). begun t.value c.in_ok-there.there t.name) c.self.view_is) in
    look_falls _ _ c.self.view_is phase c.in_ok-there.there c.in_ok-self-inside.field-0 next

pub returns-clause-tells : goal.returns-clause-tells
returns-clause-tells g c = λ v told.
    let phase = ap (λ (t : Change). t.phase) c.self.view_is ∙ is_look _ c.requires.phase in
    let same : c.commit_of-now.result ≡ c.self.inside.seen = search rules in
    let other : c.in_ok-there.there ≢ there.OtherLeaf = search rules in
    look_tells _ _ c.self.view_is phase v c.in_ok-at.at c.in_ok-at.ensures c.in_ok-there.there other (c.in_ok-there.ensures.told v told) (sym c.commit_of-now.ensures ∙ same) _

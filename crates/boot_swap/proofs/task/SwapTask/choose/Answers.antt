use Rattle.std.proofs.Common.{◌∙◌, Ok, sym, subst}
use Rattle.fs_trait.specs.declared.task.StepResult.TheVariants.{More, Done}
use Rattle.boot_model.specs.Items.{AreItems}
use Rattle.boot_compare.specs.Choosing.{Falls as Falls_of, Knows, OnMore, Tells}
use Rattle.boot_swap.specs.Steps.{Needs}
use Rattle.boot_swap.proofs.Making.{at_phase, choice_done, choice_more, needs_at}
use Rattle.boot_swap.proofs.Refusing.{tells_as, tells_chosen}
use Rattle.boot_swap.specs.Steps.{tells_in}
use Rattle.boot_swap.specs.declared.phase.Phase.TheVariants as phase
use Rattle.boot_swap.specs.Swap.{Falls}
use Rattle.boot_swap.proofs.Falling.{choice_falls, chosen_falls, falls_as}
use Rattle.boot_swap.proofs.task.SwapTask.choose.Goals as goal

pub step-requires : goal.step-requires
step-requires g c = subst AreItems (sym c.deref.ensures.value) c.self.invariant.1.items

pub returns-in-More-clause-after : goal.returns-in-More-clause-after
returns-in-More-clause-after g c = λ v told.
    let needs = needs_at _ _ _ v c.in-Choose.is (subst (λ t. Needs t v) (sym c.self.view_is) (c.requires.needs v told)) in
    let tells = subst (λ i. Tells v.now i More c.step.new.self) c.deref.ensures.value (subst (λ r. Tells v.now c.deref.result.now r c.step.new.self) c.in-More.is (c.in_ok-step.ensures.told v told (subst (Knows c.in-Choose.choose v.now) (sym c.deref.ensures.value) needs.meets.1))) in
    (v, c.step.ensures.quiet.view ∙ told, choice_more _ _ v needs c.step.new.self tells)

pub returns-in-Done-clause-after : goal.returns-in-Done-clause-after
returns-in-Done-clause-after g c = λ v told.
    let needs = needs_at _ _ _ v c.in-Choose.is (subst (λ t. Needs t v) (sym c.self.view_is) (c.requires.needs v told)) in
    let tells = subst (λ i. Tells v.now i (Done c.in-Done.swap) c.step.new.self) c.deref.ensures.value (subst (λ r. Tells v.now c.deref.result.now r c.step.new.self) c.in-Done.is (c.in_ok-step.ensures.told v told (subst (Knows c.in-Choose.choose v.now) (sym c.deref.ensures.value) needs.meets.1))) in
    (v, c.step.ensures.quiet.view ∙ told, subst (λ ph. Needs (at_phase c.self.inside.items.items ph) v) (sym c.chosen.ensures) (choice_done _ _ v needs c.in-Done.swap tells))

pub returns-in-Done-clause-tells : goal.returns-in-Done-clause-tells
returns-in-Done-clause-tells g c = λ v told.
    let needs = needs_at _ _ _ v c.in-Choose.is (subst (λ t. Needs t v) (sym c.self.view_is) (c.requires.needs v told)) in
    let tells = subst (λ i. Tells v.now i (Done c.in-Done.swap) c.step.new.self) c.deref.ensures.value (subst (λ r. Tells v.now c.deref.result.now r c.step.new.self) c.in-Done.is (c.in_ok-step.ensures.told v told (subst (Knows c.in-Choose.choose v.now) (sym c.deref.ensures.value) needs.meets.1))) in
    tells_as c.args.self.now c.self.inside.items.items c.self.inside.phase (phase.Choose c.in-Choose.choose) c.self.view_is c.in-Choose.is _ v
    (subst (λ q. tells_in (phase.Choose c.in-Choose.choose) q c.self.inside.items.items v) (sym c.chosen.ensures) (tells_chosen c.in-Choose.choose c.self.inside.items.items v c.in-Done.swap tells))

pub returns-in-More-clause-falls : goal.returns-in-More-clause-falls
returns-in-More-clause-falls g c =
    falls_as c.args.self.now c.self.inside.items.items c.self.inside.phase (phase.Choose c.in-Choose.choose) (phase.Choose c.step.new.self) c.self.view_is c.in-Choose.is
    (choice_falls c.in-Choose.choose c.step.new.self (subst (λ r. OnMore (Ok r) (Falls_of c.step.new.self.phase c.in-Choose.choose.phase)) c.in-More.is c.in_ok-step.ensures.falls))

pub returns-in-Done-clause-falls : goal.returns-in-Done-clause-falls
returns-in-Done-clause-falls g c =
    falls_as c.args.self.now c.self.inside.items.items c.self.inside.phase (phase.Choose c.in-Choose.choose) c.chosen.result c.self.view_is c.in-Choose.is
    (subst (λ q. Falls q (phase.Choose c.in-Choose.choose)) (sym c.chosen.ensures) (chosen_falls c.in-Choose.choose c.in-Done.swap))

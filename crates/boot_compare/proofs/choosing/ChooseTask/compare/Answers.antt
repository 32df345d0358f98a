use Rattle.std.proofs.Common.{◌≡◌, sym, subst}
use Rattle.boot_compare.specs.declared.choosing.ChoosePhase.TheVariants as phase
use Rattle.boot_compare.specs.Choosing.{Knows, Tells, knows_in}
use Rattle.boot_compare.proofs.Telling.{outcome_tells}
use Rattle.boot_compare.proofs.choosing.ChooseTask.compare.Goals as goal

pub returns-clause-told : goal.returns-clause-told
returns-clause-told g c = λ v told knows.
    let before = subst (λ ph. knows_in ph v.now c.args.items.now) c.in-Compare.is (subst (λ t. Knows t v.now c.args.items.now) (sym c.self.view_is) knows) in
    let after = c.in_ok-compared.ensures.told v told c.args.items.now before.1 in
    subst (λ r. Tells v.now c.args.items.now r (record { phase = phase.Compare c.in-Compare.version c.step.new.self })) (sym c.outcome.ensures) (outcome_tells v.now c.args.items.now c.in-Compare.version c.in_ok-compared.compared c.step.new.self before.0 after)

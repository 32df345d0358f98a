use Rattle.std.proofs.Common.{◌≡◌, sym, subst}
use Rattle.boot_compare.specs.Choosing.{Knows, knows_in}
use Rattle.boot_compare.proofs.choosing.ChooseTask.list.Goals as goal

pub returns-clause-told : goal.returns-clause-told
returns-clause-told g c = λ v told knows.
    let selects = subst (λ ph. knows_in ph v.now c.args.items.now) c.in-Entries.is (subst (λ t. Knows t v.now c.args.items.now) (sym c.self.view_is) knows) in
    (selects, c.in_ok-comparing.ensures.told v told)

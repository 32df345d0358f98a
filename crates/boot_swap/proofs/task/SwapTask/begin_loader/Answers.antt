use Rattle.std.proofs.Common.{sym, subst}
use Rattle.boot_swap.specs.Steps.{Needs}
use Rattle.boot_swap.proofs.Making.{needs_at}
use Rattle.boot_swap.proofs.Showing.{loader_begin}
use Rattle.boot_swap.proofs.task.SwapTask.begin_loader.Goals as goal

pub returns-clause-after : goal.returns-clause-after
returns-clause-after g c = λ v told.
    let needs = needs_at _ _ _ v c.in-BeginLoader.is (subst (λ t. Needs t v) (sym c.self.view_is) (c.requires.needs v told)) in
    (v, told, loader_begin _ _ c.in_ok-link.link v needs c.in_ok-link.ensures)

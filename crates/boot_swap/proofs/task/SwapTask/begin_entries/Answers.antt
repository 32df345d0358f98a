use Rattle.std.proofs.Common.{sym, subst}
use Rattle.repo_layout.specs.Fixed.{number}
use Rattle.boot_plan.specs.Plans.{IsEntries}
use Rattle.boot_swap.specs.Steps.{Needs}
use Rattle.boot_swap.proofs.Making.{entries_begin, needs_at}
use Rattle.boot_swap.proofs.task.SwapTask.begin_entries.Goals as goal

pub returns-clause-after : goal.returns-clause-after
returns-clause-after g c = λ v told.
    let needs = needs_at _ _ _ v c.in-BeginEntries.is (subst (λ t. Needs t v) (sym c.self.view_is) (c.requires.needs v told)) in
    (v, told, entries_begin _ _ c.in_ok-build.build v needs (subst (λ i. IsEntries (number c.in-BeginEntries.version) i c.in_ok-build.build) c.deref.ensures.value c.in_ok-build.ensures))

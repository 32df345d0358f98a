use Rattle.std.proofs.Common.{sym, subst}
use Rattle.std.proofs.lemmas.Result.{err_from_is_err_and}
use Rattle.fs_trait.proofs.Answering.{err_fails, err_writes, ok_after, ok_writes}
use Rattle.boot_swap.specs.Steps.{Needs, Refuses}
use Rattle.boot_swap.proofs.Making.{at_phase, needs_at}
use Rattle.boot_swap.proofs.Refusing.{failed, no_memory, wrote_as}
use Rattle.boot_swap.proofs.Syncing.{all_step}
use Rattle.boot_swap.specs.Swap.{Falls}
use Rattle.boot_swap.proofs.Falling.{barred_falls, falls_as}
use Rattle.boot_swap.specs.declared.phase.Phase.TheVariants as phase
use Rattle.boot_swap.proofs.task.SwapTask.barrier.Goals as goal

pub returns-in_err-sync_all-clause-writes : goal.returns-in_err-sync_all-clause-writes
returns-in_err-sync_all-clause-writes g c = λ v told.
    let needs = needs_at _ _ _ v c.in-Barrier.is (subst (λ t. Needs t v) (sym c.self.view_is) (c.requires.needs v told)) in
    wrote_as _ _ _ _ c.self.view_is c.in-Barrier.is v _ (err_writes _ _ v _ _ (all_step _ _ _ v needs) _ _ (c.in_err-sync_all.ensures.effect v told))

pub returns-in_err-sync_all-clause-fails : goal.returns-in_err-sync_all-clause-fails
returns-in_err-sync_all-clause-fails g c = λ v told.
    let needs = needs_at _ _ _ v c.in-Barrier.is (subst (λ t. Needs t v) (sym c.self.view_is) (c.requires.needs v told)) in
    let error = err_from_is_err_and c.from_residual.result c.from_residual.ensures.1 in
    rw (error.1, error.2) (err_fails _ _ v _ _ (all_step _ _ _ v needs) (Refuses c.args.self.now v) (failed c.args.self.now.phase v) (no_memory c.args.self.now.phase v) _ _ (c.in_err-sync_all.ensures.effect v told))

pub returns-clause-writes : goal.returns-clause-writes
returns-clause-writes g c = λ v told.
    let needs = needs_at _ _ _ v c.in-Barrier.is (subst (λ t. Needs t v) (sym c.self.view_is) (c.requires.needs v told)) in
    wrote_as _ _ _ _ c.self.view_is c.in-Barrier.is v _ (ok_writes _ _ v _ _ (all_step _ _ _ v needs) _ (c.in_ok-sync_all.ensures.effect v told))

pub returns-clause-after : goal.returns-clause-after
returns-clause-after g c = λ v told.
    let needs = needs_at _ _ _ v c.in-Barrier.is (subst (λ t. Needs t v) (sym c.self.view_is) (c.requires.needs v told)) in
    let after = ok_after _ _ v _ _ (all_step _ _ _ v needs) _ (c.in_ok-sync_all.ensures.effect v told) in
    (after.0, after.1, subst (λ ph. Needs (at_phase c.self.inside.items.items ph) after.0) (sym c.barred.ensures) after.2)

pub returns-clause-falls : goal.returns-clause-falls
returns-clause-falls g c =
    falls_as c.args.self.now c.self.inside.items.items c.self.inside.phase (phase.Barrier c.in-Barrier.swap c.in-Barrier.sub) c.barred.result c.self.view_is c.in-Barrier.is
    (subst (λ q. Falls q (phase.Barrier c.in-Barrier.swap c.in-Barrier.sub)) (sym c.barred.ensures) (barred_falls c.in-Barrier.swap c.in-Barrier.sub))

use Rattle.std.proofs.Common.{◌≡◌, ◌-◌, rules, sym, subst}
use Rattle.prune_sweep.specs.Planned.{IsPlanned}
use Rattle.prune_sweep.specs.Sweeping.{AreFront}
use Rattle.prune_sweep.proofs.Planning.{planned}
use Rattle.prune_sweep.proofs.plan.plan_sweep.Goals as goal

pub returns-clause-told : goal.returns-clause-told
returns-clause-told g c = λ v from told names_are all.
    let m = c.args.marking.now in
    let removed = c.in_ok-removed.removed.items in
    let front = subst (λ l. AreFront l c.count_front-commits.result) c.as_slice-2.ensures.value c.count_front-commits.ensures in
    subst (IsPlanned v.now from m.depth c.args.pins.now) (sym c.new.ensures)
    (planned v.now from m names_are all removed c.in_ok-removed.ensures.order c.args.pins.now c.in_ok-marks.marks.items (c.in_ok-marks.ensures.told v told names_are.ascending) c.count_front-commits.result front c.saturating_sub-kept.result (search rules))

use Rattle.std.proofs.Common.{◌≡◌, ℕ, zero, suc, List, [], ◌∷◌, arith, subst, sym}
use Rattle.ost_types.specs.declared.limits.Limits.{Limits}
use Rattle.lane_system.specs.declared.lane.Lane.{Lane}
use Rattle.lane_system.specs.Kept.{AreIdle, IsIdle}
use Rattle.lane_system_check.specs.declared.task.WaitTask.{WaitTask}
use Rattle.lane_system_check.specs.declared.words.WaitWords.{WaitWords}
use Rattle.lane_system_check.specs.Family.{wait_means}
use Rattle.lane_system_check.proofs.act_tests.system_of.Goals as goal

idle_two : (limits : Limits) (a b : Lane WaitTask WaitWords ℕ) → IsIdle wait_means limits a → IsIdle wait_means limits b → AreIdle wait_means limits (a ∷ b ∷ [])
idle_two limits a b one two zero l at = subst (IsIdle wait_means limits) at.1 one
idle_two limits a b one two (suc zero) l at = subst (IsIdle wait_means limits) at.1 two
idle_two limits a b one two (suc (suc n)) l at = absurd (omega (arith, at.0))

pub new-requires-clause-idle : goal.new-requires-clause-idle
new-requires-clause-idle g c =
    let limits = c.in_ok-open_disk.field-0.limits in
    subst (AreIdle wait_means limits) (sym c.in_ok-lanes.ensures.items)
    (idle_two limits c.in_ok-lane_of.field-0 c.in_ok-lane_of-2.field-0 (c.in_ok-lane_of.ensures limits) (c.in_ok-lane_of-2.ensures limits))

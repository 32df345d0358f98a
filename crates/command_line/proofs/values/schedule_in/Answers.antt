use Rattle.std.proofs.Common.{◌≡◌, ◌⊎◌, List, Option, None, MatchResult, subst}
use Rattle.std.specs.Prelude.{option_map}
use Rattle.schedule.specs.declared.turns.Turns.{Turns}
use Rattle.command_line.specs.Words.{AreSchedule}
use Rattle.command_line.specs.declared.fault.LineFault.TheVariants as fault
use Rattle.command_line.proofs.Lines.{given_none, given_some}
use Rattle.command_line.proofs.values.schedule_in.Goals as goal

pub returns-in-Some : goal.returns-in-Some
returns-in-Some c =
    subst (λ vs. MatchResult c.schedule_of.result (λ o. AreSchedule vs (option_map (λ v. v.items) o)) (λ e. (e ≡ fault.NoMemory) ⊎ ((e ≡ fault.Usage) × ((turns : Option (List Turns)) → ¬ (AreSchedule vs turns)))))
    (given_some _ _ c.in-Some.ensures) c.schedule_of.ensures

pub returns-in-None : goal.returns-in-None
returns-in-None c = subst (λ vs. AreSchedule vs None) (given_none _ c.in-None.ensures) tt

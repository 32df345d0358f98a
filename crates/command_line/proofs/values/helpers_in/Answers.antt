use Rattle.std.proofs.Common.{ℕ, MatchOption, refl, subst}
use Rattle.command_line.specs.Words.{AreHelpers}
use Rattle.command_line.proofs.Lines.{given_none, given_some}
use Rattle.command_line.proofs.values.helpers_in.Goals as goal

pub returns-in-Some : goal.returns-in-Some
returns-in-Some c = subst (λ vs. MatchOption c.helpers_of.result ((count : ℕ) → ¬ (AreHelpers vs count)) (AreHelpers vs)) (given_some _ _ c.in-Some.ensures) c.helpers_of.ensures

pub returns-in-None : goal.returns-in-None
returns-in-None c = subst (λ vs. AreHelpers vs 4) (given_none _ c.in-None.ensures) refl

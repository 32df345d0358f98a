use Rattle.std.proofs.Common.{◌≡◌, ◌≢◌, ◌⊎◌, inr, [], MatchResult, map, refl, sym, subst}
use Rattle.std.specs.String.{string_bytes}
use Rattle.command_line.specs.declared.fault.LineFault.TheVariants as fault
use Rattle.command_line.proofs.Lines.{given_none, given_some}
use Rattle.command_line.proofs.values.fields_in.Goals as goal

pub returns-in-Some : goal.returns-in-Some
returns-in-Some c =
    subst (λ vs. MatchResult c.fields_of.result (λ v. (vs ≢ []) × (map (λ word. string_bytes word) v.items ≡ vs)) (λ e. (e ≡ fault.NoMemory) ⊎ ((e ≡ fault.Usage) × (vs ≡ []))))
    (given_some _ _ c.in-Some.ensures) c.fields_of.ensures

pub returns-in-None : goal.returns-in-None
returns-in-None c = inr (refl, sym (given_none _ c.in-None.ensures))

-- No step of a part changes what that is of.
use Rattle.std.proofs.Common.{◌≡◌, ◌⊎◌, inl, inr, ⊎_elim, List, [], ◌∷◌, Ok, ap}
use Rattle.fs_trait.specs.declared.task.StepResult.{StepResult}
use Rattle.fs_trait.specs.declared.task.StepResult.TheVariants.{More, Done}
use Rattle.ost_types.specs.Path.{Name}
use Rattle.deploy_clean.specs.declared.phase.Phase as cleaning
use Rattle.deploy_clean.specs.declared.phase.Phase.TheVariants.{Begin, Open, See, Remove, Ended}
use Rattle.deploy_clean.specs.Cleaning as clean
use Rattle.deploy_clean.specs.Cleaning.{Cleaning}
use Rattle.tree_scan.specs.Scanning as scan
use Rattle.tree_scan.specs.Scanning.{Scanning}
use Rattle.boot_swap.specs.Swap as swap
use Rattle.boot_swap.specs.Swap.{Swapping}

listed_is : (t u : Cleaning) → t ≡ u → t.listed ≡ u.listed
listed_is t u is = ap (λ (c : Cleaning). c.listed) is

opens_same : (names : List Name) (old new : Cleaning) (turn : StepResult (Unit {0})) → clean.opens_in names old turn new → new.listed ≡ old.listed
opens_same [] old new turn s = listed_is new (clean.in_phase Ended old) s.1
opens_same (x ∷ rest) old new turn s = ⊎_elim (λ passed. ap (λ (c : Cleaning). c.listed) passed.1) (λ opened. ap (λ (c : Cleaning). c.listed) opened.1.1) s.1

clean_in : (ph : cleaning.Phase) (old new : Cleaning) (turn : StepResult (Unit {0})) → clean.steps_in ph old turn new → new.listed ≡ old.listed
clean_in Begin old new turn s = ap (λ (c : Cleaning). c.listed) s.1.1
clean_in Open old new turn s = opens_same old.stateroots old new turn s
clean_in (See o) old new turn s = sees o.names s.1
  where
    sees : (names : List Name) → clean.sees_in names o old new → new.listed ≡ old.listed
    sees [] is = ap (λ (c : Cleaning). c.listed) is
    sees (x ∷ rest) is = ⊎_elim (λ passed. ap (λ (c : Cleaning). c.listed) passed.1) (λ removed. ap (λ (c : Cleaning). c.listed) removed.1) is
clean_in (Remove o c) old new turn s = ap (λ (c : Cleaning). c.listed) s.1.2
clean_in Ended old new turn s = ap (λ (c : Cleaning). c.listed) s.1

pub clean_same : (old new : Cleaning) (turn : StepResult (Unit {0})) → clean.IsStepped old (Ok turn) new → new.listed ≡ old.listed
clean_same old new turn s = clean_in old.phase old new turn s

-- one that is read is at its path, with its limits
pub record IsSameScan (old new : Scanning) : Type 0 where
  pub at : new.at ≡ old.at
  pub limits : new.limits ≡ old.limits

pub scan_same : (old new : Scanning) → scan.Follows old new → IsSameScan old new
scan_same old new (inl passed) = record { at = ap (λ (s : Scanning). s.at) passed; limits = ap (λ (s : Scanning). s.limits) passed }
scan_same old new (inr taken) = record { at = ap (λ (s : Scanning). s.at) taken.3; limits = ap (λ (s : Scanning). s.limits) taken.3 }

pub swap_same : (old new : Swapping) (turn : StepResult (Unit {0})) → swap.IsStepped old (Ok turn) new → new.items ≡ old.items
swap_same old new More s = s.0
swap_same old new (Done x) s = s.0

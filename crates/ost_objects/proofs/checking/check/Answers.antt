use Rattle.ost_objects.proofs.checking.check.Goals as goal

pub invariant_of-result-clause-formed : goal.invariant_of-result-clause-formed
invariant_of-result-clause-formed c = ∣ rw c.as_slice-2.ensures at c.in-Ok.ensures ∣₁

use Rattle.std.proofs.Common.{◌∙◌, ap, subst, sym}
use Rattle.file_copy.specs.Comparing.{Comparing, IsWithin, needs_in}
use Rattle.file_copy.proofs.comparing.FileCompare.step.Goals as goal

pub compare-requires-clause-needs : goal.compare-requires-clause-needs
compare-requires-clause-needs g c = λ v told.
    subst (λ ph. needs_in ph c.args.self.now v.now) (sym (ap (λ (t : Comparing). t.phase) c.self.view_is) ∙ c.in-Compare.is) (c.requires v told)

pub compare-requires-clause-within : goal.compare-requires-clause-within
compare-requires-clause-within g c = (subst IsWithin c.in-Compare.is c.self.invariant).0

pub returns-in-Ended-clause-answer : goal.returns-in-Ended-clause-answer
returns-in-Ended-clause-answer g c = λ v told.
    subst (λ ph. needs_in ph c.args.self.now v.now) (sym (ap (λ (t : Comparing). t.phase) c.self.view_is) ∙ c.in-Ended.is) (c.requires v told)

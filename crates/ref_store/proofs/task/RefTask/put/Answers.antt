use Rattle.std.proofs.Common.{sym, subst}
use Rattle.std.proofs.lemmas.Result.{err_from_is_err_and}
use Rattle.ref_store.specs.declared.phase.Phase.TheVariants as phase
use Rattle.ref_store.specs.Steps.{Needs}
use Rattle.ref_store.proofs.StepLemmas.{meets_in, written_as, told_both}
use Rattle.ref_store.proofs.PutLemmas.{put_fails, put_more, put_done}
use Rattle.ref_store.proofs.task.RefTask.put.Goals as goal

pub step-requires : goal.step-requires
step-requires g c = λ v told.
    let needs = subst (λ t. Needs t v) (sym c.self.view_is) (c.requires.needs v told) in
    (meets_in _ v needs (phase.Put c.in-Put.file) c.in-Put.is).0

pub returns-in_err-step-clause-fails : goal.returns-in_err-step-clause-fails
returns-in_err-step-clause-fails g c = λ v told.
    let needs = subst (λ t. Needs t v) (sym c.self.view_is) (c.requires.needs v told) in
    let error = err_from_is_err_and c.from_residual.result c.from_residual.ensures.1 in
    rw (error.1, error.2) (put_fails _ _ c.self.view_is v needs c.in-Put.file c.in-Put.is _ (c.in_err-step.ensures.fails v told))

pub returns-in-More-clause-after : goal.returns-in-More-clause-after
returns-in-More-clause-after g c = λ v told.
    let needs = subst (λ t. Needs t v) (sym c.self.view_is) (c.requires.needs v told) in
    let stepped = rw (c.in_ok-step.was, c.in-More.is) at c.step.ensures.stepped in
    told_both _ _ _ _ (put_more _ v needs c.in-Put.file c.in-Put.is c.step.new.self stepped) (c.step.ensures.writes v told) (c.in_ok-step.ensures.after v told)

pub returns-in-Done-clause-writes : goal.returns-in-Done-clause-writes
returns-in-Done-clause-writes g c = λ v told. written_as _ _ c.self.view_is (phase.Put c.in-Put.file) c.in-Put.is v _ (c.step.ensures.writes v told)

pub returns-in-Done-clause-after : goal.returns-in-Done-clause-after
returns-in-Done-clause-after g c = λ v told.
    let needs = subst (λ t. Needs t v) (sym c.self.view_is) (c.requires.needs v told) in
    let stepped = rw (c.in_ok-step.was, c.in-Done.is) at c.step.ensures.stepped in
    let after = c.in_ok-step.ensures.after v told in
    (after.0, after.1, put_done _ v needs c.in-Put.file c.in-Put.is c.step.new.self c.in-Done.field-0 stepped after.0 after.2)

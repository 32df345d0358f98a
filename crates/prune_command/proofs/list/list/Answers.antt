use Rattle.std.proofs.Common.{List, Ok, sym, ◌∙◌, ap, subst, arith}
use Rattle.ost_types.specs.declared.object.ObjName.{ObjName}
use Rattle.fs_trait.specs.declared.task.StepResult.{StepResult}
use Rattle.prune_sweep.specs.Listing.{IsListed}
use Rattle.store_check.specs.Listing.{AreAll}
use Rattle.store_check.proofs.Gathering.{all_names}
use Rattle.prune_command.proofs.list.list.Goals as goal

pub returns-in_ok-marked-in-Done-clause-told : goal.returns-in_ok-marked-in-Done-clause-told
returns-in_ok-marked-in-Done-clause-told g c = λ v told below.
    let s = c.in_ok-step.ensures in
    let listed = subst (λ (u : StepResult (Unit {0})). IsListed c.args.listing.now (Ok u) c.step.new.self) c.in-Done.is s.listed in
    let first = ap (λ l. l.first) listed.0 ∙ listed.1 in
    let all = all_names v.now c.step.new.self.first c.step.new.self.names (omega (arith, first)) (s.told v told below) in
    c.in_ok-marked-in-Done.ensures.begun v.now (subst (λ (l : List ObjName). AreAll v.now l) (sym (c.into_names-names.ensures ∙ ap (λ l. l.names) c.replace.ensures.value)) all)

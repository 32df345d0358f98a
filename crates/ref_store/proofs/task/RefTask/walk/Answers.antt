use Rattle.std.proofs.Common.{rules, ◌≡◌, Ok, None, arith, sym, ◌∙◌, ap, subst}
use Rattle.fs_trait.specs.declared.task.StepResult.TheVariants.{Done}
use Rattle.ref_store.specs.declared.phase.Phase.TheVariants as phase
use Rattle.ref_store.specs.Steps.{Needs}
use Rattle.ref_store.proofs.StepLemmas.{meets_in, told_both, written_as}
use Rattle.ref_store.proofs.RoomLemmas.{walk_kept, walk_over, way_name, way_ends, way_idle, view_stands}
use Rattle.ref_store.proofs.task.RefTask.walk.Goals as goal

pub step-requires : goal.step-requires
step-requires g c = λ v told.
    let needs = subst (λ t. Needs t v) (sym c.self.view_is) (c.requires.needs v told) in
    (meets_in _ v needs (phase.Walk c.in-Walk.way) c.in-Walk.is).1

pub returns-in-More-clause-after : goal.returns-in-More-clause-after
returns-in-More-clause-after g c = λ v told.
    let needs = subst (λ t. Needs t v) (sym c.self.view_is) (c.requires.needs v told) in
    told_both _ _ _ _ (walk_kept _ v needs c.in-Walk.way c.in-Walk.is c.step.new.self (way_name c.in-Walk.way _ c.step.new.self c.step.ensures.stepped)) (c.step.ensures.writes v told) (c.in_ok-step.ensures.after v told)

pub returns-in-Done-Some-clause-after : goal.returns-in-Done-Some-clause-after
returns-in-Done-Some-clause-after g c = λ v told.
    let needs = subst (λ t. Needs t v) (sym c.self.view_is) (c.requires.needs v told) in
    told_both _ _ _ _ (walk_kept _ v needs c.in-Walk.way c.in-Walk.is c.step.new.self (way_name c.in-Walk.way _ c.step.new.self c.step.ensures.stepped)) (c.step.ensures.writes v told) (c.in_ok-step.ensures.after v told)

pub returns-then-not-was_over-clause-after : goal.returns-then-not-was_over-clause-after
returns-then-not-was_over-clause-after g c = λ v told.
    let needs = subst (λ t. Needs t v) (sym c.self.view_is) (c.requires.needs v told) in
    told_both _ _ _ _ (walk_kept _ v needs c.in-Walk.way c.in-Walk.is c.step.new.self (way_name c.in-Walk.way _ c.step.new.self c.step.ensures.stepped)) (c.step.ensures.writes v told) (c.in_ok-step.ensures.after v told)

pub returns-in_ok-new_file-in-Done-None-clause-after : goal.returns-in_ok-new_file-in-Done-None-clause-after
returns-in_ok-new_file-in-Done-None-clause-after g c = λ v told.
    let needs = subst (λ t. Needs t v) (sym c.self.view_is) (c.requires.needs v told) in
    let is : c.step.result ≡ Ok (Done None) = c.in_ok-step.was ∙ ap Ok (c.in-Done-None.is ∙ ap Done c.in-Done-None.field-0-is) in
    told_both _ _ _ _
    (walk_over _ v needs c.in-Walk.way c.in-Walk.is c.step.new.self (way_name c.in-Walk.way _ c.step.new.self c.step.ensures.stepped) (way_ends c.in-Walk.way c.step.new.self _ is c.step.ensures.stepped) c.in_ok-new_file-in-Done-None.field-0 c.in_ok-new_file-in-Done-None.ensures)
    (c.step.ensures.writes v told) (c.in_ok-step.ensures.after v told)

pub returns-in_ok-new_file-in-Done-None-clause-writes : goal.returns-in_ok-new_file-in-Done-None-clause-writes
returns-in_ok-new_file-in-Done-None-clause-writes g c = λ v told. written_as _ _ c.self.view_is (phase.Walk c.in-Walk.way) c.in-Walk.is v _ (c.step.ensures.writes v told)

pub returns-in_err-new_file-in-Done-None-clause-unchanged : goal.returns-in_err-new_file-in-Done-None-clause-unchanged
returns-in_err-new_file-in-Done-None-clause-unchanged g c = λ v told memory.
    view_stands _ _ _ _ _ v c.step.ensures.time (way_idle c.in-Walk.way _ _ (search rules) c.in_ok-step.ensures.ticks) (g.met.F.Fs.counts_now c.args.fs.now _ v (omega arith) told) (λ w was. g.met.F.Fs.only_now c.step.new.fs _ w (omega arith) was)

use Rattle.std.proofs.Common.{◌≡◌, Ok, None, arith, sym, ◌∙◌, ap, subst}
use Rattle.fs_trait.specs.declared.task.StepResult.TheVariants.{Done}
use Rattle.ref_room.specs.Way as way
use Rattle.ref_store.specs.declared.phase.Phase.TheVariants as phase
use Rattle.ref_store.specs.Steps.{Needs}
use Rattle.ref_store.proofs.StepLemmas.{meets_in, told_both, written_as}
use Rattle.ref_store.proofs.RoomLemmas.{clear_kept, clear_over, clear_name, clear_told, clear_ends, clear_idle, view_stands}
use Rattle.ref_store.proofs.FallLemmas.{clear_falls}
use Rattle.ref_store.proofs.task.RefTask.clear.Goals as goal

pub step-requires : goal.step-requires
step-requires g c = λ v told.
    let needs = subst (λ t. Needs t v) (sym c.self.view_is) (c.requires.needs v told) in
    (meets_in _ v needs (phase.Clear c.in-Clear.clearing) c.in-Clear.is).1

pub returns-in_err-copy-in-Done-None-clause-writes : goal.returns-in_err-copy-in-Done-None-clause-writes
returns-in_err-copy-in-Done-None-clause-writes g c = λ v told. written_as _ _ c.self.view_is (phase.Clear c.in-Clear.clearing) c.in-Clear.is v _ (c.step.ensures.writes v told)

pub returns-in_err-new-in-Done-None-clause-writes : goal.returns-in_err-new-in-Done-None-clause-writes
returns-in_err-new-in-Done-None-clause-writes g c = λ v told. written_as _ _ c.self.view_is (phase.Clear c.in-Clear.clearing) c.in-Clear.is v _ (c.step.ensures.writes v told)

pub returns-in-More-clause-writes : goal.returns-in-More-clause-writes
returns-in-More-clause-writes g c = λ v told. written_as _ _ c.self.view_is (phase.Clear c.in-Clear.clearing) c.in-Clear.is v _ (c.step.ensures.writes v told)

pub returns-in-Done-Some-clause-writes : goal.returns-in-Done-Some-clause-writes
returns-in-Done-Some-clause-writes g c = λ v told. written_as _ _ c.self.view_is (phase.Clear c.in-Clear.clearing) c.in-Clear.is v _ (c.step.ensures.writes v told)

pub returns-in-More-clause-after : goal.returns-in-More-clause-after
returns-in-More-clause-after g c = λ v told.
    let needs = subst (λ t. Needs t v) (sym c.self.view_is) (c.requires.needs v told) in
    told_both _ _ _ _ (clear_kept _ v needs c.in-Clear.clearing c.in-Clear.is c.step.new.self (clear_name _ _ _ c.step.ensures.stepped)) (c.step.ensures.writes v told) (c.in_ok-step.ensures.after v told)

pub returns-in-Done-Some-clause-after : goal.returns-in-Done-Some-clause-after
returns-in-Done-Some-clause-after g c = λ v told.
    let needs = subst (λ t. Needs t v) (sym c.self.view_is) (c.requires.needs v told) in
    told_both _ _ _ _ (clear_kept _ v needs c.in-Clear.clearing c.in-Clear.is c.step.new.self (clear_name _ _ _ c.step.ensures.stepped)) (c.step.ensures.writes v told) (c.in_ok-step.ensures.after v told)

pub returns-in_ok-new-in-Done-None-clause-writes : goal.returns-in_ok-new-in-Done-None-clause-writes
returns-in_ok-new-in-Done-None-clause-writes g c = λ v told. written_as _ _ c.self.view_is (phase.Clear c.in-Clear.clearing) c.in-Clear.is v _ (c.step.ensures.writes v told)

pub returns-in_ok-new-in-Done-None-clause-after : goal.returns-in_ok-new-in-Done-None-clause-after
returns-in_ok-new-in-Done-None-clause-after g c = λ v told.
    let needs = subst (λ t. Needs t v) (sym c.self.view_is) (c.requires.needs v told) in
    let is : c.step.result ≡ Ok (Done None) = c.in_ok-step.was ∙ ap Ok (c.in-Done-None.is ∙ ap Done c.in-Done-None.field-0-is) in
    let w = c.step.ensures.writes v told in
    let x = c.in_ok-new-in-Done-None.ensures ∙ ap way.begun c.in_ok-copy-in-Done-None.ensures in
    (w.0, w.1, clear_over _ v needs c.in-Clear.clearing c.in-Clear.is _ x (clear_told c.in-Clear.clearing v _ is (c.step.ensures.tells v told)) (clear_ends c.in-Clear.clearing c.step.new.self _ is c.step.ensures.stepped) w.0 w.2)

pub returns-in_ok-new-in-Done-None-clause-falls : goal.returns-in_ok-new-in-Done-None-clause-falls
returns-in_ok-new-in-Done-None-clause-falls g c =
    let is : c.step.result ≡ Ok (Done None) = c.in_ok-step.was ∙ ap Ok (c.in-Done-None.is ∙ ap Done c.in-Done-None.field-0-is) in
    let x = c.in_ok-new-in-Done-None.ensures ∙ ap way.begun c.in_ok-copy-in-Done-None.ensures in
    clear_falls _ _ c.self.view_is c.in-Clear.clearing c.in-Clear.is c.in_ok-new-in-Done-None.field-0 x (clear_ends c.in-Clear.clearing c.step.new.self _ is c.step.ensures.stepped)

pub returns-in_err-copy-in-Done-None-clause-unchanged : goal.returns-in_err-copy-in-Done-None-clause-unchanged
returns-in_err-copy-in-Done-None-clause-unchanged g c = λ v told memory.
    let is : c.step.result ≡ Ok (Done None) = c.in_ok-step.was ∙ ap Ok (c.in-Done-None.is ∙ ap Done c.in-Done-None.field-0-is) in
    let ends = clear_ends c.in-Clear.clearing c.step.new.self _ is c.step.ensures.stepped in
    view_stands _ _ _ _ _ v c.step.ensures.time (clear_idle c.in-Clear.clearing _ _ ends c.in_ok-step.ensures.ticks) (g.met.F.Fs.counts_now c.args.fs.now _ v (omega arith) told) (λ w was. g.met.F.Fs.only_now c.step.new.fs _ w (omega arith) was)

pub returns-in_err-new-in-Done-None-clause-unchanged : goal.returns-in_err-new-in-Done-None-clause-unchanged
returns-in_err-new-in-Done-None-clause-unchanged g c = λ v told memory.
    let is : c.step.result ≡ Ok (Done None) = c.in_ok-step.was ∙ ap Ok (c.in-Done-None.is ∙ ap Done c.in-Done-None.field-0-is) in
    let ends = clear_ends c.in-Clear.clearing c.step.new.self _ is c.step.ensures.stepped in
    view_stands _ _ _ _ _ v c.step.ensures.time (clear_idle c.in-Clear.clearing _ _ ends c.in_ok-step.ensures.ticks) (g.met.F.Fs.counts_now c.args.fs.now _ v (omega arith) told) (λ w was. g.met.F.Fs.only_now c.step.new.fs _ w (omega arith) was)

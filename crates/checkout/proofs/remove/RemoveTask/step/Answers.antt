use Rattle.std.proofs.Common.{arith, sym, ◌∙◌, ap}
use Rattle.checkout.specs.Remove.{Removing}
use Rattle.checkout.proofs.RemoveLooking.{act_look, act_name, act_close}
use Rattle.checkout.proofs.remove.RemoveTask.step.Goals as goal

pub look-requires-clause-act : goal.look-requires-clause-act
look-requires-clause-act g c = act_look c.args.self.now (sym (ap (λ (t : Removing). t.phase) c.self.view_is) ∙ c.in-Look.is)

pub look-requires-then-count-gt0-clause-act : goal.look-requires-then-count-gt0-clause-act
look-requires-then-count-gt0-clause-act g c =
    act_name c.args.self.now c.in-Inside.folder (sym (ap (λ (t : Removing). t.phase) c.self.view_is) ∙ c.in-Inside.is) (omega (arith, c.count.ensures, c.if-count-gt0.true))

pub close-requires-clause-act : goal.close-requires-clause-act
close-requires-clause-act g c =
    act_close c.args.self.now c.in-Inside.folder (sym (ap (λ (t : Removing). t.phase) c.self.view_is) ∙ c.in-Inside.is) (λ some. omega (arith, c.count.ensures, c.if-count-gt0.false, some))

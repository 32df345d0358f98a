use Rattle.std.proofs.Common.{sym, ◌∙◌, subst}
use Rattle.std.specs.Prelude.{◌≡◌}
use Rattle.fs_trait.specs.Seen.{Vacant, shows}
use Rattle.checkout.specs.CheckoutWork.{Checkout, IsMade}
use Rattle.checkout.proofs.CheckoutAnswering.{looked_none, ready_first, first_writes}
use Rattle.checkout.proofs.checkout.CheckoutTask.begin.Goals as goal

pub make-requires-clause-ready : goal.make-requires-clause-ready
make-requires-clause-ready g c = λ v told.
    let before = sym c.in_ok-stat.ensures.quiet.view ∙ told in
    let vacant = looked_none v.now _ _ (c.in_ok-stat.ensures.answer v before).1 (sym c.if-is_some.ensures) in
    ready_first c.args.self.now v.now (g.met.F.Fs.tree c.args.fs.now v before) c.requires.phase (c.requires.needs v before) (subst (λ (t : Checkout). shows v.now t.into ≡ Vacant) c.self.view_is vacant)

pub returns-clause-writes : goal.returns-clause-writes
returns-clause-writes g c = λ v told.
    let still = c.in_ok-stat.ensures.quiet.view ∙ told in
    first_writes c.args.self.now v c.requires.phase (subst IsMade c.self.view_is c.self.invariant) _ (c.make.ensures.writes v still)

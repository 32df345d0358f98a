use Rattle.std.proofs.lemmas.Result.{err_from_is_err_and}
use Rattle.checkout.proofs.CheckoutAnswering.{step_at, ok_writes, ok_after, err_writes, err_fails}
use Rattle.checkout.proofs.checkout.CheckoutTask.make.Goals as goal

pub returns-in_err-make_node-clause-writes : goal.returns-in_err-make_node-clause-writes
returns-in_err-make_node-clause-writes g c = λ v told.
    err_writes c.args.number c.args.self.now v _ _ (step_at c.args.number _ _ c.self.view_is v (g.met.F.Fs.tree c.args.fs.now v told) c.self.invariant (c.requires.ready v told) c.requires.inside _ c.as_slice.ensures.value c.index-as_slice-number.result c.index-as_slice-number.is _ c.in_ok-at.ensures) _ _ (c.in_err-make_node.ensures.effect v told)

pub returns-in_err-make_node-clause-fails : goal.returns-in_err-make_node-clause-fails
returns-in_err-make_node-clause-fails g c = λ v told.
    let error = err_from_is_err_and c.from_residual-in_err-make_node.result c.from_residual-in_err-make_node.ensures.1 in
    rw (error.1, error.2) (err_fails c.args.number c.args.self.now v _ _ (step_at c.args.number _ _ c.self.view_is v (g.met.F.Fs.tree c.args.fs.now v told) c.self.invariant (c.requires.ready v told) c.requires.inside _ c.as_slice.ensures.value c.index-as_slice-number.result c.index-as_slice-number.is _ c.in_ok-at.ensures) _ _ (c.in_err-make_node.ensures.effect v told))

pub returns-clause-writes : goal.returns-clause-writes
returns-clause-writes g c = λ v told.
    ok_writes c.args.number c.args.self.now v _ _ (step_at c.args.number _ _ c.self.view_is v (g.met.F.Fs.tree c.args.fs.now v told) c.self.invariant (c.requires.ready v told) c.requires.inside _ c.as_slice.ensures.value c.index-as_slice-number.result c.index-as_slice-number.is _ c.in_ok-at.ensures) _ (c.in_ok-make_node.ensures.effect v told)

pub returns-clause-after : goal.returns-clause-after
returns-clause-after g c = λ v told.
    ok_after c.args.number c.args.self.now v _ _ (step_at c.args.number _ _ c.self.view_is v (g.met.F.Fs.tree c.args.fs.now v told) c.self.invariant (c.requires.ready v told) c.requires.inside _ c.as_slice.ensures.value c.index-as_slice-number.result c.index-as_slice-number.is _ c.in_ok-at.ensures) _ c.reached.ensures.next _ (c.in_ok-make_node.ensures.effect v told)

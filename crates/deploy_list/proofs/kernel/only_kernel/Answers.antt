use Rattle.std.proofs.Common.{◌+◌, sym, ◌∙◌, subst}
use Rattle.std.proofs.lemmas.Result.{err_from_is_err_and}
use Rattle.std.specs.Option.{option_copied}
use Rattle.deploy_list.specs.Kernels.{IsNotOne, as_list, kernels_of}
use Rattle.deploy_list.proofs.Versions.{kernels_more, several}
use Rattle.deploy_list.proofs.kernel.only_kernel.Goals as goal

pub loop-node-preserved : goal.loop-node-preserved
loop-node-preserved c =
    kernels_more c.args.nodes.now c.loop-node.node-index c.node-item.result (as_list (option_copied c.loop-node.found)) c.loop-node-test.true c.node-item.is c.loop-node.invariant ∙ sym c.in_ok-found.ensures.ok

pub returns-in_err-found : goal.returns-in_err-found
returns-in_err-found c =
    let p = err_from_is_err_and c.from_residual.result c.from_residual.ensures.1 in
    let told = c.in_err-found.ensures.err in
    let more = kernels_more c.args.nodes.now c.loop-node.node-index c.node-item.result (as_list (option_copied c.loop-node.found)) c.loop-node-test.true c.node-item.is c.loop-node.invariant in
    let says = subst (IsNotOne (kernels_of c.args.nodes.now)) (sym told.0) (several c.args.nodes.now (c.loop-node.node-index + 1) _ more told.1) in
    rw (p.1, p.2) says

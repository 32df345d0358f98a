use Rattle.std.proofs.Common.{◌≡◌, Some, rules}
use Rattle.gv_core.specs.Tree.{view}
use Rattle.gv_core.specs.Layout.{normal_form}
use Rattle.gv_core.proofs.Inverse.{one_value}
use Rattle.gv_core.proofs.codec.encode.Goals as goal

pub returns-clause-own : goal.returns-clause-own
returns-clause-own c = λ v e.
    let form : normal_form c.args.kind.now (view c.args.value.now) ≡ Some c.new.result = search rules in
    one_value c.args.kind.now c.node.result.now v (view c.args.value.now) c.new.result c.node.ensures e form

-- A child of a node has less weight than the node.
use Rattle.std.specs.Prelude.{◌≤◌, max}
use Rattle.std.proofs.Common.{arith}
use Rattle.gv_core.specs.declared.kind.Shape.{Shape}
use Rattle.gv_core.specs.declared.kind.Shape.TheVariants.{Basic as Plain, Variant, Array, Maybe, Tuple, Entry}
use Rattle.gv_core.specs.declared.kind.Node.TheDeep.{deep-Shape}
use Rattle.gv_core.specs.Node.{seen, weight, most_le-weights}

pub depth_le-weight : (s : Shape) → max (deep-Shape s) 0 ≤ weight (seen s)
depth_le-weight (Plain x) = omega arith
depth_le-weight Variant = omega arith
depth_le-weight (Array k) = omega arith
depth_le-weight (Maybe k) = omega arith
depth_le-weight (Tuple ks) = omega (arith, most_le-weights ks.items)
depth_le-weight (Entry x k) = omega arith

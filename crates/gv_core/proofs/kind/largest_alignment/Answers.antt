use Rattle.std.proofs.Common.{arith}
use Rattle.gv_core.specs.Node.{kinds_of}
use Rattle.gv_core.proofs.Alignments.{smalls}
use Rattle.gv_core.proofs.kind.largest_alignment.Goals as goal

pub loop-member-init : goal.loop-member-init
loop-member-init c = let p = (smalls (kinds_of c.args.members.now)).positive in record { value = omega arith; positive = omega arith; small = omega arith }

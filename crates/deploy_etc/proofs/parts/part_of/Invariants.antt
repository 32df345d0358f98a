use Rattle.deploy_etc.proofs.Cuts.{IsCut}
use Rattle.deploy_etc.proofs.parts.part_of.Given as goal

-- the nodes so far
abbrev pub invariant-loop-path : goal.invariant-loop-path
invariant-loop-path l = IsCut l.at l.nodes l.path-index l.part

use Rattle.script_reader.proofs.Values.{gives_some, gives_none}
use Rattle.script_reader.proofs.Hex.{pairs_step, pairs_none}
use Rattle.std.proofs.Common.{sym, subst, map, take, ◌+◌}
use Rattle.script_reader.specs.Values.{ArePairs}
use Rattle.script_reader.proofs.xattrs.each_pair.Goals as goal

pub returns-in-None : goal.returns-in-None
returns-in-None c = pairs_none (λ p. p.now) c.args.pairs.now c.loop-pair.pair-index _ c.loop-pair-test.true (gives_none _ _ c.in_ok-xattr.ensures c.in-None.is)

pub loop-pair-preserved : goal.loop-pair-preserved
loop-pair-preserved c =
    subst (ArePairs (map (λ p. p.now) (take (c.loop-pair.pair-index + 1) c.args.pairs.now))) (sym c.in_ok-push-in-Some.ensures.ok)
    (pairs_step (λ p. p.now) c.args.pairs.now c.loop-pair.pair-index _ c.loop-pair.xattrs c.in-Some.xattr c.loop-pair-test.true c.loop-pair.invariant (gives_some _ _ _ c.in_ok-xattr.ensures c.in-Some.is))

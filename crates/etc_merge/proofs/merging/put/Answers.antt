use Rattle.std.proofs.Common.{sym, subst, ◌++◌, ◌∷◌, []}
use Rattle.ost_types.specs.PathMap.{IsAscending, paths_of}
use Rattle.etc_merge.proofs.Finds.{ascending_before}
use Rattle.etc_merge.proofs.merging.put.Goals as goal

pub push-requires-clause-fits : goal.push-requires-clause-fits
push-requires-clause-fits c =
    subst (λ p. IsAscending (paths_of c.args.merged.now ++ p ∷ [])) (sym c.in_ok-copy-in-Some.ensures) (ascending_before c.args.merged.now c.args.path.now c.requires.sorted c.requires.before)

use Rattle.std.proofs.Common.{subst}
use Rattle.ost_types.specs.Path.{IsPath}
use Rattle.deploy_etc.proofs.Cuts.{back_bounds, stripped}
use Rattle.deploy_etc.proofs.parts.names_below.Goals as goal

pub returns-clause-below : goal.returns-clause-below
returns-clause-below c = stripped c.strip_prefix.result (λ x. x.now) c.args.at.now c.args.path.now _ _ c.names-2.ensures.value c.names.ensures.value c.strip_prefix.ensures.cases

pub returns-clause-bounds : goal.returns-clause-bounds
returns-clause-bounds c = back_bounds c.strip_prefix.result (λ x. x.now) c.args.at.now c.args.path.now (subst IsPath c.names.ensures.value c.names.ensures.path) (returns-clause-below c)

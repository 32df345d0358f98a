use Rattle.std.proofs.Common.{◌++◌, ◌∷◌, [], sym, ◌∙◌, ap, subst}
use Rattle.ost_types.specs.PathMap.{IsAscending, paths_of}
use Rattle.deploy_etc.proofs.Cuts.{IsCut, cut_all, cut_few, cut_fits, cut_more, cut_stops}
use Rattle.deploy_etc.proofs.parts.part_of.Goals as goal

-- none of the nodes that are left lies below the path
pub returns-in_default-clause-part : goal.returns-in_default-clause-part
returns-in_default-clause-part c =
    cut_stops c.args.tree.now c.args.at.now c.from_path-nodes.result.now c.loop-path.path-index c.loop-path.part c.from_path-nodes.ensures.from c.from_path-nodes.ensures.map.ascending c.loop-path.invariant
    c.loop-path-item.result c.loop-path-test.true c.loop-path-item.is c.in_default.ensures.below

pub push-requires-clause-fits : goal.push-requires-clause-fits
push-requires-clause-fits c =
    subst (λ p. IsAscending (paths_of c.loop-path.part ++ p ∷ [])) (sym c.in_ok-path_of.ensures)
    (cut_fits c.args.at.now c.from_path-nodes.result.now c.loop-path.path-index c.loop-path.part c.loop-path.invariant c.loop-path-item.result c.loop-path-test.true c.loop-path-item.is
    c.in-Some.names.now c.in-Some.ensures.below c.from_path-nodes.ensures.map.ascending)

pub loop-path-preserved : goal.loop-path-preserved
loop-path-preserved c =
    let pair = ap (λ p. (p, c.in_ok-copy.field-0)) c.in_ok-path_of.ensures ∙ ap (λ n. (c.in-Some.names.now, n)) c.in_ok-copy.ensures in
    subst (IsCut c.args.at.now c.from_path-nodes.result.now _) (sym (c.in_ok-push.ensures.ok ∙ ap (λ e. c.loop-path.part ++ e ∷ []) pair))
    (cut_more c.args.at.now c.from_path-nodes.result.now c.loop-path.path-index c.loop-path.part c.loop-path.invariant c.loop-path-item.result c.loop-path-test.true c.loop-path-item.is
    c.in-Some.names.now c.in-Some.ensures.below)

pub returns-in_default-clause-few : goal.returns-in_default-clause-few
returns-in_default-clause-few c = cut_few c.args.tree.now c.args.at.now c.from_path-nodes.result.now c.loop-path.path-index c.loop-path.part c.from_path-nodes.ensures.from c.loop-path.invariant

pub returns-clause-few : goal.returns-clause-few
returns-clause-few c = cut_few c.args.tree.now c.args.at.now c.from_path-nodes.result.now c.loop-path.path-index c.loop-path.part c.from_path-nodes.ensures.from c.loop-path.invariant

pub returns-clause-part : goal.returns-clause-part
returns-clause-part c =
    cut_all c.args.tree.now c.args.at.now c.from_path-nodes.result.now c.loop-path.path-index c.loop-path.part c.from_path-nodes.ensures.from c.loop-path.invariant c.loop-path-test.false

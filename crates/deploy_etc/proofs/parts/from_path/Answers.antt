use Rattle.std.proofs.Common.{rules, sym, subst, length, arith}
use Rattle.std.specs.List.{between}
use Rattle.std.specs.Ordering.{is_lt}
use Rattle.std.proofs.lemmas.Fn.{always_returns_same}
use Rattle.std.proofs.lemmas.Slice.{between_to_end}
use Rattle.ost_types.specs.Path.{path_cmp}
use Rattle.ost_types.specs.PathMap.{IsPathMap}
use Rattle.etc_merge.specs.Entries.{IsFrom}
use Rattle.deploy_etc.proofs.Starts.{from_start, map_from, partitioned}
use Rattle.deploy_etc.proofs.parts.from_path.Goals as goal

pub returns-clause-from : goal.returns-clause-from
returns-clause-from c =
    let nodes = c.as_slice-nodes.result.now in
    let start = c.partition_point-start.result in
    let parts = c.partition_point-start.ensures.partitioned (λ e. is_lt (path_cmp e.0 c.args.at.now)) (always_returns_same _ _ _ (λ a r f called. (search rules, search rules))) (partitioned nodes c.args.at.now c.as_slice-nodes.ensures.map.ascending) in
    subst (λ m. IsFrom m c.args.at.now (between start (length nodes) nodes)) c.as_slice-nodes.ensures.value
    (subst (IsFrom nodes c.args.at.now) (sym (between_to_end nodes start (length nodes) (omega arith))) (from_start nodes c.args.at.now start parts))

pub returns-clause-map : goal.returns-clause-map
returns-clause-map c =
    let nodes = c.as_slice-nodes.result.now in
    let start = c.partition_point-start.result in
    subst IsPathMap (sym (between_to_end nodes start (length nodes) (omega arith))) (map_from nodes start c.as_slice-nodes.ensures.map)

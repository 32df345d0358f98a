use Rattle.std.proofs.Common.{◌≡◌, sym, subst}
use Rattle.std.specs.Option.{option_copied}
use Rattle.ost_types.specs.PathMap.{IsAscending, IsPathMap, paths_of}
use Rattle.etc_merge.proofs.Finds.{from_ascending, taken_ascending}
use Rattle.etc_merge.proofs.Fronts.{passed_ascending}
use Rattle.etc_merge.proofs.Merges.{IsLeft, merging_more, merging_node, merging_over, p_before}
use Rattle.etc_merge.proofs.merging.merged.Goals as goal

pub next_of-requires-clause-current : goal.next_of-requires-clause-current
next_of-requires-clause-current c =
    let asc = subst (λ m. IsAscending (paths_of m)) c.as_slice-current_left.ensures.value c.as_slice-current_left.ensures.map.ascending in
    passed_ascending c.args.current.now c.loop-next.current_left.now (IsLeft c.loop-next.current_left.now c.loop-next.new_left.now) c.loop-next.invariant.currents asc

pub next_of-requires-clause-new : goal.next_of-requires-clause-new
next_of-requires-clause-new c =
    let asc = subst (λ m. IsAscending (paths_of m)) c.as_slice-new_left.ensures.value c.as_slice-new_left.ensures.map.ascending in
    passed_ascending c.args.new.now c.loop-next.new_left.now (IsLeft c.loop-next.current_left.now c.loop-next.new_left.now) c.loop-next.invariant.news asc

pub step_at-step-requires-clause-base : goal.step_at-step-requires-clause-base
step_at-step-requires-clause-base c =
    let asc = subst (λ m. IsAscending (paths_of m)) c.as_slice-before.ensures.value c.as_slice-before.ensures.map.ascending in
    let left = passed_ascending c.args.base.now c.loop-next.before.now (IsLeft c.loop-next.current_left.now c.loop-next.new_left.now) c.loop-next.invariant.bases asc in
    from_ascending c.loop-next.before.now c.in-Some.next.path.now c.from_path-before.result.now c.from_path-before.ensures left

pub step_at-step-requires-clause-current : goal.step_at-step-requires-clause-current
step_at-step-requires-clause-current c =
    let asc = subst (λ m. IsAscending (paths_of m)) c.as_slice-current_left.ensures.value c.as_slice-current_left.ensures.map.ascending in
    let left = passed_ascending c.args.current.now c.loop-next.current_left.now (IsLeft c.loop-next.current_left.now c.loop-next.new_left.now) c.loop-next.invariant.currents asc in
    taken_ascending c.in-Some.next.path.now (option_copied c.in-Some.next.current) c.loop-next.current_left.now c.in-Some.next.current_left.now c.in-Some.ensures.in_current left

pub put-requires-clause-before : goal.put-requires-clause-before
put-requires-clause-before c =
    p_before c.args.base.now c.args.current.now c.args.new.now c.loop-next.before.now c.loop-next.current_left.now c.loop-next.new_left.now (option_copied c.loop-next.gone) c.loop-next.merged c.requires c.loop-next.invariant
    c.in-Some.next.path.now (option_copied c.in-Some.next.current) (option_copied c.in-Some.next.new) c.in-Some.next.current_left.now c.in-Some.next.new_left.now c.from_path-before.result.now c.in-Some.ensures c.from_path-before.ensures

pub put-requires-clause-node : goal.put-requires-clause-node
put-requires-clause-node c =
    let map = subst IsPathMap c.as_slice-current_left.ensures.value c.as_slice-current_left.ensures.map in
    let map' = subst IsPathMap c.as_slice-new_left.ensures.value c.as_slice-new_left.ensures.map in
    merging_node c.args.base.now c.args.current.now c.args.new.now c.loop-next.before.now c.loop-next.current_left.now c.loop-next.new_left.now (option_copied c.loop-next.gone) c.loop-next.merged c.requires c.loop-next.invariant
    c.in-Some.next.path.now (option_copied c.in-Some.next.current) (option_copied c.in-Some.next.new) c.in-Some.next.current_left.now c.in-Some.next.new_left.now c.from_path-before.result.now c.in-Some.ensures c.from_path-before.ensures
    map map' (option_copied c.step_at-step.result.node) (option_copied c.step_at-step.result.gone) c.step_at-step.ensures

pub loop-next-preserved : goal.loop-next-preserved
loop-next-preserved c =
    rw c.in_ok-put.ensures (merging_more c.args.base.now c.args.current.now c.args.new.now c.loop-next.before.now c.loop-next.current_left.now c.loop-next.new_left.now (option_copied c.loop-next.gone) c.loop-next.merged c.requires c.loop-next.invariant
    c.in-Some.next.path.now (option_copied c.in-Some.next.current) (option_copied c.in-Some.next.new) c.in-Some.next.current_left.now c.in-Some.next.new_left.now c.from_path-before.result.now c.in-Some.ensures c.from_path-before.ensures
    (option_copied c.step_at-step.result.node) (option_copied c.step_at-step.result.gone) c.step_at-step.ensures)

pub returns : goal.returns
returns c =
    merging_over c.args.base.now c.args.current.now c.args.new.now c.loop-next.before.now c.loop-next.current_left.now c.loop-next.new_left.now (option_copied c.loop-next.gone) c.loop-next.merged c.loop-next.invariant
    c.in_default.ensures.0 c.in_default.ensures.1

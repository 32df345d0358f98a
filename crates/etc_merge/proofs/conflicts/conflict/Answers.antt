use Rattle.std.proofs.Common.{◌≡◌, ◌∷◌, [], length, Some, sym, ap, subst}
use Rattle.std.proofs.lemmas.List.{nil_from_length}
use Rattle.ost_types.specs.PathMap.{IsAscending, paths_of}
use Rattle.etc_merge.specs.Merging.{IsLeastConflict}
use Rattle.etc_merge.proofs.Finds.{from_ascending}
use Rattle.etc_merge.proofs.Fronts.{passed_ascending}
use Rattle.etc_merge.proofs.Looking.{IsLeftIn, IsLooking, looking_first, looking_found, looking_more, looking_over, rest_after, rest_ascending}
use Rattle.etc_merge.proofs.conflicts.conflict.Goals as goal

pub loop-first-init : goal.loop-first-init
loop-first-init c = (
  c.as_slice-entries.ensures.value,
  rw (c.as_slice-before.ensures.value, c.as_slice-entries.ensures.value, c.as_slice-behind.ensures.value) (looking_first c.args.base.now c.args.current.now c.args.new.now c.requires),
)

pub is_conflict-requires-clause-base : goal.is_conflict-requires-clause-base
is_conflict-requires-clause-base c =
    let asc = subst (λ m. IsAscending (paths_of m)) c.as_slice-before.ensures.value c.as_slice-before.ensures.map.ascending in
    let left = passed_ascending c.args.base.now c.loop-first.before.now (IsLeftIn c.loop-first.left.now) c.loop-first.invariant.1.bases asc in
    (from_ascending c.loop-first.before.now c.in-Some.first.now.0 c.from_path-before.result.now c.from_path-before.ensures left, c.from_path-before.ensures.starts)

pub is_conflict-requires-clause-new : goal.is_conflict-requires-clause-new
is_conflict-requires-clause-new c =
    let asc = subst (λ m. IsAscending (paths_of m)) c.as_slice-behind.ensures.value c.as_slice-behind.ensures.map.ascending in
    let left = passed_ascending c.args.new.now c.loop-first.behind.now (IsLeftIn c.loop-first.left.now) c.loop-first.invariant.1.news asc in
    (from_ascending c.loop-first.behind.now c.in-Some.first.now.0 c.from_path-behind.result.now c.from_path-behind.ensures left, c.from_path-behind.ensures.starts)

pub is_conflict-requires-clause-rest : goal.is_conflict-requires-clause-rest
is_conflict-requires-clause-rest c =
    let asc = subst (λ m. IsAscending (paths_of m)) c.as_slice-entries.ensures.value c.as_slice-entries.ensures.map.ascending in
    let looking = subst (λ l. IsLooking c.args.base.now c.args.current.now c.args.new.now c.loop-first.before.now l c.loop-first.behind.now) c.in-Some.ensures.cases.0 c.loop-first.invariant.1 in (
      rest_ascending c.args.base.now c.args.current.now c.args.new.now c.loop-first.before.now c.loop-first.behind.now c.in-Some.first.now c.in-Some.rest.now c.from_path-before.result.now c.from_path-behind.result.now c.requires asc looking c.from_path-before.ensures c.from_path-behind.ensures,
      rest_after c.args.base.now c.args.current.now c.args.new.now c.loop-first.before.now c.loop-first.behind.now c.in-Some.first.now c.in-Some.rest.now c.from_path-before.result.now c.from_path-behind.result.now c.requires asc looking c.from_path-before.ensures c.from_path-behind.ensures,
    )

pub returns-then-is_conflict : goal.returns-then-is_conflict
returns-then-is_conflict c =
    let asc = subst (λ m. IsAscending (paths_of m)) c.as_slice-entries.ensures.value c.as_slice-entries.ensures.map.ascending in
    let looking = subst (λ l. IsLooking c.args.base.now c.args.current.now c.args.new.now c.loop-first.before.now l c.loop-first.behind.now) c.in-Some.ensures.cases.0 c.loop-first.invariant.1 in
    rw (c.loop-first.invariant.0, c.in-Some.ensures.cases.0) (looking_found c.args.base.now c.args.current.now c.args.new.now c.loop-first.before.now c.loop-first.behind.now c.in-Some.first.now c.in-Some.rest.now c.from_path-before.result.now c.from_path-behind.result.now c.requires asc looking c.from_path-before.ensures c.from_path-behind.ensures
    (c.is_conflict.ensures.yes c.if-is_conflict.true))

pub loop-first-preserved : goal.loop-first-preserved
loop-first-preserved c =
    let asc = subst (λ m. IsAscending (paths_of m)) c.as_slice-entries.ensures.value c.as_slice-entries.ensures.map.ascending in
    let looking = subst (λ l. IsLooking c.args.base.now c.args.current.now c.args.new.now c.loop-first.before.now l c.loop-first.behind.now) c.in-Some.ensures.cases.0 c.loop-first.invariant.1 in (
      c.loop-first.invariant.0,
      looking_more c.args.base.now c.args.current.now c.args.new.now c.loop-first.before.now c.loop-first.behind.now c.in-Some.first.now c.in-Some.rest.now c.from_path-before.result.now c.from_path-behind.result.now c.requires asc looking c.from_path-before.ensures c.from_path-behind.ensures
          (c.is_conflict.ensures.no c.if-is_conflict.false),
    )

pub returns : goal.returns
returns c = looking_over c.args.base.now c.args.current.now c.args.new.now c.loop-first.before.now c.loop-first.left.now c.loop-first.behind.now c.loop-first.invariant.1 (nil_from_length _ c.in_default.ensures.cases)

use Rattle.std.proofs.Common.{◌≡◌, true, false, sym, ◌∙◌, subst, refl, ◌∷◌}
use Rattle.etc_merge.proofs.Belows.{IsAhead, ahead_beyond, ahead_found, ahead_more}
use Rattle.etc_merge.proofs.Finds.{from_ascending}
use Rattle.etc_merge.proofs.kept.has_kept_below.Goals as goal

pub returns-then-not-is_below : goal.returns-then-not-is_below
returns-then-not-is_below c =
    let ahead = subst (IsAhead c.args.base.now c.args.current.now c.args.path.now c.loop-first.before.now) c.in-Some.ensures.cases.0 c.loop-first.invariant in (
      (λ t. let n : false ≡ true = t in cc),
      (λ kept. absurd (ahead_beyond c.args.base.now c.args.current.now c.args.path.now c.loop-first.before.now c.in-Some.first.now c.in-Some.rest.now ahead (sym c.is_below.ensures ∙ c.if-not-is_below.true) kept)),
    )

pub is_kept-requires-clause-ascending : goal.is_kept-requires-clause-ascending
is_kept-requires-clause-ascending c = from_ascending c.loop-first.before.now c.in-Some.first.now.0 c.from_path-before.result.now c.from_path-before.ensures c.loop-first.invariant.bases

pub returns-then-is_kept : goal.returns-then-is_kept
returns-then-is_kept c =
    let ahead = subst (IsAhead c.args.base.now c.args.current.now c.args.path.now c.loop-first.before.now) c.in-Some.ensures.cases.0 c.loop-first.invariant in (
      (λ _. ahead_found c.args.base.now c.args.current.now c.args.path.now c.loop-first.before.now c.from_path-before.result.now c.in-Some.first.now c.in-Some.rest.now ahead c.from_path-before.ensures
          (sym c.is_below.ensures ∙ c.if-not-is_below.false) (c.is_kept.ensures.yes c.if-is_kept.true)),
      (λ _. refl),
    )

pub loop-first-preserved : goal.loop-first-preserved
loop-first-preserved c =
    let ahead = subst (IsAhead c.args.base.now c.args.current.now c.args.path.now c.loop-first.before.now) c.in-Some.ensures.cases.0 c.loop-first.invariant in
    ahead_more c.args.base.now c.args.current.now c.args.path.now c.loop-first.before.now c.from_path-before.result.now c.in-Some.first.now c.in-Some.rest.now ahead c.from_path-before.ensures
    (c.is_kept.ensures.no c.if-is_kept.false)

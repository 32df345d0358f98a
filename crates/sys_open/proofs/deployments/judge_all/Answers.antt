use Rattle.std.proofs.Common.{sym, ◌∙◌, arith, subst, take}
use Rattle.std.proofs.lemmas.List.{take_all}
use Rattle.fs_trait.proofs.Quiet.{IsQuiet-refl, IsQuiet-trans}
use Rattle.sys_open.specs.Judged.{AreFaultsOf}
use Rattle.sys_open.proofs.Leasts.{faults_more, none_yet}
use Rattle.sys_open.proofs.deployments.judge_all.Goals as goal

pub loop-row-init : goal.loop-row-init
loop-row-init g c = (
  IsQuiet-refl _ _ _,
  omega arith,
  λ v told right rows. subst (AreFaultsOf c.args.limits.now v.now (take 0 c.args.rows.now)) (sym c.none-faults.ensures) (none_yet c.args.limits.now v.now),
)

pub loop-row-preserved : goal.loop-row-preserved
loop-row-preserved g c =
    let inv = c.loop-row.invariant in
    let first = inv.1 in
    let later = c.judge_row.ensures.reason.later in (
      IsQuiet-trans _ _ _ _ _ _ _ _ _ inv.0 c.judge_row.ensures.quiet,
      omega (arith, first, later),
      λ v told right rows.
          faults_more c.args.limits.now v.now right c.args.rows.now rows c.loop-row.row-index c.row-item.result c.loop-row-test.true c.row-item.is
          c.loop-row.faults c.in_ok-faults.faults c.in_ok-judgement.judgement (c.in_ok-judgement.ensures.told v (inv.0.view ∙ told)) c.in_ok-faults.ensures (inv.2 v told right rows),
    )

pub returns-clause-told : goal.returns-clause-told
returns-clause-told g c = λ v told right rows.
    subst (λ done. AreFaultsOf c.args.limits.now v.now done c.loop-row.faults) (take_all c.loop-row.row-index c.args.rows.now c.loop-row-test.false) (c.loop-row.invariant.2 v told right rows)

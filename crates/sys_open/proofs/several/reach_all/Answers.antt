use Rattle.std.proofs.Common.{◌∙◌, arith, Ok}
use Rattle.fs_trait.proofs.Quiet.{IsQuiet-refl, IsQuiet-trans}
use Rattle.sys_open.proofs.Firsts.{damage_least}
use Rattle.sys_open.proofs.SeveralPaths.{AsksAt, all_least, more_least, none_wrong, widen}
use Rattle.sys_open.proofs.several.reach_all.Goals as goal

pub loop-path-init : goal.loop-path-init
loop-path-init g c = (
  IsQuiet-refl _ _ _,
  omega arith,
  λ v told. none_wrong v.now c.args.paths.now,
)

pub loop-path-preserved : goal.loop-path-preserved
loop-path-preserved g c =
    let inv = c.loop-path.invariant in
    let first = inv.1 in
    let later = c.reach.ensures.reason.later in (
      IsQuiet-trans _ _ _ _ _ _ _ _ _ inv.0 c.reach.ensures.quiet,
      omega (arith, first, later),
      λ v told.
          let walked = widen (Unit {0}) v.now c.path-item.result c.reach.result (c.reach.ensures.told v (inv.0.view ∙ told)) in
          let found = damage_least (Unit {0}) (AsksAt c.path-item.result v.now) c.reach.result (Ok c.in_ok-found.found) c.in_ok-found.ensures walked in
          more_least v.now c.args.paths.now c.loop-path.path-index c.path-item.result c.loop-path-test.true c.path-item.is c.loop-path.least c.in_ok-found.found c.lesser-least.result c.lesser-least.ensures (inv.2 v told) found,
    )

pub returns-clause-told : goal.returns-clause-told
returns-clause-told g c = λ v told. all_least v.now c.args.paths.now c.loop-path.path-index c.loop-path-test.false c.loop-path.least (c.loop-path.invariant.2 v told)

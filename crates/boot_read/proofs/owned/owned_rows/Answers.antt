use Rattle.std.proofs.Common.{◌∙◌, arith}
use Rattle.std.proofs.lemmas.Result.{err_from_is_err_and}
use Rattle.fs_trait.proofs.Quiet.{IsQuiet-refl, IsQuiet-trans}
use Rattle.repo_layout.specs.Fixed.{number}
use Rattle.boot_read.specs.declared.links.Followed.{Followed}
use Rattle.boot_read.specs.declared.row.BootRow.{BootRow}
use Rattle.boot_read.specs.Steps.{IsOwned}
use Rattle.boot_read.proofs.Lists.{none_so_far, one_more}
use Rattle.boot_read.proofs.Owning.{all_owned, followed_here, tells_first_lack}
use Rattle.boot_read.proofs.owned.owned_rows.Goals as goal

pub loop-followed-init : goal.loop-followed-init
loop-followed-init g c = record {
  owned = λ v sub told are. none_so_far (λ (f : Followed). f.name) (λ (r : BootRow). r.file) (IsOwned v.now (number c.args.loader) sub) c.args.all.now _ c.in_ok-rows.ensures.items;
  quiet = IsQuiet-refl _ _ _;
  room = omega arith;
  faults = omega arith;
}

pub loop-followed-preserved : goal.loop-followed-preserved
loop-followed-preserved g c =
    let i = c.loop-followed.invariant in
    record {
      owned = λ v sub told are.
          let is = followed_here v.now (number c.args.loader) sub c.args.all.now are c.loop-followed.followed-index c.followed-item.result c.loop-followed-test.true c.followed-item.is in
          let one = c.in_ok-row.ensures.told v sub (i.quiet.view ∙ told) are is in
          one_more (λ (f : Followed). f.name) (λ (r : BootRow). r.file) (IsOwned v.now (number c.args.loader) sub) c.args.all.now c.loop-followed.followed-index c.followed-item.result c.loop-followed.rows.items _
          c.in_ok-row.row c.loop-followed-test.true c.followed-item.is one.0 one.1 c.in_ok-push.ensures.items (i.owned v sub told are);
      quiet = IsQuiet-trans _ _ _ _ _ _ _ _ _ i.quiet c.owned_row.ensures.quiet;
      room = omega (arith, i.room, c.owned_row.ensures.room);
      faults = omega (arith, i.faults, c.owned_row.ensures.cause.later);
    }

pub returns-in_err-row-clause-told : goal.returns-in_err-row-clause-told
returns-in_err-row-clause-told g c = λ v sub told before are.
    let error = err_from_is_err_and c.from_residual-in_err-row.result c.from_residual-in_err-row.ensures.1 in
    let i = c.loop-followed.invariant in
    let is = followed_here v.now (number c.args.loader) sub c.args.all.now are c.loop-followed.followed-index c.followed-item.result c.loop-followed-test.true c.followed-item.is in
    rw (error.1, error.2) (tells_first_lack v.now (number c.args.loader) sub c.args.all.now are before c.loop-followed.followed-index c.followed-item.result c.loop-followed.rows.items c.loop-followed-test.true c.followed-item.is (i.owned v sub told are) _
    (c.in_err-row.ensures.told v sub (i.quiet.view ∙ told) are is))

pub returns-clause-told : goal.returns-clause-told
returns-clause-told g c = λ v sub told before are.
    all_owned v.now (number c.args.loader) sub c.args.all.now are c.loop-followed.followed-index c.loop-followed.rows.items c.loop-followed-test.false (c.loop-followed.invariant.owned v sub told are)

use Rattle.std.proofs.Common.{◌∙◌, arith}
use Rattle.std.proofs.lemmas.Result.{err_from_is_err_and}
use Rattle.fs_trait.proofs.Quiet.{IsQuiet-refl, IsQuiet-trans}
use Rattle.repo_layout.specs.Fixed.{number}
use Rattle.boot_read.specs.declared.links.Followed.{Followed}
use Rattle.boot_read.specs.declared.texts.EntryText.{EntryText}
use Rattle.boot_read.specs.Steps.{IsFollowed}
use Rattle.boot_read.proofs.Following.{all_followed, tells_first_bad, text_here}
use Rattle.boot_read.proofs.Lists.{none_so_far, one_more}
use Rattle.boot_read.proofs.links.follow_all.Goals as goal

pub loop-text-init : goal.loop-text-init
loop-text-init g c = record {
  followed = λ v told are. none_so_far (λ (t : EntryText). t.name) (λ (f : Followed). f.name) (IsFollowed v.now (number c.args.loader) (number c.args.sub)) c.args.texts.now _ c.in_ok-all.ensures.items;
  quiet = IsQuiet-refl _ _ _;
  room = omega arith;
  faults = omega arith;
}

pub loop-text-preserved : goal.loop-text-preserved
loop-text-preserved g c =
    let i = c.loop-text.invariant in
    record {
      followed = λ v told are.
          let read = text_here v.now (number c.args.loader) c.args.texts.now are c.loop-text.text-index c.text-item.result c.loop-text-test.true c.text-item.is in
          let one = c.in_ok-followed.ensures.told v (i.quiet.view ∙ told) read in
          one_more (λ (t : EntryText). t.name) (λ (f : Followed). f.name) (IsFollowed v.now (number c.args.loader) (number c.args.sub)) c.args.texts.now c.loop-text.text-index c.text-item.result c.loop-text.all.items _
          c.in_ok-followed.followed c.loop-text-test.true c.text-item.is one.0 one.1 c.in_ok-push.ensures.items (i.followed v told are);
      quiet = IsQuiet-trans _ _ _ _ _ _ _ _ _ i.quiet c.follow.ensures.quiet;
      room = omega (arith, i.room, c.follow.ensures.room);
      faults = omega (arith, i.faults, c.follow.ensures.cause.later);
    }

pub returns-in_err-followed-clause-told : goal.returns-in_err-followed-clause-told
returns-in_err-followed-clause-told g c = λ v told folders are.
    let error = err_from_is_err_and c.from_residual-in_err-followed.result c.from_residual-in_err-followed.ensures.1 in
    let i = c.loop-text.invariant in
    let read = text_here v.now (number c.args.loader) c.args.texts.now are c.loop-text.text-index c.text-item.result c.loop-text-test.true c.text-item.is in
    rw (error.1, error.2) (tells_first_bad v.now (number c.args.loader) (number c.args.sub) c.args.texts.now are folders c.loop-text.text-index c.text-item.result c.loop-text.all.items c.loop-text-test.true c.text-item.is (i.followed v told are) _
    (c.in_err-followed.ensures.told v (i.quiet.view ∙ told) read))

pub returns-clause-told : goal.returns-clause-told
returns-clause-told g c = λ v told folders are.
    all_followed v.now (number c.args.loader) (number c.args.sub) c.args.texts.now are c.loop-text.text-index c.loop-text.all.items c.loop-text-test.false (c.loop-text.invariant.followed v told are)

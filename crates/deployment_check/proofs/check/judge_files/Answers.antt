use Rattle.std.proofs.Common.{◌∙◌, subst}
use Rattle.checkout_compare.specs.Compare.{Tells}
use Rattle.deployment_check.proofs.Telling.{deployed, not_checkout}
use Rattle.deployment_check.proofs.check.judge_files.Goals as goal

pub returns-in_ok-path_in-in-Some-clause-told : goal.returns-in_ok-path_in-in-Some-clause-told
returns-in_ok-path_in-in-Some-clause-told g c = λ v limits told can.
    let home = c.in_ok-home in
    let first = subst (Tells v.now home.home c.args.tree.now) c.in-Some.is (c.in_ok-relative.ensures.told v told) in
    not_checkout limits v.now c.args.id.now c.args.tree.now c.args.kernel can home.home home.ensures.value (g.met.F.Fs.tree c.args.fs.now v told) home.ensures.room c.in-Some.relative
    c.in_ok-path_in-in-Some.field-0 c.in_ok-path_in-in-Some.ensures first

pub returns-in-None-clause-told : goal.returns-in-None-clause-told
returns-in-None-clause-told g c = λ v limits told can.
    let home = c.in_ok-home in
    let none = subst (Tells v.now home.home c.args.tree.now) c.in-None.is (c.in_ok-relative.ensures.told v told) in
    c.judge_etc.ensures.told v limits c.args.tree.now (c.in_ok-relative.ensures.quiet.view ∙ told) (deployed limits v.now c.args.id.now c.args.tree.now c.args.kernel can home.home home.ensures.value none)

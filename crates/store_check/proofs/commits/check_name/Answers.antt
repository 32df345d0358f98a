use Rattle.std.proofs.Common.{rules, ◌≡◌, ◌∙◌, sym, true, false}
use Rattle.store_check.proofs.commits.check_name.Goals as goal

pub returns-in-Err-clause-told : goal.returns-in-Err-clause-told
returns-in-Err-clause-told g c = λ v told.
    c.told.ensures.told v.now c.args.limits.now
    (search rules)
    (λ marked. let n : true ≡ false = sym marked ∙ sym (c.in_ok-is_marked.ensures.told v told) ∙ c.if-branch.false in cc)
    (c.in-Err.ensures.told v (c.is_whole.ensures.quiet.view ∙ c.is_marked.ensures.quiet.view ∙ told))

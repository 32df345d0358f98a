use Rattle.std.proofs.Common.{rules, ◌≡◌, ◌∙◌, Some, sym, subst, false}
use Rattle.fs_trait.specs.Effect.{IsNode}
use Rattle.fs_trait.specs.declared.types.Node.TheVariants.{File}
use Rattle.checkout_compare.proofs.Values.{empty_objects}
use Rattle.checkout_compare.proofs.stands.stands_file.Goals as goal

pub returns-clause-told : goal.returns-clause-told
returns-clause-told g c = λ v told is.
    let apart : c.in_ok-same.field-0 ≡ false = search rules in
    let none : c.args.len ≡ 0 = search rules in
    empty_objects v.now (v.now.at c.args.at.now) (v.now.at c.args.object.now) c.args.meta.now
    (subst (λ n. IsNode v.now (v.now.at c.args.at.now) (Some (File c.args.meta.now n))) none is)
    (sym (c.in_ok-same.ensures.answer v told).1 ∙ apart) c.stands_empty_file.result
    (c.stands_empty_file.ensures.told v (c.in_ok-same.ensures.quiet.view ∙ told))

use Rattle.std.proofs.Common.{sym, ◌∙◌, subst}
use Rattle.std.proofs.lemmas.Result.{err_from_is_err_and}
use Rattle.checkout_command.specs.Commands.{checkout_leaves, checkout_needs}
use Rattle.checkout_command.proofs.Reading.{read_after}
use Rattle.checkout_command.proofs.command.CheckoutCommandCommandTask.advance.Goals as goal

pub returns-in_err-next-in-Read-clause-refused : goal.returns-in_err-next-in-Read-clause-refused
returns-in_err-next-in-Read-clause-refused g c = λ v told.
    let error = err_from_is_err_and c.from_residual-in_err-next-in-Read.result c.from_residual-in_err-next-in-Read.ensures.1 in
    rw (error.1, error.2) (c.in_err-next-in-Read.ensures.named v told (subst (λ t. checkout_needs c.args.actor t v) c.in-Read.is (c.requires v told)))

pub step-requires-in-Make : goal.step-requires-in-Make
step-requires-in-Make g c = λ v told. subst (λ t. checkout_needs c.args.actor t v) c.in-Make.is (c.requires v told)

pub returns-in_ok-next-in-Read-clause-after : goal.returns-in_ok-next-in-Read-clause-after
returns-in_ok-next-in-Read-clause-after g c = λ v told. (
  v,
  c.in_ok-next-in-Read.ensures.quiet.view ∙ told,
  subst (λ t. checkout_leaves t c.go-in-Read.result c.go-in-Read.new.self v v) (sym c.in-Read.is)
      (read_after c.in-Read.read c.step.new.self v c.in_ok-next-in-Read.next c.go-in-Read.result c.go-in-Read.new.self
      (c.in_ok-next-in-Read.ensures.told v told (subst (λ t. checkout_needs c.args.actor t v) c.in-Read.is (c.requires v told))) c.go-in-Read.ensures),
)

pub returns-in-Ended-clause-after : goal.returns-in-Ended-clause-after
returns-in-Ended-clause-after g c = λ v told. absurd (subst (λ t. checkout_needs c.args.actor t v) c.in-Ended.is (c.requires v told))

use Rattle.std.proofs.Common.{◌≡◌, true, false}
use Rattle.boot_words.proofs.Splits.{numbered_marked, numbered_number, numbered_sum, numbered_there}
use Rattle.boot_words.proofs.numbered.read_numbered.Goals as goal

pub returns-in_err-digits : goal.returns-in_err-digits
returns-in_err-digits c = rw c.from_residual.ensures (numbered_marked c.args.text.now c.args.mark c.in_err-digits.ensures)

pub returns-in_err-sum : goal.returns-in_err-sum
returns-in_err-sum c = rw c.from_residual-in_err-sum.ensures
    (numbered_sum c.args.text.now c.args.mark c.requires c.in_ok-digits.digits.now c.in_ok-digits.behind.now c.in_ok-digits.ensures.0 c.in_ok-digits.ensures.1
    (λ hex. let n : false ≡ true = c.in_err-sum.ensures.exact.1 hex in cc))

pub returns-in_err-number : goal.returns-in_err-number
returns-in_err-number c = rw c.from_residual-in_err-number.ensures
    (numbered_number c.args.text.now c.args.mark c.requires c.in_ok-digits.digits.now c.in_ok-digits.behind.now c.in_ok-digits.ensures.0 c.in_ok-digits.ensures.1 c.in_err-number.ensures)

pub returns : goal.returns
returns c =
    numbered_there c.args.text.now c.args.mark c.requires c.in_ok-digits.digits.now c.in_ok-digits.behind.now c.in_ok-digits.ensures.0 c.in_ok-digits.ensures.1
    c.in_ok-sum.sum c.in_ok-number.number c.in_ok-sum.ensures.whole c.in_ok-sum.ensures.value c.in_ok-number.ensures

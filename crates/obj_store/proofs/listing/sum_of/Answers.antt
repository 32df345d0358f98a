use Rattle.std.proofs.Common.{rules, arith, ◌≡◌, sym, ◌∙◌, subst}
use Rattle.std.specs.Prelude.{IfSome}
use Rattle.ost_types.specs.Csum.{hex_of}
use Rattle.obj_store.proofs.ListLemmas.{begins_so, rest_so, text_so}
use Rattle.obj_store.proofs.listing.sum_of.Goals as goal

pub returns-clause-text : goal.returns-clause-text
returns-clause-text c = subst (λ t. IfSome c.from_hex.result (λ x. hex_of x ≡ t)) c.digits_of.ensures c.from_hex.ensures.value

pub returns-clause-begins : goal.returns-clause-begins
returns-clause-begins c =
    let range = c.ranges.first in
    begins_so c.args.first c.args.digits.now c.from_hex.result (omega (arith, range)) (search rules) (subst (λ t. IfSome c.from_hex.result (λ x. hex_of x ≡ t)) c.digits_of.ensures c.from_hex.ensures.value)

pub returns-clause-rest : goal.returns-clause-rest
returns-clause-rest c = rest_so c.args.first c.args.digits.now c.from_hex.result (subst (λ t. IfSome c.from_hex.result (λ x. hex_of x ≡ t)) c.digits_of.ensures c.from_hex.ensures.value)

pub returns-clause-all : goal.returns-clause-all
returns-clause-all c = λ sum is begins rest. c.from_hex.ensures.back sum is.bytes is.whole (text_so sum c.args.first c.args.digits.now begins rest ∙ sym c.digits_of.ensures)

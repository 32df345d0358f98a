use Rattle.checkout_command.proofs.Reading.{not_refused, to_make}
use Rattle.checkout_command.proofs.read.Read.whole.Goals as goal

pub returns-then-not-can_make-clause-told : goal.returns-then-not-can_make-clause-told
returns-then-not-can_make-clause-told c = λ d reads knows none.
    absurd (not_refused d c.args.self.now c.in_ok-into.into c.can_make.result c.can_make.ensures.can c.if-not-can_make.true c.can_make.ensures.map c.in_ok-into.ensures.room reads knows none)

pub returns-clause-told : goal.returns-clause-told
returns-clause-told c = λ d reads knows none.
    to_make d (record { request = c.self.inside.request; task = c.self.inside.task }) c.args.self.now c.self.view_is reads knows none c.in_ok-request.request c.in_ok-into.into c.taken-tree.result c.new.result c.new.ensures.value
    c.in_ok-request.ensures c.in_ok-into.ensures.path c.taken-tree.ensures c.new.ensures.map (c.can_make.ensures.can.0 c.if-not-can_make.false)

use Rattle.std.proofs.Common.{sym, ap, subst, ◌∙◌}
use Rattle.gv_core.specs.Kind.{kind_of}
use Rattle.gv_core.specs.Spelling.{kind_of-spell}
use Rattle.gv_core.specs.Stack.{ParsedAs}
use Rattle.gv_core.proofs.Letters.{spell_of}
use Rattle.gv_core.proofs.Stacks.{is_type_string}
use Rattle.gv_core.proofs.type_string.parse_kind.Goals as goal

pub returns-in-Kind-clause-kind : goal.returns-in-Kind-clause-kind
returns-in-Kind-clause-kind c =
    let h = subst (λ p. ParsedAs p c.args.text.now) c.in-Kind.is c.in_ok-kind.ensures in
    is_type_string c.args.text.now h.1.0 h.1.1

pub returns-in-TooDeep-clause-fault : goal.returns-in-TooDeep-clause-fault
returns-in-TooDeep-clause-fault c =
    let h = subst (λ p. ParsedAs p c.args.text.now) c.in-TooDeep.is c.in_ok-kind.ensures in
    (h.0, (spell_of c.args.text.now h.0 h.1.0, h.1.1))

pub returns-in-Bad-clause-fault : goal.returns-in-Bad-clause-fault
returns-in-Bad-clause-fault c = λ k e.
    let h = subst (λ p. ParsedAs p c.args.text.now) c.in-Bad.is c.in_ok-kind.ensures in
    let z = sym h ∙ ap kind_of (sym e) ∙ kind_of-spell k in
    cc

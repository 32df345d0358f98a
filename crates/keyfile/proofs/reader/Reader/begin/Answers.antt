use Rattle.std.proofs.Common.{◌≡◌, Some, true, refl, ap, arith}
use Rattle.keyfile.proofs.Splits.{group_text}
use Rattle.keyfile.proofs.Taken.{group_taken}
use Rattle.keyfile.proofs.reader.Reader.begin.Goals as goal

pub text_from-requires : goal.text_from-requires
text_from-requires c = group_text c.args.name.now c.requires

pub returns : goal.returns
returns c = λ before t.
    let is_new : c.in_ok-add.field-0 ≡ true = grind (arith, c.if-not-branch.false) in
    group_taken c.args.self.now _ before c.args.name.now c.in_ok-add.field-0 c.requires t c.in_ok-add.ensures.new is_new c.in_ok-add.ensures.all c.clear.ensures.empty refl (ap Some c.in_ok-text_from.ensures)

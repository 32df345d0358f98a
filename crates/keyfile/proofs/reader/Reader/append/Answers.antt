use Rattle.std.proofs.Common.{◌≡◌, true, refl, arith}
use Rattle.keyfile.proofs.Splits.{key_text}
use Rattle.keyfile.proofs.Taken.{key_taken}
use Rattle.keyfile.proofs.reader.Reader.append.Goals as goal

pub push-requires-clause-key : goal.push-requires-clause-key
push-requires-clause-key c = key_text c.args.key.now c.requires.key

pub returns : goal.returns
returns c = λ before t.
    let is_new : c.in_ok-add.field-0 ≡ true = grind (arith, c.if-not-branch.false) in
    key_taken c.args.self.now _ before c.args.key.now c.args.value.now c.in_ok-add.field-0 c.requires.key c.requires.value t c.in-Some.group c.in-Some.is c.in_ok-add.ensures.new is_new c.in_ok-add.ensures.all refl c.in_ok-push.ensures refl

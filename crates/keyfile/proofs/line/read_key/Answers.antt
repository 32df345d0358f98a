use Rattle.std.proofs.Common.{subst, arith}
use Rattle.keyfile.specs.Line.{IsKeyName, IsValue}
use Rattle.keyfile.proofs.Splits.{no_key_without, same_key, value_in_line}
use Rattle.keyfile.proofs.line.read_key.Goals as goal
use Rattle.keyfile.proofs.line.read_key.Goals.{else-is_key_name-via-then-is_key_name+else-is_value, else-is_key_name-via-else-is_key_name}

pub returns-in_default : goal.returns-in_default
returns-in_default c = λ key value is_key is_value e. no_key_without c.args.text.now key value c.in_default.ensures e

pub is_value-requires : goal.is_value-requires
is_value-requires c = value_in_line c.args.text.now c.in-Some.key.now c.in-Some.value.now c.in-Some.ensures.0 c.in-Some.ensures.1 c.requires

pub returns-else-is_key_name : goal.returns-else-is_key_name
returns-else-is_key_name c = λ key value is_key is_value e.
    let same = same_key c.args.text.now c.in-Some.key.now c.in-Some.value.now c.in-Some.ensures.0 c.in-Some.ensures.1 key value is_key e in
    let k = c.is_key_name.ensures.1 (subst IsKeyName same.0 is_key) in
    elim c.else-is_key_name.branch [
      | else-is_key_name-via-then-is_key_name+else-is_value w ↦ let v = w.is_value.ensures.1 (subst IsValue same.1 is_value) in grind (arith, v, w.if-is_value.false)
      | else-is_key_name-via-else-is_key_name w ↦ grind (arith, k, w.if-is_key_name.false)
    ]

use Rattle.std.proofs.Common.{rules, arith, subst}
use Rattle.hex.proofs.HexLemmas.{decode_sized-encode_lower}
use Rattle.ost_types.specs.Csum.{IsHexSum}
use Rattle.ost_types.proofs.HexSums.{read_sum, IsHexSum-hex_of}
use Rattle.ost_types.proofs.csum.Csum.from_hex.Goals as goal

pub returns-in-Ok-clause-value : goal.returns-in-Ok-clause-value
returns-in-Ok-clause-value c = let r = read_sum c.args.text.now (c.is_hex_sum.ensures.0 (search rules)) in grind (arith, r.1, r.2)

pub returns-in-Err-clause-exact : goal.returns-in-Err-clause-exact
returns-in-Err-clause-exact c = let r = read_sum c.args.text.now (c.is_hex_sum.ensures.0 (search rules)) in grind (arith, r.1, r.2)

pub returns-in-Ok-clause-back : goal.returns-in-Ok-clause-back
returns-in-Ok-clause-back c = λ bytes fits whole e.
    let r = decode_sized-encode_lower bytes 32 whole fits in
    grind (arith, r, e)

pub returns-in-Err-clause-back : goal.returns-in-Err-clause-back
returns-in-Err-clause-back c = λ bytes fits whole e.
    let r = decode_sized-encode_lower bytes 32 whole fits in
    grind (arith, r, e)

pub returns-then-not-is_hex_sum-clause-back : goal.returns-then-not-is_hex_sum-clause-back
returns-then-not-is_hex_sum-clause-back c = λ bytes fits whole e.
    let sum = c.is_hex_sum.ensures.1 (subst IsHexSum e (IsHexSum-hex_of bytes whole fits)) in
    grind (arith, sum)

use Rattle.std.proofs.Common.{arith}
use Rattle.ost_types.proofs.HexSums.{IsHexSum-hex_of}
use Rattle.ost_types.proofs.csum.Csum.to_hex.Goals as goal

pub returns-clause-digits : goal.returns-clause-digits
returns-clause-digits c =
    let sum = IsHexSum-hex_of c.as_slice.result.now c.as_slice.ensures.whole c.as_slice.ensures.fits in
    grind (arith, sum)

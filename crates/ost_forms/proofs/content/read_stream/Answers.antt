use Rattle.std.proofs.Common.{arith}
use Rattle.ost_forms.proofs.Streams.{stream_finds, zeros_found}
use Rattle.ost_forms.proofs.content.read_stream.Goals as goal

pub returns : goal.returns
returns c =
    let header = rw c.requires.header at c.read_header.ensures in
    stream_finds c.read_header.result c.args.bytes.now (λ i. omega (arith, c.type_inv.bytes i)) c.requires.fits (zeros_found _ c.if-ne.ensures) header

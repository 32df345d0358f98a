use Rattle.ost_forms.proofs.Texts.{text_bytes-of}
use Rattle.ost_forms.proofs.text.bytes_of.Goals as goal

pub returns : goal.returns
returns c = rw (c.in_ok-push.ensures.items, c.in_ok-extend_from_slice.ensures.items, c.in_ok-bytes.ensures.items) (text_bytes-of c.args.text.now c.requires)

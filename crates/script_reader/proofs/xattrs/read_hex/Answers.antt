use Rattle.std.proofs.lemmas.Result.{IfOk-weaker}
use Rattle.script_reader.proofs.Hex.{hex_read, refused_hex}
use Rattle.script_reader.proofs.xattrs.read_hex.Goals as goal

pub returns-in-Ok : goal.returns-in-Ok
returns-in-Ok c = IfOk-weaker _ _ _ (λ o. hex_read _ c.in-Ok.bytes.items o c.in-Ok.ensures.ok) c.written_so.ensures

pub returns-in-Err : goal.returns-in-Err
returns-in-Err c = IfOk-weaker _ _ _ (λ o. refused_hex _ _ c.in-Err.ensures.err o) c.refused.ensures

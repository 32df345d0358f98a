use Rattle.script_reader.proofs.Values.{gives_none, gives_other}
use Rattle.script_reader.proofs.meta.read_meta.Goals as goal

pub returns-in_default-3 : goal.returns-in_default-3
returns-in_default-3 c = λ m is. gives_other _ _ c.in_ok-bits.ensures.value c.in_default-3.not-Some _ is.permissions

pub returns-in-None : goal.returns-in-None
returns-in-None c = λ m is. gives_none _ _ c.in_ok-xattrs.ensures c.in-None.is _ is.xattrs

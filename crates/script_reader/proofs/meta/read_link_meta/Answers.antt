use Rattle.script_reader.proofs.Values.{gives_none}
use Rattle.script_reader.proofs.meta.read_link_meta.Goals as goal

pub returns-in-None : goal.returns-in-None
returns-in-None c = λ m is. gives_none _ _ c.in_ok-xattrs.ensures c.in-None.is _ is.xattrs

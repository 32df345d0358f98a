use Rattle.script_reader.proofs.Values.{gives_some, gives_none, gives_other}
use Rattle.std.proofs.Common.{refl}
use Rattle.script_reader.proofs.node.link_of.Goals as goal

pub returns-in_default : goal.returns-in_default
returns-in_default c = λ m is. gives_other _ _ c.in_ok-path.ensures c.in_default.not-Some _ is.path

pub returns-in_default-2 : goal.returns-in_default-2
returns-in_default-2 c = λ m is. gives_other _ _ c.in_ok-meta.ensures c.in_default-2.not-Some _ is.meta

pub returns-in-None : goal.returns-in-None
returns-in-None c = λ m is. gives_none _ _ c.in_ok-target.ensures c.in-None.is _ is.written

pub returns-in-Some-3 : goal.returns-in-Some-3
returns-in-Some-3 c = record { path = gives_some _ _ _ c.in_ok-path.ensures c.in-Some.is; meta = gives_some _ _ _ c.in_ok-meta.ensures c.in-Some-2.is; target = c.in-Some-3.target; body = refl; written = gives_some _ _ _ c.in_ok-target.ensures c.in-Some-3.is }

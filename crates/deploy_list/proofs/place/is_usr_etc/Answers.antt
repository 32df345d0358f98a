use Rattle.std.proofs.Common.{sym, ◌∙◌, ap}
use Rattle.deploy_list.specs.Kernels.{is_usr_etc}
use Rattle.deploy_list.proofs.Versions.{two_names}
use Rattle.deploy_list.proofs.place.is_usr_etc.Goals as goal

pub returns : goal.returns
returns c = c.are_usr_etc.ensures ∙ ap is_usr_etc (sym (two_names c.args.names.now c.usr-item.result c.etc-item.result c.in-len2.len_at_least c.in-len2.len_below c.usr-item.is c.etc-item.is))

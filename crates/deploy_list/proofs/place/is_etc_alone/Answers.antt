use Rattle.std.proofs.Common.{sym, ◌∙◌, ap}
use Rattle.deploy_list.specs.Kernels.{is_etc}
use Rattle.deploy_list.proofs.Versions.{one_name}
use Rattle.deploy_list.proofs.place.is_etc_alone.Goals as goal

pub returns : goal.returns
returns c = c.is.ensures ∙ ap is_etc (sym (one_name c.args.names.now c.etc-item.result c.in-len1.len_at_least c.in-len1.len_below c.etc-item.is))

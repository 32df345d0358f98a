use Rattle.std.proofs.Common.{sym, ◌∙◌}
use Rattle.sys_open.proofs.StageClearing.{stage_below_root}
use Rattle.sys_open.proofs.stages.clear_stage.Goals as goal

pub clear-requires : goal.clear-requires
clear-requires g c = λ v told e. stage_below_root c.args.actor (sym c.in_ok-at.ensures ∙ e)

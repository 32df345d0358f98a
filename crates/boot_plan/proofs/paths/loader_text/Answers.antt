use Rattle.std.proofs.Common.{sym, subst}
use Rattle.ost_types.specs.Text.{IsText}
use Rattle.boot_plan.proofs.Plain.{loader_target-text}
use Rattle.boot_plan.proofs.paths.loader_text.Goals as goal

pub known_text-requires : goal.known_text-requires
known_text-requires c = subst IsText (sym c.loader_target.ensures) (loader_target-text c.args.version)

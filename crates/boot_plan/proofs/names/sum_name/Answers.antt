use Rattle.boot_plan.proofs.Plain.{digits-name}
use Rattle.boot_plan.proofs.names.sum_name.Goals as goal

pub known_name-requires : goal.known_name-requires
known_name-requires c = digits-name _ c.to_hex.ensures.digits

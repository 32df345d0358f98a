use Rattle.boot_plan.proofs.Plain.{os-name}
use Rattle.boot_plan.proofs.names.os_name.Goals as goal

pub known_name-requires : goal.known_name-requires
known_name-requires c = os-name _ c.as_slice.ensures.name

use Rattle.boot_read.proofs.PathLemmas.{os-name}
use Rattle.boot_read.proofs.places.os_name.Goals as goal

pub known_name-requires : goal.known_name-requires
known_name-requires c = os-name _ c.as_slice.ensures.name

use Rattle.boot_read.proofs.PathLemmas.{sum-name}
use Rattle.boot_read.proofs.places.sum_name.Goals as goal

pub known_name-requires : goal.known_name-requires
known_name-requires c = sum-name _ c.to_hex.ensures.digits

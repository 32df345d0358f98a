-- What lies in a folder isn't the root.
use Rattle.std.proofs.Common.{◌≢◌, []}
use Rattle.ost_types.specs.Path.{Name, Path, under}
use Rattle.ost_types.proofs.Paths.{under-not_root}

pub not_root : (f : Path) (x : Name) → under f x ≢ []
not_root = under-not_root

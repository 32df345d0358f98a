-- Paths as texts of the host.
use Rattle.std.specs.Prelude.{ℕ, List, ◌∷◌}
use Rattle.ost_types.specs.Path.{Path, joined}

-- the path as the host reads it: `.` for the root, and each name behind a `/`
abbrev pub host_text : Path → List ℕ
host_text p = 46 ∷ joined p

-- The names of stateroots (OSTree manual, "Deployments").
use Rattle.std.specs.Prelude.{◌≤◌, ℕ, List, length}
use Rattle.repo_layout.specs.RefName.{IsPart}

-- one part of a ref's name, of at most 64 bytes
pub record IsOsName (name : List ℕ) : Type 0 where
  pub part : IsPart name
  pub short : length name ≤ 64

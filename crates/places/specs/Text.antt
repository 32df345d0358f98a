-- The one run of bytes that a place holds.
use Rattle.std.specs.Prelude.{◌≡◌, ℕ, List}
use Rattle.ost_types.specs.Path.{AreNames}
use Rattle.ost_types.specs.Flat.{flat, names_of}

-- the flat list of a path
pub record IsFlat (text : List ℕ) : Type 0 where
  pub whole : text ≡ flat (names_of text)
  pub names : AreNames (names_of text)

-- The file of a ref (OSTree manual, "Anatomy of an OSTree repository", Refs).
use Rattle.std.specs.Prelude.{◌≡◌, ◌++◌, ◌∷◌, [], ℕ, List, length}
use Rattle.hex.specs.Hex.{IsBytes}
use Rattle.ost_types.specs.Csum.{hex_of}

-- the sum by which an object is named
pub record IsSum (sum : List ℕ) : Type 0 where
  pub whole : length sum ≡ 32
  pub bytes : IsBytes sum

-- what the file holds: the 64 digits of the commit's name, and a newline
abbrev pub ref_text : List ℕ → List ℕ
ref_text commit = hex_of commit ++ 10 ∷ []

-- What the calls of a source and of a sink do to bytes that are told.
use Rattle.std.specs.Prelude.{◌≡◌, ◌⊎◌, ◌<◌, ℕ, List, [], ◌∷◌, ◌++◌, length, take, drop, Option, Some, Result, Ok, Err}
use Rattle.fs_trait.specs.declared.streams.SourceErr.{SourceErr}
use Rattle.fs_trait.specs.declared.streams.SinkErr.{SinkErr}

-- The front of the slice has the next bytes, and they aren't left any more; none of a slice that isn't empty is the end.
pub record TakesNext (bytes into : List ℕ) (n : ℕ) (left : Option (List ℕ)) : Type 0 where
  pub front : take n into ≡ take n bytes
  pub rest : left ≡ Some (drop n bytes)
  pub end : n ≡ 0 → 0 < length into → bytes ≡ []

abbrev pub Takes : List ℕ → List ℕ → Result ℕ SourceErr → Option (List ℕ) → Type 0
Takes bytes into (Ok n) left = TakesNext bytes into n left
Takes bytes into (Err e) left = left ≡ Some bytes

-- the front of the bytes was written behind what the sink has
abbrev pub Puts : List ℕ → List ℕ → Result ℕ SinkErr → Option (List ℕ) → Type 0
Puts had bytes (Ok n) taken = taken ≡ Some (had ++ take n bytes)
Puts had bytes (Err e) taken = taken ≡ Some had

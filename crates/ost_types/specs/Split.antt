-- The bytes of names, each behind a `/`.
use Rattle.std.specs.Prelude.{◌≡◌, ◌≢◌, ℕ, List, [], ◌∷◌, length}
use Rattle.ost_types.specs.Path.{Path, AreNames, joined}

abbrev pub BeginsWithSlash : List ℕ → Type 0
BeginsWithSlash text = (rest : List ℕ) × (text ≡ 47 ∷ rest)

-- nothing, or bytes of which the first is `/`
abbrev pub StartsName : List ℕ → Type 0
StartsName [] = Unit {0}
StartsName (b ∷ t) = b ≡ 47

-- the number of names of these bytes, where each name stands behind a `/`, and None where some name isn't one
abbrev pub HasNames : List ℕ → ℕ → Type 0
HasNames bytes count = (p : Path) × AreNames p × (joined p ≡ bytes) × (length p ≡ count)

abbrev pub HasNoNames : List ℕ → Type 0
HasNoNames bytes = (p : Path) → AreNames p → joined p ≢ bytes

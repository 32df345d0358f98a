-- What a sink has after a write.
use Rattle.std.specs.Prelude.{◌≡◌, ◌≤◌, ℕ, List, ◌++◌, length, take, Option, Some}

-- all the bytes behind what it had
abbrev pub Wrote : List ℕ → List ℕ → Option (List ℕ) → Type 0
Wrote had bytes taken = taken ≡ Some (had ++ bytes)

-- a front of them
abbrev pub WroteFront : List ℕ → List ℕ → Option (List ℕ) → Type 0
WroteFront had bytes taken = (n : ℕ) × (n ≤ length bytes) × (taken ≡ Some (had ++ take n bytes))

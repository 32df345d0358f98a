-- The numbers of calls.
use Rattle.std.specs.Prelude.{◌≡◌, ◌⊎◌, ◌+◌, ℕ}

-- the last number that is counted
abbrev pub last_call : ℕ
last_call = 340282366920938463463374607431768211455

-- the number of the next call; after the last one it stays, and no plan names one so great
abbrev pub IsNext : ℕ → ℕ → Type 0
IsNext before now = (now ≡ before + 1) ⊎ ((before ≡ last_call) × (now ≡ before))

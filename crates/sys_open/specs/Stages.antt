-- The actors in the order of their staging paths.
use Rattle.std.specs.Prelude.{ℕ, List, [], ◌∷◌}

abbrev pub stage_order : List ℕ
stage_order = 0 ∷ 1 ∷ 10 ∷ 11 ∷ 12 ∷ 13 ∷ 14 ∷ 15 ∷ 2 ∷ 3 ∷ 4 ∷ 5 ∷ 6 ∷ 7 ∷ 8 ∷ 9 ∷ []

-- The refs among what a map has.
use Rattle.std.specs.Prelude.{ℕ, List, Option, Some, None, option_map, filter_map}

abbrev pub row : List ℕ × Option (List ℕ) → Option (List ℕ × List ℕ)
row e = option_map (λ c. (e.0, c)) e.1

abbrev pub rows_of : List (List ℕ × Option (List ℕ)) → List (List ℕ × List ℕ)
rows_of = filter_map row

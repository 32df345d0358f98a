-- A path as one list of bytes: each name with a zero behind it. No name holds a zero, so the names can be read back, and
-- as zero is below every other byte, the order of these lists is the order of the paths.
use Rattle.std.specs.Prelude.{ℕ, zero, suc, List, [], ◌∷◌, ◌++◌}
use Rattle.ost_types.specs.Path.{Path}

unfoldable pub flat : Path → List ℕ
flat [] = []
flat (x ∷ p) = x ++ 0 ∷ flat p

-- a byte before a path's first name; a zero ends a name, here the empty one
abbrev pub begun_by : ℕ → Path → Path
begun_by zero p = [] ∷ p
begun_by (suc b) [] = (suc b ∷ []) ∷ []
begun_by (suc b) (x ∷ p) = (suc b ∷ x) ∷ p

-- the names that such a list holds
unfoldable pub names_of : List ℕ → Path
names_of [] = []
names_of (b ∷ t) = begun_by b (names_of t)

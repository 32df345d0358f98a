-- What is kept for the file system itself.
use Rattle.std.specs.Prelude.{◌≡◌, ◌⊎◌, List, [], ◌∷◌, codes}
use Rattle.std.specs.List.{Any}
use Rattle.ost_types.specs.Path.{Name, Path}

-- the file of a folder's attributes, in each folder
abbrev pub IsReserved : Name → Type 0
IsReserved x = x ≡ codes ".ost-folder"

-- the place at the top in which nodes are made and removed, and all below it
abbrev pub IsInPlace : Path → Type 0
IsInPlace [] = ⊥
IsInPlace (x ∷ p) = x ≡ codes ".ost-new"

abbrev pub HasReserved : Path → Type 0
HasReserved p = Any IsReserved p ⊎ IsInPlace p

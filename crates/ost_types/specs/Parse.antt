-- What a text of a path is read as. All is said by the text that a path has, `text_of`: each name behind a `/`, and `/` alone for the root.
use Rattle.std.specs.Prelude.{◌≡◌, ◌≢◌, ◌≤◌, ◌<◌, ℕ, List, length, Result, Ok, Err}
use Rattle.ost_types.specs.Path.{Path, AreNames, text_of}
use Rattle.ost_types.specs.Split.{BeginsWithSlash}
use Rattle.ost_types.specs.declared.path.parse.PathFault.{PathFault}
use Rattle.ost_types.specs.declared.path.parse.PathFault.TheVariants.{Empty, BadName, TooLong, TooDeep, NoMemory}

-- some names, of which this is the text
abbrev pub IsSomeText : List ℕ → Type 0
IsSomeText text = (p : Path) × AreNames p × (text_of p ≡ text)

-- Each answer of `parse`. No two of the first five hold of one text, so the text alone says which of them it is.
abbrev pub IsParsed : List ℕ → Result Path PathFault → Type 0
IsParsed text (Ok p) = AreNames p × (text_of p ≡ text) × (length text ≤ 1024) × (length p ≤ 64)
IsParsed text (Err Empty) = BeginsWithSlash text → ⊥
IsParsed text (Err BadName) = BeginsWithSlash text × ((p : Path) → AreNames p → text_of p ≢ text)
IsParsed text (Err TooLong) = IsSomeText text × (1024 < length text)
IsParsed text (Err TooDeep) = ((p : Path) × AreNames p × (text_of p ≡ text) × (64 < length p)) × (length text ≤ 1024)
IsParsed text (Err NoMemory) = Unit {0}

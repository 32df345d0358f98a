-- A folder that is open.
use Rattle.std.specs.Prelude.{List, drop}
use Rattle.ost_types.specs.Path.{Name, Path}

-- Its path, and the names in it that weren't seen to yet, the next one first.
pub record Opened : Type 0 where
  pub path : Path
  pub names : List Name

-- the same once the next name was seen to
abbrev pub passed : Opened → Opened
passed f = record f { names = drop 1 f.names }

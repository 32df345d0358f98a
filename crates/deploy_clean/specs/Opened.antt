-- A stateroot in hand.
use Rattle.std.specs.Prelude.{◌≡◌, ◌<◌, List, length, drop, Option, Some, None}
use Rattle.ost_types.specs.Path.{Name}
use Rattle.repo_layout.specs.OsName.{IsOsName}

-- Its name, and the names in the folder of its deployments that weren't seen to yet, the next one first.
pub record Opened : Type 0 where
  pub os : Name
  pub names : List Name

-- the same once the next name was seen to
abbrev pub passed : Opened → Opened
passed o = record o { names = drop 1 o.names }

-- what there is to see to of a name: of no stateroot nothing; and no more names than there is memory for
abbrev pub IsOpenedAs : Name → Option Opened → Type 0
IsOpenedAs name None = ¬ (IsOsName name)
IsOpenedAs name (Some o) = IsOsName name × (o.os ≡ name) × (length o.names < 18446744073709551616)

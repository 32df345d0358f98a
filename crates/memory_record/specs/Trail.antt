-- The values of a view's names.
use Rattle.std.specs.Prelude.{◌≡◌, List, [], Option, Some, None}
use Rattle.ost_types.specs.Path.{Path}
use Rattle.fs_trait.specs.declared.types.Value.{Value}
use Rattle.fs_trait.specs.View.{Disk, View}
use Rattle.memory_table.specs.Tree.{Holds}
use Rattle.memory_table.specs.Ties.{Ties}
use Rattle.memory_record.specs.declared.trail.Trail.{Trail}

-- the older values, if there are any
abbrev pub kept : List Value → Option (List Value)
kept [] = None
kept xs = Some xs

-- the trail has the values that each name has in the view; of files it tells nothing
pub record Shows (t : Trail) (v : View) : Type 0 where
  pub disk : Disk
  pub ties : Ties t.table disk
  pub same : (p : Path) → disk.at p ≡ v.now.at p
  pub older : Holds t.older (λ p. kept (v.older p))

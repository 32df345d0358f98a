-- A system as plain data: the file system with the books, and the lanes with their commands, tasks and replies so far; the bounds on what
-- the repository takes in, and how many objects are in it.
use Rattle.std.specs.Prelude.{ℕ, List}
use Rattle.ost_types.specs.declared.limits.Limits.{Limits}
use Rattle.rely_guarantee.specs.declared.books.Base.{Base}
use Rattle.lane_system.specs.declared.lane.Lane.{Lane}

pub record System (F T W A : Type 0) : Type 0 where
  pub base : Base F
  pub lanes : List (Lane T W A)
  pub limits : Limits
  pub objects : ℕ

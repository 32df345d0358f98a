-- The marking of what stays, as plain data.
use Rattle.std.specs.Prelude.{ℕ}
use Rattle.prune_mark.specs.Marking.{State}

pub record Marks : Type 0 where
  pub marking : State
  -- at most so many steps go on
  pub left : ℕ

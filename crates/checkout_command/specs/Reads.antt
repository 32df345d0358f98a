-- The task while the tree is read, as plain data.
use Rattle.tree_read.specs.Reading.{Reading}
use Rattle.checkout_command.specs.declared.request.Request.{Request}

-- what is asked for, and what was read so far
pub record Reads : Type 0 where
  pub request : Request
  pub task : Reading

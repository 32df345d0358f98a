-- What a prune was asked.
use Rattle.std.specs.Prelude.{◌≡◌, ℕ}
use Rattle.prune_command.specs.declared.command.PruneCommand.{PruneCommand}

abbrev pub lane_of : PruneCommand → ℕ
lane_of t = t.lane

-- how many parents of each root stay
abbrev pub depth_of : PruneCommand → ℕ
depth_of t = t.depth

-- the most bytes of a file's content
abbrev pub content_of : PruneCommand → ℕ
content_of t = t.limits.content

abbrev pub IsSame : PruneCommand → PruneCommand → Type 0
IsSame t new = (lane_of new ≡ lane_of t) × (depth_of new ≡ depth_of t) × (content_of new ≡ content_of t)

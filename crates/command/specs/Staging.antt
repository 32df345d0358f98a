-- Where no folder stands.
use Rattle.std.specs.Prelude.{ℕ}
use Rattle.fs_trait.specs.View.{View}
use Rattle.fs_trait.specs.Seen.{NotDirectory, shows}
use Rattle.repo_layout.specs.Paths.{stage_path}

-- none stands where the actor stages
abbrev pub StagingPathFree : ℕ → View → Type 0
StagingPathFree actor v = NotDirectory (shows v.now (stage_path actor))

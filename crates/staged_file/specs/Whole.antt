-- A whole run of a staged file: where it may begin, what it writes, and why it ends early.
use Rattle.std.specs.Prelude.{◌≡◌, ◌⊎◌, true, false}
use Rattle.ost_types.specs.Path.{Name, Path, under}
use Rattle.fs_trait.specs.declared.types.FsErr.{FsErr}
use Rattle.fs_trait.specs.declared.types.FsErr.TheVariants.{Failed, NoMemory, Exists}
use Rattle.fs_trait.specs.View.{Disk, View}
use Rattle.fs_trait.specs.Image.{is_folder}
use Rattle.fs_trait.specs.Seen.{Seen, shows, IsDirectory, NotDirectory}
use Rattle.staged_file.specs.declared.phase.Phase.TheVariants.{Clear}
use Rattle.staged_file.specs.Staged.{Staged}
use Rattle.staged_file.specs.Steps.{IsPlaced, IsFileWith}

-- What reads must see where a new task may begin, after a sync of all: the folders of its target and of its staging path, and no
-- folder at the staging path.
pub record MayBegin (t : Staged) (d : Disk) : Type 0 where
  pub new : t.phase ≡ Clear
  pub placed : IsPlaced t.stage t.folder t.at
  pub folder : is_folder (d.at t.folder) ≡ true
  pub home : (g : Path) (y : Name) → t.stage ≡ under g y → is_folder (d.at g) ≡ true
  pub leaf : is_folder (d.at t.stage) ≡ false

-- what all steps together may write: no folder at the staging path, and the file at the target, with its attributes and bytes
abbrev pub Written : Staged → Path → Seen → Type 0
Written t p s = ((p ≡ t.stage) × NotDirectory s) ⊎ ((p ≡ t.at) × IsFileWith t.meta t.bytes s)

-- why the task ended early
abbrev pub Stops : Staged → View → FsErr → Type 0
Stops t v Failed = Unit {0}
Stops t v NoMemory = Unit {0}
Stops t v Exists = IsDirectory (shows v.now t.at)
Stops t v e = ⊥

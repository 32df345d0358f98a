-- What a system begins with.
use Rattle.std.specs.Prelude.{◌≡◌, ◌≤◌, ℕ, true}
use Rattle.ost_types.specs.Path.{Path}
use Rattle.fs_trait.specs.View.{Disk, View}
use Rattle.fs_trait.specs.Image.{is_folder}
use Rattle.fs_trait.specs.Seen.{shows, Always}
use Rattle.repo_layout.specs.declared.folder.Folder.{Folder}
use Rattle.repo_layout.specs.Paths.{folder_path}
use Rattle.layout_rules.specs.Checks.{IsSane}
use Rattle.rely_guarantee.specs.State.{State}
use Rattle.rely_guarantee.specs.Disks.{Logical}

-- After a sync of all each crash leaves what is there: a sane disk with all folders of the layout, and with this state.
pub record IsOpening (start : State) (v : View) : Type 0 where
  pub settled : (p : Path) → Always v p (shows v.now p)
  pub folders : (f : Folder) → is_folder (v.now.at (folder_path f)) ≡ true
  pub sane : IsSane v.now
  pub state : Logical v.now start

-- Each disk that a crash left since this moment is sane, and has this state.
abbrev pub HasSince : (ℕ → Disk → Type 0) → ℕ → State → Type 0
HasSince left opened start = (t : ℕ) (d : Disk) → opened ≤ t → left t d → IsSane d × Logical d start

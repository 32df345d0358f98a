-- What the opening changes.
use Rattle.std.specs.Prelude.{◌≡◌, ◌≢◌, ◌⊎◌, ◌≤◌, ◌<◌, ℕ, true, IsTrue, List, [], Option}
use Rattle.ost_types.specs.declared.meta.Meta.{Meta}
use Rattle.ost_types.specs.Path.{Name, Path, is_below, under}
use Rattle.fs_trait.specs.declared.types.Value.TheVariants.{Absent}
use Rattle.fs_trait.specs.View.{Disk, View}
use Rattle.fs_trait.specs.Image.{is_folder, Told}
use Rattle.fs_trait.specs.Seen.{Seen, Vacant, Directory, shows}
use Rattle.fs_trait.specs.Change.{OfInode, Writes}
use Rattle.fs_trait.specs.declared.task.Need.TheVariants as need
use Rattle.repo_layout.specs.declared.folder.Folder.{Folder}
use Rattle.repo_layout.specs.declared.folder.Folder.TheVariants.{Repo}
use Rattle.repo_layout.specs.Paths.{config_path, folder_path, stage_path}
use Rattle.repo_config.specs.Config.{config_text}
use Rattle.staged_file.specs.declared.phase.Phase.TheVariants.{Clear}
use Rattle.staged_file.specs.Staged.{Staged}
use Rattle.staged_file.specs.Steps.{IsFileWith}
use Rattle.ref_room.specs.Way.{folder_meta}
use Rattle.sys_open.specs.Damages.{ShowsConfig}
use Rattle.sys_open.specs.LeftOver.{IsLeftOver, LiesBelow, LiesIn}

-- A folder that is there from the beginning comes where nothing stood.
abbrev pub Lays : Disk → Path → Seen → Type 0
Lays d p s = ((f : Folder) × (p ≡ folder_path f)) × (s ≡ Directory folder_meta) × (shows d p ≡ Vacant)

-- what stands at a path or below it goes
abbrev pub Clears : Path → Path → Seen → Type 0
Clears at p s = IsTrue (is_below at p) × (s ≡ Vacant)

-- what stands at a staging path goes, with all that is in it
abbrev pub ClearsStages : Path → Seen → Type 0
ClearsStages p s = (actor : ℕ) × (actor < 16) × Clears (stage_path actor) p s

-- the attributes of the configuration: owner 0, group 0, mode 0100644, no extended ones
abbrev pub file_meta : Meta
file_meta = record { uid = 0; gid = 0; mode = 33188; xattrs = [] }

-- A file with these attributes is staged, and comes to its place whole.
abbrev pub Puts : Path → Path → Meta → List ℕ → Path → Seen → Type 0
Puts stage at meta bytes p s = ((p ≡ stage) × ((s ≡ Vacant) ⊎ ((n : ℕ) × OfInode n meta s))) ⊎ ((p ≡ at) × IsFileWith meta bytes s)

-- The configuration comes where nothing stood.
pub record PutsConfig (d : Disk) (p : Path) (s : Seen) : Type 0 where
  pub none : shows d config_path ≡ Vacant
  pub puts : Puts (stage_path 0) config_path file_meta config_text p s

-- what is at the staging path goes, and then the configuration comes
abbrev pub Configures : Disk → Path → Seen → Type 0
Configures d p s = ClearsStages p s ⊎ PutsConfig d p s

-- the task that puts it there
abbrev pub of_config : Staged
of_config = record { stage = stage_path 0; folder = folder_path Repo; at = config_path; meta = file_meta; bytes = config_text; lock = need.Nothing; phase = Clear; written = 0 }

-- what stands at one of these paths goes, with all that is in it
abbrev pub ClearsAll : List Path → Path → Seen → Type 0
ClearsAll paths p s = LiesBelow paths p × (s ≡ Vacant)

-- what no list boots goes, with all that is in it
abbrev pub ClearsUnlisted : Disk → Path → Seen → Type 0
ClearsUnlisted d p s = LiesIn d p × (s ≡ Vacant)

abbrev pub Changes : Disk → Path → Seen → Type 0
Changes d p s = Lays d p s ⊎ ClearsStages p s ⊎ PutsConfig d p s ⊎ ClearsUnlisted d p s

-- The other disk shows what this one shows, but where a folder or the configuration came, a staging path was cleared, or what no list
-- boots went.
abbrev pub Keeps : Disk → Disk → Type 0
Keeps d e = (p : Path) → (shows e p ≡ shows d p) ⊎ Changes d p (shows e p)

-- A run of calls from a view that is told: it writes nothing but what W names, at each moment of it.
pub record Works (W : Path → Seen → Type 0) (v : View) (before now : ℕ) (past since : ℕ → View → Type 0) (view : Option View) : Type 0 where
  pub later : before ≤ now
  pub left : Told view (λ w. Writes W v w)
  pub nothing_else : (t : ℕ) (w : View) → since t w → past t w ⊎ Writes W v w
  pub keeps : (t : ℕ) (w : View) → t ≤ before → past t w → since t w

-- what stands in a folder goes, with all below it
abbrev pub ClearsInside : Path → Path → Seen → Type 0
ClearsInside at p s = (x : Name) × Clears (under at x) p s

-- an empty folder, which isn't the root
pub record IsEmptied (d : Disk) (at : Path) : Type 0 where
  pub folder : is_folder (d.at at) ≡ true
  pub below_root : at ≢ []
  pub empty : (x : Name) → d.at (under at x) ≡ Absent

-- All folders that are there from the beginning are, the configuration is, and nothing stands at a staging path, or at one of what no
-- list of that disk boots.
pub record IsArranged (was d : Disk) : Type 0 where
  pub folders : (f : Folder) → is_folder (d.at (folder_path f)) ≡ true
  pub staging : (actor : ℕ) → actor < 16 → shows d (stage_path actor) ≡ Vacant
  pub config : ShowsConfig (shows d config_path)
  pub left_over : (q : Path) → IsLeftOver was q → shows d q ≡ Vacant

-- What each step of a staged file needs, writes and is refused for.
use Rattle.std.specs.Prelude.{◌≡◌, ◌≢◌, ℕ, false, List}
use Rattle.ost_types.specs.declared.meta.Meta.{Meta}
use Rattle.ost_types.specs.Path.{Name, Path, under, is_below}
use Rattle.fs_trait.specs.declared.types.FsErr.{FsErr}
use Rattle.fs_trait.specs.declared.types.FsErr.TheVariants.{Failed, NoMemory, Exists}
use Rattle.fs_trait.specs.View.{View}
use Rattle.fs_trait.specs.Seen.{Seen, Vacant, Leaf, shows, IsDirectory, NotDirectory}
use Rattle.fs_trait.specs.Change.{Meets, Moves, LeadsTo, Own}
use Rattle.staging.specs.Steps as staging
use Rattle.staged_file.specs.declared.phase.Phase.{Phase}
use Rattle.staged_file.specs.declared.phase.Phase.TheVariants.{Clear, Create, Append, SyncFile, Look, Replace, SyncFolder, Ended}
use Rattle.staged_file.specs.Staged.{Staged, draft_of, stage_in}

-- where the task's paths lie: the target in its folder, and the staging path elsewhere, not on the way there
pub record IsPlaced (stage folder at : Path) : Type 0 where
  pub apart : stage ≢ at
  pub staging : (g : Path) × (y : Name) × (stage ≡ under g y)
  pub aside : is_below stage folder ≡ false
  pub inside : (x : Name) × (at ≡ under folder x)

-- a regular file with these attributes and bytes
abbrev pub IsFileWith : Meta → List ℕ → Seen → Type 0
IsFileWith m b s = (n : ℕ) × (s ≡ Leaf n m b)

-- the staged file, with all its bytes
abbrev pub IsWhole : Staged → View → Seen → Type 0
IsWhole t v s = staging.IsWhole (draft_of t) v s

-- what the next step may write
abbrev pub writes_in : Phase → Staged → View → Path → Seen → Type 0
writes_in Replace t v p s = Moves t.stage t.at (IsWhole t v) p s
writes_in ph t v p s = staging.writes_in (stage_in ph) (draft_of t) v p s

abbrev pub WritesOf : Staged → View → Path → Seen → Type 0
WritesOf t v = writes_in t.phase t v

-- at the path an inode has these attributes and bytes
abbrev pub FixedFile : Path → ℕ → Meta → List ℕ → Path → Seen → Type 0
FixedFile at n m b p s = (k : Meta) (c : List ℕ) → p ≡ at → s ≡ Leaf n k c → (k ≡ m) × (c ≡ b)

-- what it needs of all that a crash may leave of any path: that folders lead to the target, that the staged file stands nowhere else,
-- that its attributes and bytes are sure
abbrev pub firm_in : Phase → Staged → ℕ → Path → Seen → Type 0
firm_in Clear t n p s = LeadsTo t.folder p s
firm_in Create t n p s = LeadsTo t.folder p s
firm_in Append t n p s = LeadsTo t.folder p s × Own n t.stage p s
firm_in SyncFile t n p s = LeadsTo t.folder p s × Own n t.stage p s
firm_in Look t n p s = LeadsTo t.folder p s × Own n t.stage p s × FixedFile t.stage n t.meta t.bytes p s
firm_in Replace t n p s = LeadsTo t.folder p s × Own n t.stage p s × FixedFile t.stage n t.meta t.bytes p s
firm_in SyncFolder t n p s = LeadsTo t.folder p s × FixedFile t.at n t.meta t.bytes p s
firm_in Ended t n p s = LeadsTo t.folder p s × (p ≡ t.at → IsFileWith t.meta t.bytes s)

abbrev pub FirmOf : Staged → ℕ → Path → Seen → Type 0
FirmOf t n = firm_in t.phase t n

-- and of what is there now
abbrev pub here_in : Phase → Staged → ℕ → Path → Seen → Type 0
here_in Replace t n p s = (p ≡ t.stage → s ≡ Leaf n t.meta t.bytes) × (p ≡ t.at → NotDirectory s)
here_in SyncFolder t n p s = (p ≡ t.at → s ≡ Leaf n t.meta t.bytes) × (p ≡ t.stage → s ≡ Vacant)
here_in Ended t n p s = p ≡ t.stage → s ≡ Vacant
here_in ph t n p s = staging.here_in (stage_in ph) (draft_of t) n p s

abbrev pub HereOf : Staged → ℕ → Path → Seen → Type 0
HereOf t n = here_in t.phase t n

-- What the next step needs.
pub record Needs (t : Staged) (v : View) : Type 0 where
  pub placed : IsPlaced t.stage t.folder t.at
  pub inode : ℕ
  pub meets : Meets (FirmOf t inode) (HereOf t inode) v

-- Why a step isn't done: the call failed or wanted for memory, or a folder stands where the file is to go.
abbrev pub Refuses : Staged → View → FsErr → Type 0
Refuses t v Failed = Unit {0}
Refuses t v NoMemory = Unit {0}
Refuses t v Exists = (t.phase ≡ Look) × IsDirectory (shows v.now t.at)
Refuses t v e = ⊥

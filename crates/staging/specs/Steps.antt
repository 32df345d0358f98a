-- What each step of a file that is staged needs, writes and is refused for.
use Rattle.std.specs.Prelude.{◌≡◌, ℕ, true, take}
use Rattle.ost_types.specs.Path.{Name, Path, under, is_in}
use Rattle.fs_trait.specs.declared.types.FsErr.{FsErr}
use Rattle.fs_trait.specs.declared.types.FsErr.TheVariants.{Failed, NoMemory}
use Rattle.fs_trait.specs.declared.types.Value.TheVariants.{File}
use Rattle.fs_trait.specs.View.{View}
use Rattle.fs_trait.specs.Effect.{IsFresh}
use Rattle.fs_trait.specs.Seen.{Seen, Vacant, Leaf, IsDirectory, NotDirectory}
use Rattle.fs_trait.specs.Change.{Meets, OfInode, Own, Fixed}
use Rattle.staging.specs.declared.phase.Phase.{Phase}
use Rattle.staging.specs.declared.phase.Phase.TheVariants.{Clear, Create, Append, SyncFile, Ended}
use Rattle.staging.specs.Draft.{Draft}

-- the staging path is a name in some folder
abbrev pub IsPlaced : Path → Type 0
IsPlaced stage = (g : Path) × (y : Name) × (stage ≡ under g y)

-- a new file with its attributes
abbrev pub IsBegun : Draft → View → Seen → Type 0
IsBegun t v s = (n : ℕ) × OfInode n t.meta s × IsFresh n v

-- the staged file, with any bytes
abbrev pub IsPart : Draft → View → Seen → Type 0
IsPart t v s = (n : ℕ) × OfInode n t.meta s × (v.now.at t.stage ≡ File n)

-- the staged file, with its attributes and all its bytes
abbrev pub IsWhole : Draft → View → Seen → Type 0
IsWhole t v s = (n : ℕ) × (s ≡ Leaf n t.meta t.bytes) × (v.now.at t.stage ≡ File n)

-- what the next step may write
abbrev pub writes_in : Phase → Draft → View → Path → Seen → Type 0
writes_in Clear t v p s = (p ≡ t.stage) × (s ≡ Vacant)
writes_in Create t v p s = (p ≡ t.stage) × IsBegun t v s
writes_in Append t v p s = (p ≡ t.stage) × IsPart t v s
writes_in SyncFile t v p s = ⊥
writes_in Ended t v p s = ⊥

abbrev pub WritesOf : Draft → View → Path → Seen → Type 0
WritesOf t v = writes_in t.phase t v

-- What it needs of all that a crash may leave: that the file stands nowhere else, and that its bytes are synced;
abbrev pub firm_in : Phase → Draft → ℕ → Path → Seen → Type 0
firm_in Clear t n p s = Unit {0}
firm_in Create t n p s = Unit {0}
firm_in Append t n p s = Own n t.stage p s
firm_in SyncFile t n p s = Own n t.stage p s
firm_in Ended t n p s = Own n t.stage p s × Fixed t.stage n t.bytes p s

abbrev pub FirmOf : Draft → ℕ → Path → Seen → Type 0
FirmOf t n = firm_in t.phase t n

-- and of what is there now.
abbrev pub here_in : Phase → Draft → ℕ → Path → Seen → Type 0
here_in Clear t n p s = (p ≡ t.stage → NotDirectory s) × (is_in p t.stage ≡ true → IsDirectory s)
here_in Create t n p s = (p ≡ t.stage → s ≡ Vacant) × (is_in p t.stage ≡ true → IsDirectory s)
here_in Append t n p s = p ≡ t.stage → s ≡ Leaf n t.meta (take t.written t.bytes)
here_in SyncFile t n p s = p ≡ t.stage → s ≡ Leaf n t.meta t.bytes
here_in Ended t n p s = p ≡ t.stage → s ≡ Leaf n t.meta t.bytes

abbrev pub HereOf : Draft → ℕ → Path → Seen → Type 0
HereOf t n = here_in t.phase t n

-- What the next step needs.
pub record Needs (t : Draft) (v : View) : Type 0 where
  pub placed : IsPlaced t.stage
  pub inode : ℕ
  pub meets : Meets (FirmOf t inode) (HereOf t inode) v

-- Why a step isn't done: the call failed or wanted for memory.
abbrev pub Refuses : Draft → View → FsErr → Type 0
Refuses t v Failed = Unit {0}
Refuses t v NoMemory = Unit {0}
Refuses t v e = ⊥

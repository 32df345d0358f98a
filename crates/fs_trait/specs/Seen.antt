-- What a path shows on a disk, and what it may show after a crash.
use Rattle.std.specs.Prelude.{◌≡◌, ℕ, IsTrue, List, Option, Some, None}
use Rattle.ost_types.specs.declared.meta.Meta.{Meta}
use Rattle.ost_types.specs.Path.{Path}
use Rattle.fs_trait.specs.declared.types.Value.{Value}
use Rattle.fs_trait.specs.declared.types.Value.TheVariants.{Absent, Folder, Link, File}
use Rattle.fs_trait.specs.View.{Disk, View}
use Rattle.fs_trait.specs.Image.{Holds}

-- a leaf has its inode's number, attributes and bytes
pub data Seen : Type 0 where
  Vacant : Seen
  Directory : Meta → Seen
  Symlink : Meta → List ℕ → Seen
  Leaf : ℕ → Meta → List ℕ → Seen

abbrev pub seen : Disk → Value → Seen
seen d Absent = Vacant
seen d (Folder m) = Directory m
seen d (Link m t) = Symlink m t
seen d (File n) = Leaf n (d.meta n) (d.bytes n)

-- what the path shows
abbrev pub shows : Disk → Path → Seen
shows d p = seen d (d.at p)

-- a crash may make a name with this value show that: an inode that isn't synced, any bytes
abbrev pub MayShow : View → Value → Seen → Type 0
MayShow v Absent s = s ≡ Vacant
MayShow v (Folder m) s = s ≡ Directory m
MayShow v (Link m t) s = s ≡ Symlink m t
MayShow v (File n) s = (b : List ℕ) × (s ≡ Leaf n (v.now.meta n) b) × (IsTrue (v.synced n) → b ≡ v.now.bytes n)

-- a crash now may leave this at the path, as far as the name itself goes
pub record MayBe (v : View) (p : Path) (s : Seen) : Type 0 where
  pub value : Value
  pub held : Holds v p value
  pub shown : MayShow v value s

-- a crash now leaves this there
pub record Always (v : View) (p : Path) (s : Seen) : Type 0 where
  pub each : (x : Seen) → MayBe v p x → x ≡ s

abbrev pub IsDirectory : Seen → Type 0
IsDirectory (Directory m) = Unit {0}
IsDirectory s = ⊥

abbrev pub NotDirectory : Seen → Type 0
NotDirectory (Directory m) = ⊥
NotDirectory s = Unit {0}

-- the bytes of a regular file
abbrev pub bytes_in : Seen → Option (List ℕ)
bytes_in (Leaf n m b) = Some b
bytes_in s = None

-- a regular file of this inode with these bytes
abbrev pub IsFile : ℕ → List ℕ → Seen → Type 0
IsFile n b s = (m : Meta) × (s ≡ Leaf n m b)

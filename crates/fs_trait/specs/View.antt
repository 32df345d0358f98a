-- The view of a file system, and what the changing calls make of it.
use Rattle.std.specs.Prelude.{◌≡◌, ◌⊎◌, ℕ, Bool, true, false, List, [], ◌∷◌, ◌++◌, if◌then◌else◌, ◌==◌}
use Rattle.ost_types.specs.declared.meta.Meta.{Meta}
use Rattle.ost_types.specs.Path.{Path, same_path, is_in}
use Rattle.fs_trait.specs.declared.types.Value.{Value}
use Rattle.fs_trait.specs.declared.types.Value.TheVariants.{Absent, Folder, Link, File}

-- what reads see: what stands at each path, and the attributes and bytes of each inode
pub record Disk : Type 0 where
  pub at : Path → Value
  pub meta : ℕ → Meta
  pub bytes : ℕ → List ℕ

-- what reads see now, the other values that each name had since its folder was last synced, oldest first,
-- and which inodes' bytes are synced
pub record View : Type 0 where
  pub now : Disk
  pub older : Path → List Value
  pub synced : ℕ → Bool

-- the function with one value changed
unfoldable pub put : {A : Type 0} → Path → A → (Path → A) → Path → A
put p x f q = if same_path p q then x else f q

unfoldable pub put_inode : {A : Type 0} → ℕ → A → (ℕ → A) → ℕ → A
put_inode n x f m = if n == m then x else f m

-- a disk with another value at a path, or other bytes in an inode
abbrev pub set_at : Path → Value → Disk → Disk
set_at p x d = record d { at = put p x d.at }

abbrev pub set_meta : ℕ → Meta → Disk → Disk
set_meta n m d = record d { meta = put_inode n m d.meta }

abbrev pub set_bytes : ℕ → List ℕ → Disk → Disk
set_bytes n b d = record d { bytes = put_inode n b d.bytes }

-- the name has this value from now on
unfoldable pub named : Path → Value → View → View
named p x v = record v { now = set_at p x v.now; older = put p (v.older p ++ v.now.at p ∷ []) v.older }

-- a new empty file of a fresh inode
unfoldable pub created : Path → Meta → ℕ → View → View
created p m n v = named p (File n) (record v { now = set_bytes n [] (set_meta n m v.now); synced = put_inode n false v.synced })

unfoldable pub moved : Path → Path → View → View
moved from to v = named from Absent (named to (v.now.at from) v)

-- more bytes in an inode, which isn't synced from now on
unfoldable pub extended : ℕ → List ℕ → View → View
extended n more v = record v { now = set_bytes n (v.now.bytes n ++ more) v.now; synced = put_inode n false v.synced }

unfoldable pub file_synced : ℕ → View → View
file_synced n v = record v { synced = put_inode n true v.synced }

-- each name directly in the folder keeps its last value alone
unfoldable pub folder_synced : Path → View → View
folder_synced f v = record v { older = λ q. if is_in f q then [] else v.older q }

unfoldable pub all_synced : View → View
all_synced v = record v { older = λ q. []; synced = λ n. true }

-- the view of a disk on which everything is synced
abbrev pub settled : Disk → View
settled d = record { now = d; older = λ q. []; synced = λ n. true }

-- The view after a record of changes.
use Rattle.std.specs.Prelude.{◌≡◌, ◌≤◌, ◌<◌, ℕ, true, if◌then◌else◌, List, [], ◌∷◌, length, take}
use Rattle.ost_types.specs.declared.meta.Meta.{Meta}
use Rattle.ost_types.specs.Path.{Path}
use Rattle.fs_trait.specs.declared.types.Value.TheVariants.{Absent, Folder, File}
use Rattle.fs_trait.specs.View.{View, put, named, created, moved, extended, file_synced, folder_synced, all_synced}
use Rattle.fs_trait.specs.Image.{Holds, IsTree}
use Rattle.memory_table.specs.Filled.{filled}
use Rattle.memory_record.specs.declared.change.Change.{Change}
use Rattle.memory_record.specs.declared.change.Change.TheVariants.{Nothing, Name, Create, Move, Extend, SyncFile, SyncFolder, SyncAll, Crash}

-- the root folder's attributes: owner 0, group 0, mode 040755
abbrev pub root_meta : Meta
root_meta = record { uid = 0; gid = 0; mode = 16877; xattrs = [] }

-- the root folder alone
unfoldable pub empty_view : View
empty_view = record {
  now = record { at = put [] (Folder root_meta) (λ p. Absent); meta = λ n. root_meta; bytes = λ n. [] };
  older = λ p. [];
  synced = λ n. true;
}

-- a crash that leaves each name as it is, and spoils the bytes that aren't synced
unfoldable pub spoiled : ℕ → View → View
spoiled fill v = all_synced (record v { now = record v.now { bytes = λ n. if v.synced n then v.now.bytes n else filled fill (v.now.bytes n) } })

unfoldable pub apply : Change → View → View
apply Nothing v = v
apply (Name p x) v = named p x v
apply (Create p m n) v = created p m n v
apply (Move from to) v = moved from to v
apply (Extend n more) v = extended n more v
apply (SyncFile n) v = file_synced n v
apply (SyncFolder f) v = folder_synced f v
apply SyncAll v = all_synced v
apply (Crash fill) v = spoiled fill v

unfoldable pub after : View → List Change → View
after v [] = v
after v (c ∷ cs) = after (apply c v) cs

unfoldable pub view_of : List Change → View
view_of cs = after empty_view cs

-- the view at some moment since the clock was t
pub record Was (cs : List Change) (t : ℕ) (v : View) : Type 0 where
  pub moment : ℕ
  pub since : t ≤ moment
  pub until : moment ≤ length cs
  pub is : v ≡ view_of (take moment cs)

-- each inode's number is below the number of changes
abbrev pub IsNumbered : List Change → Type 0
IsNumbered cs = (q : Path) (n : ℕ) → Holds (view_of cs) q (File n) → n < length cs

-- What holds after the changes that calls record. The root never had another value.
pub record IsSound (cs : List Change) : Type 0 where
  pub tree : IsTree (view_of cs).now
  pub numbered : IsNumbered cs
  pub root : (view_of cs).older [] ≡ []

-- the same after each of them since the record had this length
abbrev pub SoundSince : ℕ → List Change → Type 0
SoundSince base cs = (k : ℕ) → base ≤ k → k ≤ length cs → IsSound (take k cs)

-- What one change does to one path, and to one file.
use Rattle.std.specs.Prelude.{◌≡◌, ℕ, Bool, true, false, List, [], ◌++◌, Option, Some, None, if◌then◌else◌, ◌==◌}
use Rattle.ost_types.specs.declared.meta.Meta.{Meta}
use Rattle.ost_types.specs.Path.{Path, AreNames}
use Rattle.ost_types.specs.Flat.{flat}
use Rattle.fs_trait.specs.View.{View}
use Rattle.fs_trait.specs.declared.types.Value as value
use Rattle.memory_record.specs.declared.change.Change.{Change}
use Rattle.memory_record.specs.declared.change.Change.TheVariants.{Name, Create, Move, Extend, SyncFile, SyncAll, Crash}
use Rattle.memory_record.specs.declared.found.Seen.{Seen}
use Rattle.memory_record.specs.declared.found.Seen.TheVariants.{Value, At}
use Rattle.memory_record.specs.declared.found.Found.{Found}
use Rattle.memory_record.specs.declared.found.Found.TheVariants as found
use Rattle.memory_table.specs.Filled.{filled}
use Rattle.memory_record.specs.Changes.{apply, root_meta}

abbrev pub value_of : Found → value.Value
value_of found.Absent = value.TheVariants.Absent
value_of found.Root = value.TheVariants.Folder root_meta
value_of (found.Folder m) = value.TheVariants.Folder m.now
value_of (found.Link m t) = value.TheVariants.Link m.now t.now
value_of (found.File n) = value.TheVariants.File n

abbrev pub IsSeen : Change → Path → Seen → Type 0
IsSeen c p (Value x) = (v : View) → (apply c v).now.at p ≡ value_of x
IsSeen c p (At t) = (q : Path) × AreNames q × (t.now ≡ flat q) × ((v : View) → (apply c v).now.at p ≡ v.now.at q)

-- the inode's bytes after a change of which it is known whether they were synced before
abbrev pub bytes_after : Change → ℕ → Bool → List ℕ → List ℕ
bytes_after (Create p m k) n s b = if k == n then [] else b
bytes_after (Extend k more) n s b = if k == n then b ++ more else b
bytes_after (Crash fill) n s b = if s then b else filled fill b
bytes_after c n s b = b

-- whether they are synced after it
abbrev pub synced_after : Change → ℕ → Bool → Bool
synced_after (Create p m k) n s = if k == n then false else s
synced_after (Extend k more) n s = if k == n then false else s
synced_after (SyncFile k) n s = if k == n then true else s
synced_after SyncAll n s = true
synced_after (Crash fill) n s = true
synced_after c n s = s

-- the inode's attributes after a change
abbrev pub meta_after : Change → ℕ → Meta → Meta
meta_after (Create p m k) n b = if k == n then m else b
meta_after c n b = b

-- the path to which a change gives a value that may be there
abbrev pub target_of : Change → Option Path
target_of (Name p x) = Some p
target_of (Create p m n) = Some p
target_of (Move from to) = Some to
target_of c = None

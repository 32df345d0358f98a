-- What a crash may leave of a view.
use Rattle.std.specs.Prelude.{◌≡◌, ◌⊎◌, ◌≤◌, ℕ, Bool, true, false, IsTrue, List, [], ◌∷◌, ◌++◌, Option, Some, None, if◌then◌else◌}
use Rattle.ost_types.specs.Path.{Name, Path, under}
use Rattle.fs_trait.specs.declared.types.Value.{Value}
use Rattle.fs_trait.specs.declared.types.Value.TheVariants.{Absent, Folder, Link, File}
use Rattle.fs_trait.specs.View.{Disk, View}

abbrev pub is_folder : Value → Bool
is_folder (Folder m) = true
is_folder x = false

-- one of the values
abbrev pub Among : List Value → Value → Type 0
Among [] x = ⊥
Among (y ∷ ys) x = (x ≡ y) ⊎ Among ys x

-- a value that the name may have after a crash
abbrev pub Holds : View → Path → Value → Type 0
Holds v p x = (x ≡ v.now.at p) ⊎ Among (v.older p) x

-- a crash may leave this disk: each name has one of its values, each by itself, but is absent where no folder is above it;
-- an inode that isn't synced may have any bytes
pub record Image (v : View) (d : Disk) : Type 0 where
  pub root : d.at [] ≡ v.now.at []
  pub held : (f : Path) (x : Name) → is_folder (d.at f) ≡ true → Holds v (under f x) (d.at (under f x))
  pub gone : (f : Path) (x : Name) → is_folder (d.at f) ≡ false → d.at (under f x) ≡ Absent
  pub meta : (n : ℕ) → d.meta n ≡ v.now.meta n
  pub bytes : (n : ℕ) → IsTrue (v.synced n) → d.bytes n ≡ v.now.bytes n

-- P holds of all that a crash may leave
abbrev pub EachImage : View → (Disk → Type 0) → Type 0
EachImage v P = (d : Disk) → Image v d → P d

-- the view is a tree: only folders have names in them, and the root is a folder
pub record IsTree (d : Disk) : Type 0 where
  pub root : is_folder (d.at []) ≡ true
  pub folders : (f : Path) (x : Name) → is_folder (d.at f) ≡ false → d.at (under f x) ≡ Absent

-- the bytes of the regular file at a path
abbrev pub bytes_of : Disk → Value → Option (List ℕ)
bytes_of d (File n) = Some (d.bytes n)
bytes_of d x = None

unfoldable pub reads : Disk → Path → Option (List ℕ)
reads d p = bytes_of d (d.at p)

-- the view is told and has this
abbrev pub Told : Option View → (View → Type 0) → Type 0
Told view P = (w : View) × (view ≡ Some w) × P w

-- a value picked for each name, but absent where no folder is above it
unfoldable pub masked_from : (Path → Value) → Path → Path → Value
masked_from pick f [] = pick f
masked_from pick f (x ∷ rest) = if is_folder (pick f) then masked_from pick (under f x) rest else Absent

-- the disk that a crash leaves which takes these values and these bytes
unfoldable pub crashed : (Path → Value) → (ℕ → List ℕ) → View → Disk
crashed pick bytes v = record { at = λ p. masked_from pick [] p; meta = v.now.meta; bytes = λ n. if v.synced n then v.now.bytes n else bytes n }

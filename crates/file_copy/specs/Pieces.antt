-- The pieces in which a file is read.
use Rattle.std.specs.Prelude.{◌≡◌, ◌≤◌, ◌+◌, ◌-◌, nat_lt, ℕ, List, length, Option, Some, None, Result, Ok, Err, if◌then◌else◌}
use Rattle.ost_types.specs.Path.{Path}
use Rattle.fs_trait.specs.declared.types.FsErr.{FsErr}
use Rattle.fs_trait.specs.declared.types.Node.{Node}
use Rattle.fs_trait.specs.declared.types.Node.TheVariants.{Folder, File, Link}
use Rattle.fs_trait.specs.View.{Disk}
use Rattle.fs_trait.specs.Image.{reads}
use Rattle.fs_trait.specs.Effect.{OfNone, part}

-- the most bytes that are read at once
abbrev pub piece : ℕ
piece = 1048576

-- where the next piece of so many bytes ends
abbrev pub piece_end : ℕ → ℕ → ℕ
piece_end size at = if nat_lt piece (size - at) then at + piece else size

-- how many bytes a regular file has
abbrev pub size_of : Option (List ℕ) → Option ℕ
size_of None = None
size_of (Some b) = Some (length b)

-- and what a look tells of that
abbrev pub size_told : Option Node → Option ℕ
size_told None = None
size_told (Some (Folder m)) = None
size_told (Some (File m len)) = Some len
size_told (Some (Link m t)) = None

-- an answer, where no call fails and memory is there
abbrev pub Gives : {T : Type 0} → T → Result T FsErr → Type 0
Gives wanted (Ok x) = x ≡ wanted
Gives wanted (Err e) = OfNone e

-- a regular file that is there has its size,
abbrev pub HasSize : Disk → Path → Result ℕ FsErr → Type 0
HasSize d p r = (b : List ℕ) → reads d p ≡ Some b → Gives (length b) r

-- and its bytes, as far as they go
abbrev pub IsPiece : Disk → Path → ℕ → ℕ → Result (List ℕ) FsErr → Type 0
IsPiece d p from end r = (b : List ℕ) → reads d p ≡ Some b → end ≤ length b → Gives (part from (end - from) b) r

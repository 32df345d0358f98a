-- The bytes of a file's object, how many there are, and the pieces in which they are read.
use Rattle.std.specs.Prelude.{◌≡◌, ◌≤◌, ◌<◌, ◌+◌, List, [], ℕ, length, Option, Some, None, Result, Ok, Err}
use Rattle.ost_types.specs.declared.object.Kind.TheVariants.{File}
use Rattle.fs_trait.specs.declared.types.FsErr.{FsErr}
use Rattle.fs_trait.specs.declared.types.FsErr.TheVariants.{Missing}
use Rattle.fs_trait.specs.Effect.{OfNone}
use Rattle.fs_trait.specs.View.{Disk}
use Rattle.fs_trait.specs.Image.{reads}
use Rattle.repo_layout.specs.Paths.{object_path}

-- the file's object is a regular file with these bytes
abbrev pub IsContent : Disk → List ℕ → List ℕ → Type 0
IsContent d file bytes = reads d (object_path File file) ≡ Some bytes

-- so is the initramfs, and where there is none it has no bytes
abbrev pub IsInitramfs : Disk → Option (List ℕ) → List ℕ → Type 0
IsInitramfs d None bytes = bytes ≡ []
IsInitramfs d (Some file) bytes = IsContent d file bytes

abbrev pub HasSize : Option (List ℕ) → ℕ → Type 0
HasSize None size = size ≡ 0
HasSize (Some file) size = Unit {0}

-- What is told of the number of a file's bytes: it is that, or the file isn't there, or a call failed or wanted for memory.
abbrev pub TellsLength : (List ℕ → Type 0) → Result ℕ FsErr → Type 0
TellsLength IsThere (Ok size) = (bytes : List ℕ) × IsThere bytes × (size ≡ length bytes)
TellsLength IsThere (Err Missing) = (bytes : List ℕ) → IsThere bytes → ⊥
TellsLength IsThere (Err e) = OfNone e

-- the bytes from one place to another are some, and at most 1 MiB
pub record IsRange (from end : ℕ) : Type 0 where
  pub some : from < end
  pub few : end ≤ from + 1048576

-- some bytes of such a piece
pub record IsReadIn (from end : ℕ) (bytes : List ℕ) : Type 0 where
  pub some : 0 < length bytes
  pub within : from + length bytes ≤ end

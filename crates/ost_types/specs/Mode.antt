-- Modes of nodes as POSIX systems number them: the bits of the type above twelve bits for permissions.
use Rattle.std.specs.Prelude.{◌≡◌, ◌<◌, ◌+◌, ℕ}

-- S_IFDIR
abbrev pub IsFolderMode : ℕ → Type 0
IsFolderMode mode = (bits : ℕ) × (bits < 4096) × (mode ≡ 16384 + bits)

-- S_IFREG
abbrev pub IsFileMode : ℕ → Type 0
IsFileMode mode = (bits : ℕ) × (bits < 4096) × (mode ≡ 32768 + bits)

-- S_IFLNK
abbrev pub IsLinkMode : ℕ → Type 0
IsLinkMode mode = (bits : ℕ) × (bits < 4096) × (mode ≡ 40960 + bits)

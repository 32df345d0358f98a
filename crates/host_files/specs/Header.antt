-- The front of a host file: the header of an OSTree content stream (OSTree, `ostree-core`: a big-endian length, four zeros,
-- and the GVariant `(uuuusa(ayay))` of owner, group, mode, device, link target and extended attributes).
use Rattle.std.specs.Prelude.{◌≡◌, ℕ, List, [], ◌∷◌, ◌++◌}
use Rattle.std.specs.Int.{to_be_bytes, w32}
use Rattle.ost_types.specs.Mode.{IsFileMode}
use Rattle.host_files.specs.declared.header.FileHeader.{FileHeader}

-- The header of a regular file without extended attributes: device 0, an empty target with its zero, and the place where the target ends.
abbrev pub header : ℕ → ℕ → ℕ → List ℕ
header uid gid mode =
    to_be_bytes w32 18 ++ to_be_bytes w32 0 ++ to_be_bytes w32 uid ++ to_be_bytes w32 gid ++ to_be_bytes w32 mode ++ to_be_bytes w32 0 ++ 0 ∷ 17 ∷ []

-- the bytes are the header of a regular file of this owner, group and mode
pub record IsHeader (bytes : List ℕ) (h : FileHeader) : Type 0 where
  pub regular : IsFileMode h.mode
  pub spelled : bytes ≡ header h.uid h.gid h.mode

pub record Has (u g m : ℕ) (h : FileHeader) : Type 0 where
  pub owner : h.uid ≡ u
  pub group : h.gid ≡ g
  pub mode : h.mode ≡ m

-- What the first bytes of a content stream say, whatever extended attributes and target follow.
use Rattle.std.specs.Prelude.{◌≡◌, ◌≤◌, ℕ, List, Bool, true, false, take, drop}
use Rattle.std.specs.Int.{from_be_bytes, w32}
use Rattle.ost_types.specs.Mode.{IsFileMode, IsLinkMode}
use Rattle.ost_forms.specs.DirMeta.{object_limit}
use Rattle.ost_types.specs.declared.meta.Meta.{Meta}
use Rattle.ost_forms.specs.declared.body.Body.{Body}
use Rattle.ost_forms.specs.declared.body.Body.TheVariants.{Regular, Symlink}
use Rattle.fs_trait.specs.declared.types.Node.{Node}
use Rattle.fs_trait.specs.declared.types.Node.TheVariants.{File, Link}
use Rattle.host_files.specs.declared.front.Start.{Start}

-- the number that stands at a place, its high byte first
abbrev pub number_in : List ℕ → ℕ → ℕ
number_in bytes at = from_be_bytes w32 (take 4 (drop at bytes))

abbrev pub IsLeafMode : Bool → ℕ → Type 0
IsLeafMode true mode = IsLinkMode mode
IsLeafMode false mode = IsFileMode mode

-- A header of this length stands behind four zeros, and is that of a link, or of a regular file, with device 0.
pub record IsStart (bytes : List ℕ) (s : Start) : Type 0 where
  pub size : s.header_len ≡ number_in bytes 0
  pub least : 18 ≤ s.header_len
  pub most : s.header_len ≤ object_limit
  pub zeros : number_in bytes 4 ≡ 0
  pub kind : IsLeafMode s.is_link (number_in bytes 16)
  pub device : number_in bytes 20 ≡ 0

-- what `stat` tells of a leaf whose content has so many bytes
abbrev pub node_of : ℕ → Meta → Body → Node
node_of len m (Regular bytes) = File m len
node_of len m (Symlink target) = Link m target

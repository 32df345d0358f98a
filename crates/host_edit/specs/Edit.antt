-- One edit of a path in a folder, and which one a task may be asked for.
use Rattle.std.specs.Prelude.{◌≡◌, ◌≢◌, ◌≤◌, ◌++◌, ℕ, false, List, [], length}
use Rattle.ost_types.specs.declared.meta.Meta.{Meta}
use Rattle.ost_types.specs.declared.meta.Xattr.{Xattr}
use Rattle.ost_types.specs.Mode.{IsFileMode, IsFolderMode}
use Rattle.ost_types.specs.Path.{Name, Path, is_below, text_of, under}
use Rattle.host_edit.specs.declared.edit.NewLeaf.{NewLeaf}
use Rattle.host_edit.specs.declared.edit.NewLeaf.TheVariants as leaf
use Rattle.host_edit.specs.declared.edit.Edit.{Edit}
use Rattle.host_edit.specs.declared.edit.Edit.TheVariants.{Put, MakeFolder, Remove}

-- the path as the edit has it
abbrev pub path_of : Edit → Path
path_of (Put p l) = p
path_of (MakeFolder p m) = p
path_of (Remove p) = p

-- the attributes of a link: 0o120777 is the mode of each
abbrev pub link_meta : ℕ → ℕ → List Xattr → Meta
link_meta uid gid xattrs = record { uid = uid; gid = gid; mode = 41471; xattrs = xattrs }

-- a file's mode is that of a file, and a link's target isn't empty
abbrev pub IsFitLeaf : NewLeaf → Type 0
IsFitLeaf (leaf.File m bytes) = IsFileMode m.mode
IsFitLeaf (leaf.Link uid gid xattrs target) = target ≢ []

abbrev pub IsFit : Edit → Type 0
IsFit (Put p l) = IsFitLeaf l
IsFit (MakeFolder p m) = IsFolderMode m.mode
IsFit (Remove p) = Unit {0}

-- The staging path is a name in some folder, neither in the folder nor on the way to it.
pub record IsPlaced (stage etc : Path) : Type 0 where
  pub staging : (g : Path) × (y : Name) × (stage ≡ under g y)
  pub outside : is_below etc stage ≡ false
  pub aside : is_below stage etc ≡ false

-- The path isn't that of the folder itself, and behind the folder's path it is within the bounds of paths.
pub record MayEdit (stage etc : Path) (edit : Edit) : Type 0 where
  pub some : path_of edit ≢ []
  pub few : length (etc ++ path_of edit) ≤ 64
  pub short : length (text_of (etc ++ path_of edit)) ≤ 1024
  pub fit : IsFit edit
  pub placed : IsPlaced stage etc

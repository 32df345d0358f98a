-- The lines of a tree.
use Rattle.std.specs.Prelude.{◌≡◌, ◌+◌, ◌^◌, ◌⊎◌, ℕ, List, [], ◌∷◌, codes, Some, None}
use Rattle.ost_types.specs.declared.meta.Meta.{Meta}
use Rattle.ost_forms.specs.declared.tree_item.TreeItem.{TreeItem}
use Rattle.ost_forms.specs.declared.tree_item.BodySpec.{BodySpec}
use Rattle.ost_forms.specs.declared.tree_item.BodySpec.TheVariants.{Target}
use Rattle.script.specs.Field.{IsNumber, IsPathField}
use Rattle.script_reader.specs.declared.node.NodeKind.{NodeKind}
use Rattle.script_reader.specs.declared.node.NodeKind.TheVariants.{Folder, File, Link}
use Rattle.script_reader.specs.Values.{pieces, IsMode, IsXattrs, IsContent, IsTarget}

-- the fields of a line, with one space (32) between them
abbrev pub fields_of : List ℕ → List (List ℕ)
fields_of line = pieces 32 line

-- The bits of a type as Linux has them: S_IFDIR, S_IFREG, and S_IFLNK with all permissions.
abbrev pub folder_bits : ℕ
folder_bits = 16384

abbrev pub file_bits : ℕ
file_bits = 32768

abbrev pub link_mode : ℕ
link_mode = 41471

-- the fields of a folder's or a file's attributes, whose mode has the bits of its type above the permissions
pub record IsMeta (type_bits : ℕ) (u g m x : List ℕ) (meta : Meta) : Type 0 where
  pub owner : IsNumber (2 ^ 32) u meta.uid
  pub group : IsNumber (2 ^ 32) g meta.gid
  pub bits : ℕ
  pub permissions : IsMode m bits
  pub mode : meta.mode ≡ type_bits + bits
  pub xattrs : IsXattrs x meta.xattrs

-- the fields of a link's attributes: its mode is always the same
pub record IsLinkMeta (u g x : List ℕ) (meta : Meta) : Type 0 where
  pub owner : IsNumber (2 ^ 32) u meta.uid
  pub group : IsNumber (2 ^ 32) g meta.gid
  pub mode : meta.mode ≡ link_mode
  pub xattrs : IsXattrs x meta.xattrs

-- PATH UID GID MODE XATTRS
pub record IsFolderAt (p u g m x : List ℕ) (item : TreeItem) : Type 0 where
  pub path : IsPathField p item.path
  pub meta : IsMeta folder_bits u g m x item.meta
  pub body : item.body ≡ None

-- PATH UID GID MODE XATTRS CONTENT
pub record IsFileAt (p u g m x c : List ℕ) (item : TreeItem) : Type 0 where
  pub path : IsPathField p item.path
  pub meta : IsMeta file_bits u g m x item.meta
  pub content : BodySpec
  pub body : item.body ≡ Some content
  pub written : IsContent c content

-- PATH UID GID XATTRS TARGET
pub record IsLinkAt (p u g x t : List ℕ) (item : TreeItem) : Type 0 where
  pub path : IsPathField p item.path
  pub meta : IsLinkMeta u g x item.meta
  pub target : List ℕ
  pub body : item.body ≡ Some (Target target)
  pub written : IsTarget t target

abbrev pub IsFolder : List (List ℕ) → TreeItem → Type 0
IsFolder fields item = (p u g m x : List ℕ) × (fields ≡ p ∷ u ∷ g ∷ m ∷ x ∷ []) × IsFolderAt p u g m x item

abbrev pub IsFile : List (List ℕ) → TreeItem → Type 0
IsFile fields item = (p u g m x c : List ℕ) × (fields ≡ p ∷ u ∷ g ∷ m ∷ x ∷ c ∷ []) × IsFileAt p u g m x c item

abbrev pub IsLink : List (List ℕ) → TreeItem → Type 0
IsLink fields item = (p u g x t : List ℕ) × (fields ≡ p ∷ u ∷ g ∷ x ∷ t ∷ []) × IsLinkAt p u g x t item

-- how the kinds of nodes are spelled
abbrev pub node_word : NodeKind → List ℕ
node_word Folder = codes "folder"
node_word File = codes "file"
node_word Link = codes "link"

-- the line of a node: its kind, as it is written, and its fields
abbrev pub IsNode : List ℕ → TreeItem → Type 0
IsNode line item =
    (fields : List (List ℕ))
    × (((fields_of line ≡ node_word Folder ∷ fields) × IsFolder fields item)
    ⊎ ((fields_of line ≡ node_word File ∷ fields) × IsFile fields item)
    ⊎ ((fields_of line ≡ node_word Link ∷ fields) × IsLink fields item))

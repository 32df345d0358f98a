-- Nodes that are to be made, and what is there once they are.
use Rattle.std.specs.Prelude.{◌≡◌, ℕ, true, List, [], ◌∷◌, Option, Some, None, if◌then◌else◌}
use Rattle.ost_types.specs.declared.meta.Meta.{Meta}
use Rattle.ost_types.specs.Path.{Path, is_below, same_path}
use Rattle.fs_trait.specs.View.{Disk}
use Rattle.fs_trait.specs.Seen.{Seen, Vacant, Directory, Symlink, Leaf, shows}
use Rattle.folder_build.specs.declared.node.Content.{Content}
use Rattle.folder_build.specs.declared.node.Content.TheVariants.{Folder, File, Link}
use Rattle.folder_build.specs.declared.node.NewNode.{NewNode}

-- owner 0, group 0, and no further attributes
abbrev pub plain_meta : ℕ → Meta
plain_meta mode = record { uid = 0; gid = 0; mode = mode; xattrs = [] }

abbrev pub folder_meta : Meta
folder_meta = plain_meta 16877

abbrev pub file_meta : Meta
file_meta = plain_meta 33188

abbrev pub link_meta : Meta
link_meta = plain_meta 41471

-- what the nodes have at a path: the first of it
abbrev pub content_at : List NewNode → Path → Option Content
content_at [] p = None
content_at (e ∷ nodes) p = if same_path e.at p then Some e.what else content_at nodes p

-- what is shown of it
abbrev pub IsContent : Option Content → Seen → Type 0
IsContent None s = s ≡ Vacant
IsContent (Some Folder) s = s ≡ Directory folder_meta
IsContent (Some (File b)) s = (n : ℕ) × (s ≡ Leaf n file_meta b)
IsContent (Some (Link t)) s = s ≡ Symlink link_meta t

-- The nodes are all that stands at the path and below it.
abbrev pub IsBuilt : Disk → Path → List NewNode → Type 0
IsBuilt d top nodes = (p : Path) → is_below top p ≡ true → IsContent (content_at nodes p) (shows d p)

-- The rows of a part of a tree.
use Rattle.std.specs.Prelude.{◌≡◌, ◌%◌, List, ℕ, map, filter}
use Rattle.ost_types.specs.declared.limits.Limits.{Limits}
use Rattle.ost_types.specs.declared.node.NodeName.{NodeName}
use Rattle.ost_types.specs.declared.node.NodeName.TheVariants.{Folder, Leaf}
use Rattle.ost_types.specs.Path.{Path, is_below}
use Rattle.ost_types.specs.PathMap.{Nodes, IsAscending, paths_of}
use Rattle.repo_model.specs.Objects.{Store}
use Rattle.repo_model.specs.Trees.{TreeShows}
use Rattle.repo_model.specs.Whole.{Complete}
use Rattle.tree_read.specs.Whole.{IsTree}
use Rattle.script.specs.declared.rows.LsRow.{LsRow}
use Rattle.script.specs.declared.rows.LsRow.TheVariants as row

-- of a folder's mode the bits for permissions
abbrev pub row_of : Path → NodeName → LsRow
row_of p (Folder m) = row.Folder m.uid m.gid (m.mode % 4096) p
row_of p (Leaf sum) = row.Leaf sum p

-- the pairs at the path and below it, as rows
abbrev pub rows_below : Path → Nodes → List LsRow
rows_below path nodes = map (λ e. row_of e.0 e.1) (filter (λ e. is_below path e.0) nodes)

-- The commit is whole within the limits, its tree is these pairs in the order of their paths, one of them is at the path, and the
-- rows are those at the path and below it.
pub record IsListing (S : Store) (limits : Limits) (commit : List ℕ) (path : Path) (rows : List LsRow) : Type 0 where
  pub whole : Complete S limits commit
  pub nodes : Nodes
  pub tree : IsTree S commit nodes
  pub ascending : IsAscending (paths_of nodes)
  pub node : NodeName
  pub shown : TreeShows S commit path node
  pub rows_are : rows ≡ rows_below path nodes

-- What is still to be read of a tree: paths, and what is named at each.
use Rattle.std.specs.Prelude.{◌≡◌, [], ◌++◌}
use Rattle.ost_types.specs.declared.meta.Meta.{Meta}
use Rattle.ost_types.specs.declared.node.NodeName.{NodeName}
use Rattle.ost_types.specs.declared.node.NodeName.TheVariants as node
use Rattle.ost_types.specs.declared.object.Kind.TheVariants as kind
use Rattle.ost_types.specs.declared.object.ObjName.{ObjName}
use Rattle.ost_types.specs.Path.{Path}
use Rattle.repo_model.specs.Objects.{Store}
use Rattle.repo_model.specs.Trees.{HasMeta, Shows, Names, name_of}
use Rattle.tree_read.specs.declared.item.Named.{Named}
use Rattle.tree_read.specs.declared.item.Named.TheVariants.{Folder, Attributes, File}
use Rattle.tree_read.specs.declared.item.Item.{Item}

-- what these objects show at a path from their own on
abbrev pub ShowsFrom : Store → Named → Path → NodeName → Type 0
ShowsFrom S (Folder tree meta) rest n = Shows S tree meta rest n
ShowsFrom S (Attributes meta) rest n = (rest ≡ []) × (m : Meta) × HasMeta S meta m × (n ≡ node.Folder m)
ShowsFrom S (File sum) rest n = (rest ≡ []) × (n ≡ node.Leaf sum)

-- and which objects a way down from there names
abbrev pub NamesFrom : Store → Named → Path → ObjName → Type 0
NamesFrom S (Folder tree meta) rest o = Names S tree meta rest o
NamesFrom S (Attributes meta) rest o = (rest ≡ []) × (o ≡ name_of kind.DirMeta meta)
NamesFrom S (File sum) rest o = (rest ≡ []) × (o ≡ name_of kind.File sum)

-- the same at whole paths
pub record ItemShows (S : Store) (item : Item) (p : Path) (n : NodeName) : Type 0 where
  pub rest : Path
  pub below : p ≡ item.path ++ rest
  pub shows : ShowsFrom S item.named rest n

pub record ItemNames (S : Store) (item : Item) (p : Path) (o : ObjName) : Type 0 where
  pub rest : Path
  pub below : p ≡ item.path ++ rest
  pub names : NamesFrom S item.named rest o

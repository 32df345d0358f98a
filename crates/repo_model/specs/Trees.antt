-- What the objects of a store show of a folder, and of a commit: by cases on the path.
use Rattle.std.specs.Prelude.{◌≡◌, ◌⊎◌, ℕ, List, [], ◌∷◌, Contains, Ok}
use Rattle.ost_types.specs.declared.meta.Meta.{Meta}
use Rattle.ost_types.specs.declared.node.NodeName.{NodeName}
use Rattle.ost_types.specs.declared.node.NodeName.TheVariants as node
use Rattle.ost_types.specs.declared.object.Kind.{Kind}
use Rattle.ost_types.specs.declared.object.Kind.TheVariants.{Commit, DirTree, DirMeta, File}
use Rattle.ost_types.specs.declared.object.ObjName.{ObjName}
use Rattle.ost_types.specs.Path.{Name, Path}
use Rattle.ost_forms.specs.declared.entry.FileItem.{FileItem}
use Rattle.ost_forms.specs.declared.entry.FolderItem.{FolderItem}
use Rattle.ost_forms.specs.Commit.{CommitParts, ReadsCommit}
use Rattle.ost_forms.specs.DirTree.{Entries, ReadsDirTree}
use Rattle.ost_forms.specs.DirMeta.{ReadsDirMeta}
use Rattle.repo_model.specs.Objects.{Store}

abbrev pub name_of : Kind → List ℕ → ObjName
name_of kind sum = record { csum = sum; kind = kind }

-- the store has a commit, the entries of a folder, or its attributes, by their sum
pub record HasCommit (S : Store) (sum : List ℕ) (c : CommitParts) : Type 0 where
  pub bytes : List ℕ
  pub stored : S (name_of Commit sum) bytes
  pub reads : ReadsCommit (λ x. x) bytes (Ok c)

pub record HasEntries (S : Store) (sum : List ℕ) (e : Entries) : Type 0 where
  pub bytes : List ℕ
  pub stored : S (name_of DirTree sum) bytes
  pub reads : ReadsDirTree (λ x. x) bytes (Ok e)

pub record HasMeta (S : Store) (sum : List ℕ) (m : Meta) : Type 0 where
  pub bytes : List ℕ
  pub stored : S (name_of DirMeta sum) bytes
  pub reads : ReadsDirMeta (λ x. x) bytes (Ok m)

-- a file of the entries, or a folder, under this name
pub record HasFile (e : Entries) (x : Name) (sum : List ℕ) : Type 0 where
  pub item : FileItem
  pub among : Contains e.files item
  pub name : item.name ≡ x
  pub file : item.file ≡ sum

pub record HasFolder (e : Entries) (x : Name) (tree meta : List ℕ) : Type 0 where
  pub item : FolderItem
  pub among : Contains e.folders item
  pub name : item.name ≡ x
  pub tree_is : item.tree ≡ tree
  pub meta_is : item.meta ≡ meta

-- the path has one name, and this leaf is there
abbrev pub ShowsLeaf : Entries → Name → Path → NodeName → Type 0
ShowsLeaf e x [] n = (sum : List ℕ) × HasFile e x sum × (n ≡ node.Leaf sum)
ShowsLeaf e x (y ∷ rest) n = ⊥

-- What the folder of these two objects shows at a path: itself at no name, a leaf at the name of one of its files, and else what
-- the folder of the first name shows at the rest.
unfoldable pub Shows : Store → List ℕ → List ℕ → Path → NodeName → Type 0
Shows S tree meta [] n = (m : Meta) × HasMeta S meta m × (n ≡ node.Folder m)
Shows S tree meta (x ∷ rest) n =
    (e : Entries) × HasEntries S tree e
    × (ShowsLeaf e x rest n ⊎ ((t : List ℕ) × (m : List ℕ) × HasFolder e x t m × Shows S t m rest n))

-- the tree of a commit: all that its root shows
abbrev pub TreeShows : Store → List ℕ → Path → NodeName → Type 0
TreeShows S commit p n = (c : CommitParts) × HasCommit S commit c × Shows S c.tree c.meta p n

-- the path has one name, and this object is that file's
abbrev pub NamesFile : Entries → Name → Path → ObjName → Type 0
NamesFile e x [] o = (sum : List ℕ) × HasFile e x sum × (o ≡ name_of File sum)
NamesFile e x (y ∷ rest) o = ⊥

-- Which objects a way down from the folder of two objects names at a path: these two, a file's, and what the folder of the
-- first name names at the rest.
unfoldable pub Names : Store → List ℕ → List ℕ → Path → ObjName → Type 0
Names S tree meta [] o = (o ≡ name_of DirTree tree) ⊎ (o ≡ name_of DirMeta meta)
Names S tree meta (x ∷ rest) o =
    (e : Entries) × HasEntries S tree e
    × (NamesFile e x rest o ⊎ ((t : List ℕ) × (m : List ℕ) × HasFolder e x t m × Names S t m rest o))

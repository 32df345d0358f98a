-- Which objects of a store are reached from some of them (OSTree manual, "Anatomy of an OSTree repository": a commit names its root, a
-- folder its files and folders, each by the sums of its objects).
use Rattle.std.specs.Prelude.{◌≡◌, ◌⊎◌, ℕ, List}
use Rattle.ost_types.specs.declared.object.Kind.TheVariants.{Commit, DirTree, DirMeta, File}
use Rattle.ost_types.specs.declared.object.ObjName.{ObjName}
use Rattle.ost_types.specs.Path.{Name}
use Rattle.ost_forms.specs.Commit.{CommitParts}
use Rattle.ost_forms.specs.DirTree.{Entries}
use Rattle.repo_model.specs.Objects.{Store}
use Rattle.repo_model.specs.Trees.{HasCommit, HasEntries, HasFile, HasFolder, name_of}

-- a set of names of objects
abbrev pub ObjNames : Type 1
ObjNames = ObjName → Type 0

-- this one alone
abbrev pub Is : ObjName → ObjNames
Is one o = o ≡ one

-- it stands in the store
abbrev pub IsIn : Store → ObjNames
IsIn S o = (bytes : List ℕ) × S o bytes

-- the two objects of a folder
abbrev pub IsFolderOf : List ℕ → List ℕ → ObjNames
IsFolderOf tree meta next = (next ≡ name_of DirTree tree) ⊎ (next ≡ name_of DirMeta meta)

-- the object of a file of the entries, or one of the two of a folder there
abbrev pub IsEntry : Entries → ObjNames
IsEntry e next =
    ((x : Name) × (sum : List ℕ) × HasFile e x sum × (next ≡ name_of File sum))
    ⊎ ((x : Name) × (tree : List ℕ) × (meta : List ℕ) × HasFolder e x tree meta × IsFolderOf tree meta next)

-- The object stands in the store and names the next: a commit the two objects of its root, and entries all that they have. A commit
-- doesn't name its parent so: how far parents are followed is a number of its own.
abbrev pub Refers : Store → ObjName → ObjNames
Refers S o next =
    ((c : CommitParts) × (o.kind ≡ Commit) × HasCommit S o.csum c × IsFolderOf c.tree c.meta next)
    ⊎ ((e : Entries) × (o.kind ≡ DirTree) × HasEntries S o.csum e × IsEntry e next)

-- The least set that has these names and all that its members name. What is named needn't stand in the store.
pub data Reach (S : Store) (from : ObjNames) : ObjName → Type 0 where
  start : (o : ObjName) → from o → Reach S from o
  onward : (o next : ObjName) → Reach S from o → Refers S o next → Reach S from next

-- What a walk of a tree remembers of the objects that it read.
use Rattle.std.specs.Prelude.{◌≡◌, ◌⊎◌, ℕ, List, [], Contains}
use Rattle.ost_types.specs.declared.meta.Meta.{Meta}
use Rattle.ost_types.specs.declared.object.Kind.TheVariants as kind
use Rattle.ost_types.specs.declared.object.ObjName.{ObjName}
use Rattle.ost_types.specs.Mode.{IsFolderMode}
use Rattle.ost_types.specs.Path.{Path}
use Rattle.ost_forms.specs.declared.dirtree.DirTree.{DirTree}
use Rattle.ost_forms.specs.DirTree.{Entries}
use Rattle.repo_model.specs.Objects.{Store, Has}
use Rattle.repo_model.specs.Trees.{HasEntries, HasMeta, Names, name_of}

-- folders' entries and attributes by the sums of their objects, and the sums of files
pub record Memory : Type 0 where
  pub trees : List (List ℕ × DirTree)
  pub metas : List (List ℕ × Meta)
  pub files : List (List ℕ)

abbrev pub nothing : Memory
nothing = record { trees = []; metas = []; files = [] }

abbrev pub entries_in : DirTree → Entries
entries_in t = record { files = t.files; folders = t.folders }

-- the attributes are folders'
abbrev pub OfFolders : List (List ℕ × Meta) → Type 0
OfFolders metas = (sum : List ℕ) (m : Meta) → Contains metas (sum, m) → IsFolderMode m.mode

-- the folder of these two objects names the object, itself or somewhere below
abbrev pub IsNamed : Store → List ℕ → List ℕ → ObjName → Type 0
IsNamed S tree meta o = (p : Path) × Names S tree meta p o

-- Each object that is remembered is what the store has under its name, and one that the tree names.
pub record Recalls (S : Store) (content : ℕ) (tree meta : List ℕ) (m : Memory) : Type 0 where
  pub trees : (sum : List ℕ) (t : DirTree) → Contains m.trees (sum, t) → HasEntries S sum (entries_in t) × IsNamed S tree meta (name_of kind.DirTree sum)
  pub metas : (sum : List ℕ) (a : Meta) → Contains m.metas (sum, a) → HasMeta S sum a × IsNamed S tree meta (name_of kind.DirMeta sum)
  pub files : (sum : List ℕ) → Contains m.files sum → Has S content (name_of kind.File sum) × IsNamed S tree meta (name_of kind.File sum)

-- none came but this
abbrev pub IsMore : {X : Type 0} → List X → List X → X → Type 0
IsMore {X} old new x = (y : X) → Contains new y → Contains old y ⊎ (y ≡ x)

pub record GainsTree (old new : Memory) (sum : List ℕ) (t : DirTree) : Type 0 where
  pub trees : IsMore old.trees new.trees (sum, t)
  pub metas : new.metas ≡ old.metas
  pub files : new.files ≡ old.files

pub record GainsMeta (old new : Memory) (sum : List ℕ) (m : Meta) : Type 0 where
  pub trees : new.trees ≡ old.trees
  pub metas : IsMore old.metas new.metas (sum, m)
  pub files : new.files ≡ old.files

pub record GainsFile (old new : Memory) (sum : List ℕ) : Type 0 where
  pub trees : new.trees ≡ old.trees
  pub metas : new.metas ≡ old.metas
  pub files : IsMore old.files new.files sum

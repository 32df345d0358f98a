-- The order in which a tree is read, and what is wrong with it first.
use Rattle.std.specs.Prelude.{◌≡◌, ◌⊎◌, ◌<◌, ◌≤◌, ℕ, List, [], ◌∷◌, length, Contains}
use Rattle.std.specs.declared.cmp.Ordering.TheVariants.{Less}
use Rattle.ost_types.specs.declared.limits.Limits.{Limits}
use Rattle.ost_types.specs.declared.object.Kind.TheVariants as kind
use Rattle.ost_types.specs.declared.object.ObjName.{ObjName}
use Rattle.ost_types.specs.Path.{Name, Path, path_cmp, text_of, under}
use Rattle.ost_types.specs.PathMap.{IsAscending}
use Rattle.ost_forms.specs.DirTree.{Entries, file_names, folder_names}
use Rattle.fs_trait.specs.View.{Disk}
use Rattle.repo_model.specs.Objects.{Store, Has, Stores}
use Rattle.repo_model.specs.Trees.{HasEntries, Names, name_of}
use Rattle.tree_read.specs.Looks.{IsAbsent, IsDamaged}

-- one path before the other, and at one path the entries before the attributes
abbrev pub Earlier : Path → ObjName → Path → ObjName → Type 0
Earlier q a p o = (path_cmp q p ≡ Less) ⊎ ((q ≡ p) × (a.kind ≡ kind.DirTree) × (o.kind ≡ kind.DirMeta))

abbrev pub HasName : Entries → Name → Type 0
HasName e x = Contains (file_names e.files) x ⊎ Contains (folder_names e.folders) x

-- at most 64 names, and 1,024 bytes
abbrev pub IsShort : Path → Type 0
IsShort p = (length p ≤ 64) × (length (text_of p) ≤ 1024)

-- the entries of the folder at the path name one whose path is longer
pub record NamesFar (S : Store) (tree : List ℕ) (at : Path) : Type 0 where
  pub entries : Entries
  pub has : HasEntries S tree entries
  pub name : Name
  pub there : HasName entries name
  pub far : IsShort (under at name) → ⊥

-- the object that is named at the path is there and reads as its kind, and the paths of its entries are short
pub record IsKept (S : Store) (content : ℕ) (at : Path) (o : ObjName) : Type 0 where
  pub has : Has S content o
  pub short : o.kind ≡ kind.DirTree → ¬ (NamesFar S o.csum at)

module _ (S : Store) (content : ℕ) (tree meta : List ℕ) where
  -- an entry, or the root, has this path
  abbrev pub IsMet : Path → Type 0
  IsMet p = (o : ObjName) × Names S tree meta p o

  -- nothing is wrong with what comes before
  abbrev pub AllKeptBefore : Path → ObjName → Type 0
  AllKeptBefore p o = (q : Path) (a : ObjName) → Names S tree meta q a → Earlier q a p o → IsKept S content q a

  -- the paths that come before this one
  pub record ArePathsBefore (p : Path) (paths : List Path) : Type 0 where
    pub ascending : IsAscending paths
    pub met : (q : Path) → Contains paths q → IsMet q × (path_cmp q p ≡ Less)
    pub all : (q : Path) → IsMet q → path_cmp q p ≡ Less → Contains paths q

  -- the object whose entries name the path; the root is named by its own
  abbrev pub IsOwner : Path → ObjName → Type 0
  IsOwner [] o = o ≡ name_of kind.DirTree tree
  IsOwner (x ∷ rest) o = (at : Path) × (y : Name) × (x ∷ rest ≡ under at y) × Names S tree meta at o × (o.kind ≡ kind.DirTree)

-- Reading stops at this object of the path, before which nothing is wrong and fewer paths come than the limit.
pub record StopsAt (S : Store) (limits : Limits) (tree meta : List ℕ) (o : ObjName) (Wrong : Path → Type 0) : Type 0 where
  pub at : Path
  pub paths : List Path
  pub named : Names S tree meta at o
  pub kept : AllKeptBefore S limits.content tree meta at o
  pub before : ArePathsBefore S limits.content tree meta at paths
  pub few : length paths < limits.paths
  pub wrong : Wrong at

-- Reading stops at a path before which as many come as the limit allows: its owner is told.
pub record HasTooMany (S : Store) (limits : Limits) (tree meta : List ℕ) (o : ObjName) : Type 0 where
  pub at : Path
  pub paths : List Path
  pub met : IsMet S limits.content tree meta at
  pub owner : IsOwner S limits.content tree meta at o
  pub kept : (q : Path) (a : ObjName) → Names S tree meta q a → path_cmp q at ≡ Less → IsKept S limits.content q a
  pub before : ArePathsBefore S limits.content tree meta at paths
  pub full : length paths ≡ limits.paths

-- what is wrong first, by a store of what a disk has
abbrev pub AbsentIn : Store → Disk → Limits → List ℕ → List ℕ → ObjName → Type 0
AbsentIn S d limits tree meta o = StopsAt S limits tree meta o (λ at. IsAbsent d o)

abbrev pub DamagedIn : Store → Disk → Limits → List ℕ → List ℕ → ObjName → Type 0
DamagedIn S d limits tree meta o =
    StopsAt S limits tree meta o (λ at. IsDamaged d limits.content o ⊎ ((o.kind ≡ kind.DirTree) × NamesFar S o.csum at))
    ⊎ HasTooMany S limits tree meta o

-- and by that of its objects
abbrev pub FirstAbsent : Disk → Limits → List ℕ → List ℕ → ObjName → Type 0
FirstAbsent d = AbsentIn (Stores d) d

abbrev pub FirstDamaged : Disk → Limits → List ℕ → List ℕ → ObjName → Type 0
FirstDamaged d = DamagedIn (Stores d) d

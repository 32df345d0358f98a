-- Names, each with a flag beside it, and what is marked of them.
use Rattle.std.specs.Prelude.{◌≡◌, ◌≢◌, ◌⊎◌, ◌<◌, ◌≤◌, ◌+◌, ℕ, Bool, true, false, List, [], ◌∷◌, ◌++◌, length, slice_index_or, slice_set, Contains, Option, Some, None}
use Rattle.std.specs.List.Sorted.{IsStrictlySortedBy}
use Rattle.ost_types.specs.declared.object.Kind.TheVariants as kind
use Rattle.ost_types.specs.declared.object.ObjName.{ObjName}
use Rattle.ost_forms.specs.declared.entry.FileItem.{FileItem}
use Rattle.ost_forms.specs.declared.entry.FolderItem.{FolderItem}
use Rattle.repo_model.specs.Trees.{name_of}
use Rattle.reach.specs.Reach.{ObjNames, Is, IsFolderOf}
use Rattle.obj_store.specs.Listing.{name_cmp}
use Rattle.prune_mark.specs.declared.links.Near.{Near}

-- each name comes before those after it
abbrev pub AreAscending : List ObjName → Type 0
AreAscending = IsStrictlySortedBy name_cmp

-- it is one of the names, and its flag is up
abbrev pub IsMarked : List ObjName → List Bool → ObjNames
IsMarked names flags o = (i : ℕ) × (i < length names) × (slice_index_or names i o ≡ o) × (slice_index_or flags i false ≡ true)

-- it is the name at this place, and its flag is down
pub record IsDown (names : List ObjName) (flags : List Bool) (o : ObjName) (at : ℕ) : Type 0 where
  pub within : at < length names
  pub is : slice_index_or names at o ≡ o
  pub down : slice_index_or flags at false ≡ false

-- if it is one of the names, its flag is up
abbrev pub IsUpIfThere : List ObjName → List Bool → ObjNames
IsUpIfThere names flags o = AreAscending names → Contains names o → IsMarked names flags o

-- how many flags are down
abbrev pub count_down : List Bool → ℕ
count_down [] = 0
count_down (true ∷ flags) = count_down flags
count_down (false ∷ flags) = 1 + count_down flags

-- Those of a set that are names were marked, and no others; a folder's entries that are newly marked wait.
pub record Spreads (names : List ObjName) (set : ObjNames) (flags : List Bool) (pending : List (List ℕ)) (flags' : List Bool) (pending' : List (List ℕ)) : Type 0 where
  pub long : length flags' ≡ length flags
  pub stays : (o : ObjName) → IsMarked names flags o → IsMarked names flags' o
  pub new : (o : ObjName) → IsMarked names flags' o → IsMarked names flags o ⊎ set o
  pub all : (o : ObjName) → set o → IsUpIfThere names flags' o
  pub waits : (tree : List ℕ) → Contains pending tree → Contains pending' tree
  pub later : (tree : List ℕ) → IsMarked names flags' (name_of kind.DirTree tree) → IsMarked names flags (name_of kind.DirTree tree) ⊎ Contains pending' tree
  pub marked : (tree : List ℕ) → Contains pending' tree → Contains pending tree ⊎ IsMarked names flags' (name_of kind.DirTree tree)
  pub fewer : count_down flags' + length pending' ≤ count_down flags + length pending

-- One commit was marked, and is found as this; unless it was marked already, or isn't one of the names.
pub record IsNew (names : List ObjName) (near : Near) (flags : List Bool) (found : List Near) (flags' : List Bool) (found' : List Near) : Type 0 where
  pub at : ℕ
  pub was : IsDown names flags (name_of kind.Commit near.commit) at
  pub flags_are : flags' ≡ slice_set flags at true
  pub found_are : found' ≡ found ++ near ∷ []

pub record IsOld (names : List ObjName) (near : Near) (flags : List Bool) (found : List Near) (flags' : List Bool) (found' : List Near) : Type 0 where
  pub flags_are : flags' ≡ flags
  pub found_are : found' ≡ found
  pub up : IsUpIfThere names flags (name_of kind.Commit near.commit)

abbrev pub MarksCommit : List ObjName → Near → List Bool → List Near → List Bool → List Near → Type 0
MarksCommit names near flags found flags' found' = IsNew names near flags found flags' found' ⊎ IsOld names near flags found flags' found'

-- So it was done with the parent of a commit at a distance, where it has one and stands nearer than the depth.
abbrev pub MarksParent : List ObjName → Option (List ℕ) → ℕ → ℕ → List Bool → List Near → List Bool → List Near → Type 0
MarksParent names None distance depth flags found flags' found' = (flags' ≡ flags) × (found' ≡ found)
MarksParent names (Some parent) distance depth flags found flags' found' =
    ((distance < depth) × MarksCommit names (record { distance = distance + 1; commit = parent }) flags found flags' found')
    ⊎ ((depth ≤ distance) × (flags' ≡ flags) × (found' ≡ found))

-- the objects of these files, and both of these folders
abbrev pub AreOfFiles : List FileItem → ObjNames
AreOfFiles files o = (i : FileItem) × Contains files i × (o ≡ name_of kind.File i.file)

abbrev pub AreOfFolders : List FolderItem → ObjNames
AreOfFolders folders o = (i : FolderItem) × Contains folders i × IsFolderOf i.tree i.meta o

-- One root was marked, and waits as what it is.
abbrev pub MarksRoot : List ObjName → ObjName → List Bool → List Near → List (List ℕ) → List Bool → List Near → List (List ℕ) → Type 0
MarksRoot names root flags found pending flags' found' pending' =
    ((root.kind ≡ kind.Commit) × MarksCommit names (record { distance = 0; commit = root.csum }) flags found flags' found' × (pending' ≡ pending))
    ⊎ ((root.kind ≢ kind.Commit) × Spreads names (Is root) flags pending flags' pending' × (found' ≡ found))

-- The roots of a set were marked, as far as they are names, and no others; commits are found at no distance, entries of folders wait.
pub record Begins (names : List ObjName) (set : ObjNames) (flags : List Bool) (found : List Near) (pending : List (List ℕ)) : Type 0 where
  pub long : length flags ≡ length names
  pub right : (o : ObjName) → IsMarked names flags o → set o
  pub all : (o : ObjName) → set o → IsUpIfThere names flags o
  pub zero : (near : Near) → Contains found near → (near.distance ≡ 0) × IsMarked names flags (name_of kind.Commit near.commit)
  pub commits : (commit : List ℕ) → IsMarked names flags (name_of kind.Commit commit) → Contains found (record { distance = 0; commit = commit })
  pub trees : (tree : List ℕ) → IsMarked names flags (name_of kind.DirTree tree) → Contains pending tree
  pub marked : (tree : List ℕ) → Contains pending tree → IsMarked names flags (name_of kind.DirTree tree)
  pub few : count_down flags + (length found + length pending) ≤ length names

-- How far the making of the objects is.
use Rattle.std.specs.Prelude.{◌≡◌, ◌≢◌, true, false, ◌≤◌, ◌<◌, ◌+◌, ◌-◌, ◌^◌, ℕ, List, [], ◌∷◌, length, map, reverse, drop, slice_index, slice_index_or, not, All, Option, Some, None, Result, Ok, Err}
use Rattle.std.specs.List.{filter}
use Rattle.sha2.specs.Sha256.{sha256}
use Rattle.ost_types.specs.declared.limits.Limits.{Limits}
use Rattle.ost_types.specs.declared.memory.NoMemory.{NoMemory}
use Rattle.ost_types.specs.Path.{Path, is_in}
use Rattle.ost_forms.specs.declared.tree_item.BodySpec.{BodySpec}
use Rattle.ost_forms.specs.declared.tree_item.TreeItem.{TreeItem}
use Rattle.ost_objects.specs.declared.checked.Checked.{Checked}
use Rattle.tree_build.specs.declared.progress.Done.{Done}
use Rattle.tree_build.specs.declared.progress.Progress.{Progress}
use Rattle.tree_build.specs.Items.{AreItems, AreTyped, paths_of}
use Rattle.tree_build.specs.Objects.{Object, Made, made, made_of, work, tree_bytes}
use Rattle.tree_build.specs.Makeable.{AreMakeable}

-- the items, the bounds, and how many of the objects were given
pub record Building : Type 0 where
  pub items : List TreeItem
  pub limits : Limits
  pub done : ℕ

-- the element with this number, from 0
abbrev pub IsNumber : {A : Type 0} → List A → ℕ → A → Type 0
IsNumber xs n x = (n < length xs) × (slice_index_or xs n x ≡ x)

abbrev pub object_of : Checked → Object
object_of c = record { name = c.name; bytes = c.bytes }

-- The next object is given, or all were; nothing else changes.
abbrev pub Gives : Building → Building → Result (Option Checked) NoMemory → Type 0
Gives old new (Ok (Some c)) = IsNumber (work old.items) old.done (object_of c) × (c.limit ≡ old.limits.content) × (new ≡ record old { done = old.done + 1 })
Gives old new (Ok None) = (old.done ≡ length (work old.items)) × (new ≡ old)
Gives old new (Err e) = new ≡ old

-- ---- what is kept on the way

-- what doesn't lie directly in the folder
abbrev pub outside : Path → List Made → List Made
outside f = filter (λ m. not (is_in f m.path))

abbrev pub left_by : Path → Option BodySpec → List Made → List Made
left_by p None ms = outside p ms
left_by p (Some body) ms = ms

-- what is made and lies in no folder that is made
unfoldable pub pending : List TreeItem → List Made
pending [] = []
pending (i ∷ items) = made_of (made items) i ∷ left_by i.path i.body (pending items)

abbrev pub path_at : List TreeItem → ℕ → Path
path_at items n = slice_index_or (paths_of items) n []

abbrev pub seen : List TreeItem → Done → Made
seen items d = record { path = path_at items d.at; sums = d.sums }

-- the place of the item that stands before the cut
abbrev pub last_place : List Done → ℕ → ℕ
last_place ds n = slice_index (map (λ d. d.at) ds) (n - 1)

-- the last is the least
abbrev pub all_seen : List TreeItem → List Done → List Made
all_seen items ds = reverse (map (seen items) ds)

-- all objects of the items from `at` on were given
pub record IsBetween (items : List TreeItem) (p : Progress) : Type 0 where
  pub stack : all_seen items p.made.items ≡ pending (drop p.at items)
  pub done : p.done ≡ length (work (drop p.at items))

-- so were they, and the entries of the folder before them
pub record IsHalf (items : List TreeItem) (p : Progress) (tree : List ℕ) : Type 0 where
  pub folder : TreeItem
  pub behind : List TreeItem
  pub is : drop (p.at - 1) items ≡ folder ∷ behind
  pub some : 0 < p.at
  pub body : folder.body ≡ None
  pub sum : tree ≡ sha256 (tree_bytes (made behind) folder.path)
  pub stack : all_seen items p.made.items ≡ left_by folder.path folder.body (pending behind)
  pub done : p.done ≡ length (work behind) + 1

abbrev pub IsAt : List TreeItem → Progress → Option (List ℕ) → Type 0
IsAt items p None = IsBetween items p
IsAt items p (Some tree) = IsHalf items p tree

pub record IsProgress (items : List TreeItem) (p : Progress) : Type 0 where
  pub inside : p.at ≤ length items
  pub places : All (λ d. d.at < length items) p.made.items
  pub here : IsAt items p p.half

-- From the cut on all lie directly in the folder, and what stands before it doesn't.
pub record IsCut (items : List TreeItem) (f : Path) (ds : List Done) (n : ℕ) : Type 0 where
  pub within : n ≤ length ds
  pub inside : All (λ d. is_in f (path_at items d.at) ≡ true) (drop n ds)
  pub last : 0 < n → is_in f (path_at items (last_place ds n)) ≡ false

-- what is next: a file, a folder's entries, or its attributes
abbrev pub IsFileNext : List TreeItem → Progress → Type 0
IsFileNext items p = (0 < p.at) × (p.half ≡ None) × ((d : TreeItem) → (slice_index_or items (p.at - 1) d).body ≢ None)

abbrev pub IsFolderNext : List TreeItem → Progress → Type 0
IsFolderNext items p = (0 < p.at) × (p.half ≡ None) × ((d : TreeItem) → (slice_index_or items (p.at - 1) d).body ≡ None)

abbrev pub IsHalfNext : Progress → Type 0
IsHalfNext p = p.half ≢ None

-- items of which each object can be made, fewer than 2^64
pub record IsBuildable (items : List TreeItem) (limits : Limits) : Type 0 where
  pub ordered : AreItems items
  pub makeable : AreMakeable limits items
  pub few : length (work items) < 2 ^ 64

-- The object with the next number is given, and the way goes on from there.
pub record Advances (items : List TreeItem) (content : ℕ) (old new : Progress) (c : Checked) : Type 0 where
  pub number : IsNumber (work items) old.done (object_of c)
  pub limit : c.limit ≡ content
  pub progress : IsProgress items new
  pub done : new.done ≡ old.done + 1

-- it is, or as many as before were
abbrev pub Steps : List TreeItem → ℕ → Progress → Progress → Result Checked NoMemory → Type 0
Steps items content old new (Ok c) = Advances items content old new c
Steps items content old new (Err e) = IsProgress items new × (new.done ≡ old.done)

pub record IsBuilding (items : List TreeItem) (limits : Limits) (root : Path) (total : ℕ) (p : Progress) : Type 0 where
  pub buildable : IsBuildable items limits
  pub typed : AreTyped items
  pub at_root : root ≡ []
  pub counted : total ≡ length (work items)
  pub progress : IsProgress items p

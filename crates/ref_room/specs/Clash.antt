-- Refs that can't stand beside each other (OSTree manual, "Anatomy of an OSTree repository", Refs: a ref is a file, and the
-- parts of its name before the last are folders).
use Rattle.std.specs.Prelude.{◌≡◌, ◌≢◌, ◌⊎◌, ◌++◌, ◌∷◌, ◌-◌, ℕ, true, List, length, take, codes}
use Rattle.std.specs.Cmp.Lexicographic.{slice_cmp}
use Rattle.std.specs.Ordering.{nat_cmp}
use Rattle.std.specs.declared.cmp.Ordering.TheVariants.{Less}
use Rattle.ost_types.specs.Path.{Name, Path}
use Rattle.fs_trait.specs.View.{Disk}
use Rattle.repo_layout.specs.RefName.{IsRefName, parts_of}
use Rattle.repo_layout.specs.Paths.{heads, ref_path}
use Rattle.repo_layout.specs.Refs.{is_leaf}

-- the first parts of a ref's name, as a path below the folder of the refs
unfoldable pub way_to : ℕ → List ℕ → Path
way_to k name = heads ++ take k (parts_of name)

-- the folder of a ref's file
abbrev pub ref_folder : List ℕ → Path
ref_folder name = way_to (length (parts_of name) - 1) name

-- the file of a would stand where a folder on the way to b has to be
abbrev pub IsAbove : List ℕ → List ℕ → Type 0
IsAbove a b = (x : Name) × (rest : Path) × (parts_of b ≡ parts_of a ++ x ∷ rest)

abbrev pub Clashes : List ℕ → List ℕ → Type 0
Clashes a b = IsAbove a b ⊎ IsAbove b a

-- A ref is there that can't stand beside this one.
pub record IsClash (d : Disk) (name other : List ℕ) : Type 0 where
  pub named : IsRefName other
  pub leaf : is_leaf (d.at (ref_path other)) ≡ true
  pub clashes : Clashes name other

-- The first of them by the bytes of the names.
pub record IsLeastClash (d : Disk) (name other : List ℕ) : Type 0 where
  pub clash : IsClash d name other
  pub least : (third : List ℕ) → IsClash d name third → slice_cmp nat_cmp third other ≢ Less

-- There is none.
abbrev pub IsFree : Disk → List ℕ → Type 0
IsFree d name = (other : List ℕ) → ¬ (IsClash d name other)

-- No leaf stands where a folder on the way has to be.
abbrev pub IsFreeAbove : Disk → List ℕ → Type 0
IsFreeAbove d name = (other : List ℕ) → IsAbove other name → ¬ (is_leaf (d.at (ref_path other)) ≡ true)

-- no ref has this path
abbrev pub IsNoRef : Path → Type 0
IsNoRef p = (other : List ℕ) → IsRefName other → ¬ (ref_path other ≡ p)

-- what the text of a ref's path begins with
abbrev pub below_heads : List ℕ
below_heads = codes "/ostree/repo/refs/heads/"

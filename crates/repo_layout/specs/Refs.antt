-- Refs on a disk (OSTree manual, "Anatomy of an OSTree repository", Refs).
use Rattle.std.specs.Prelude.{◌≡◌, ℕ, Bool, true, false, List, Some}
use Rattle.ost_types.specs.Path.{Path}
use Rattle.fs_trait.specs.View.{Disk}
use Rattle.fs_trait.specs.Image.{reads}
use Rattle.fs_trait.specs.declared.types.Value.{Value}
use Rattle.fs_trait.specs.declared.types.Value.TheVariants.{Link, File}
use Rattle.repo_layout.specs.Paths.{ref_path}
use Rattle.repo_layout.specs.RefFile.{IsSum, ref_text}

abbrev pub is_leaf : Value → Bool
is_leaf (File n) = true
is_leaf (Link m t) = true
is_leaf x = false

-- A ref file stands there, which names the commit.
pub record ShowsCommit (d : Disk) (at : Path) (commit : List ℕ) : Type 0 where
  pub sum : IsSum commit
  pub file : reads d at ≡ Some (ref_text commit)

-- A leaf stands there that is no ref file.
pub record ShowsNoCommit (d : Disk) (at : Path) : Type 0 where
  pub leaf : is_leaf (d.at at) ≡ true
  pub none : (commit : List ℕ) → ¬ (ShowsCommit d at commit)

-- The refs of a disk: the value of a name is the commit,
abbrev pub Names : Disk → List ℕ → List ℕ → Type 0
Names d name commit = ShowsCommit d (ref_path name) commit

-- or it has none, since no leaf stands at its path,
abbrev pub Lacks : Disk → List ℕ → Type 0
Lacks d name = is_leaf (d.at (ref_path name)) ≡ false

-- or what stands there is wrong.
abbrev pub IsBadRef : Disk → List ℕ → Type 0
IsBadRef d name = ShowsNoCommit d (ref_path name)

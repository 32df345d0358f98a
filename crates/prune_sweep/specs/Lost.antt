-- Marks of commits that a prune doesn't keep (OSTree manual, "Anatomy of an OSTree repository": a file `<commit>.commitpartial` in
-- `state` says that objects of the commit may be missing).
use Rattle.std.specs.Prelude.{◌≡◌, ◌≢◌, ◌++◌, ℕ, List, Contains, codes}
use Rattle.ost_types.specs.Csum.{hex_of}
use Rattle.ost_types.specs.declared.object.Kind.TheVariants.{Commit}
use Rattle.ost_types.specs.declared.object.ObjName.{ObjName}
use Rattle.ost_types.specs.Path.{Name, Path}
use Rattle.fs_trait.specs.declared.types.Value.TheVariants.{Absent}
use Rattle.fs_trait.specs.View.{Disk}
use Rattle.repo_layout.specs.Paths.{mark_path}
use Rattle.repo_layout.specs.RefFile.{IsSum}
use Rattle.repo_model.specs.Trees.{name_of}
use Rattle.reach.specs.Reach.{ObjNames}

-- the commit doesn't stay, and nobody has pinned it
pub record IsLost (stays : ObjNames) (pins : List ObjName) (commit : List ℕ) : Type 0 where
  pub sum : IsSum commit
  pub goes : ¬ (stays (name_of Commit commit))
  pub free : ¬ (Contains pins (name_of Commit commit))

-- The paths of the marks of all such commits, by the names in the folder of marks.
pub record AreLostOf (names : List Name) (stays : ObjNames) (pins : List ObjName) (marks : List Path) : Type 0 where
  pub each : (p : Path) → Contains marks p → (commit : List ℕ) × IsLost stays pins commit × (p ≡ mark_path commit)
  pub all : (commit : List ℕ) → IsLost stays pins commit → Contains names (hex_of commit ++ codes ".commitpartial") → Contains marks (mark_path commit)

-- The paths of the marks of such commits, of all that stand on the disk.
pub record AreLost (d : Disk) (stays : ObjNames) (pins : List ObjName) (marks : List Path) : Type 0 where
  pub each : (p : Path) → Contains marks p → (commit : List ℕ) × IsLost stays pins commit × (p ≡ mark_path commit)
  pub all : (commit : List ℕ) → IsLost stays pins commit → d.at (mark_path commit) ≢ Absent → Contains marks (mark_path commit)

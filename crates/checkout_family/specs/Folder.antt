-- A folder that a checkout made, from then on.
use Rattle.std.specs.Prelude.{◌≡◌, ◌++◌, ℕ, List, Contains}
use Rattle.ost_types.specs.declared.limits.Limits.{Limits}
use Rattle.ost_types.specs.declared.object.Kind.TheVariants.{Commit}
use Rattle.ost_types.specs.declared.object.ObjName.{ObjName}
use Rattle.ost_types.specs.Path.{Name, Path}
use Rattle.fs_trait.specs.Seen.{shows}
use Rattle.fs_trait.specs.View.{Disk, View}
use Rattle.repo_layout.specs.BootPaths.{checkout_path}
use Rattle.repo_model.specs.Objects.{Stores, path_of}
use Rattle.repo_model.specs.Trees.{name_of}
use Rattle.reach.specs.Reach.{Is, Reach}
use Rattle.rely_guarantee.specs.Books.{Books, Unclaimed}
use Rattle.checkout_command.specs.Answers.{IsCheckedOut}

-- none of these objects is the commit's, or one that is reached from it in the store as it is
abbrev pub AreSpared : List ObjName → List ℕ → Disk → Type 0
AreSpared out commit d = (o : ObjName) → Contains out o → Reach (Stores d) (Is (name_of Commit commit)) o → ⊥

-- No command has claimed the folder of the name, and at and below it stands what stood there on a disk on which it was the commit's tree.
-- Each object of that disk that wasn't removed is there still, and as it was. So the folder is that tree on this disk too, each file one
-- inode with its object, as long as none of the commit's objects was removed.
pub record StaysTree (limits : Limits) (out : List ObjName) (commit : List ℕ) (name : Name) (v : View) (b : Books) : Type 0 where
  pub free : Unclaimed name b
  pub made : Disk
  pub tree : IsCheckedOut made limits commit name
  pub same : (rest : Path) → shows v.now (checkout_path name ++ rest) ≡ shows made (checkout_path name ++ rest)
  pub objects : (o : ObjName) (bytes : List ℕ) → ¬ (Contains out o) → Stores made o bytes → shows v.now (path_of o) ≡ shows made (path_of o)
  pub now : AreSpared out commit v.now → IsCheckedOut v.now limits commit name

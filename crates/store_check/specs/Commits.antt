-- What is told of the commits of a disk, and of its refs.
use Rattle.std.specs.Prelude.{◌≡◌, ◌≢◌, ◌⊎◌, ℕ, List, Result, Ok, Err}
use Rattle.std.specs.declared.cmp.Ordering.TheVariants.{Less}
use Rattle.ost_types.specs.declared.limits.Limits.{Limits}
use Rattle.ost_types.specs.declared.object.Kind.TheVariants as kind
use Rattle.ost_types.specs.declared.object.ObjName.{ObjName}
use Rattle.ost_types.specs.Path.{Path, path_cmp}
use Rattle.fs_trait.specs.declared.types.Value.TheVariants.{Absent}
use Rattle.fs_trait.specs.Effect.{OfNone}
use Rattle.fs_trait.specs.View.{Disk}
use Rattle.repo_layout.specs.RefFile.{IsSum}
use Rattle.repo_model.specs.Objects.{Marked, Stores, path_of}
use Rattle.repo_model.specs.Trees.{name_of}
use Rattle.repo_model.specs.Whole.{Complete}
use Rattle.tree_read.specs.declared.fault.TreeFault.TheVariants as tree
use Rattle.tree_read.specs.Whole.{ReadsTree}
use Rattle.store_check.specs.declared.fault.CommitsFault.{CommitsFault}
use Rattle.store_check.specs.declared.fault.CommitsFault.TheVariants.{Incomplete, Fs, NoMemory}

abbrev pub commit_path : List ℕ → Path
commit_path commit = path_of (name_of kind.Commit commit)

-- The commit is there, and no mark says that objects of it may be missing.
pub record IsFinished (d : Disk) (commit : List ℕ) : Type 0 where
  pub there : d.at (commit_path commit) ≢ Absent
  pub unmarked : ¬ (Marked d commit)

-- a commit without a mark is whole within the limits
abbrev pub IsWhole : Disk → Limits → List ℕ → Type 0
IsWhole d limits commit = IsSum commit → IsFinished d commit → Complete (Stores d) limits commit

-- The first object of the commit's tree, as it is read, that is missing or damaged, or that names a path past the limits.
abbrev pub Lacks : Disk → Limits → List ℕ → ObjName → Type 0
Lacks d limits commit object = ReadsTree d limits commit (Err (tree.Absent object)) ⊎ ReadsTree d limits commit (Err (tree.Damaged object))

-- The first commit by path that isn't whole, and what it lacks.
pub record IsFirstIncomplete (d : Disk) (limits : Limits) (at : Path) (object : ObjName) : Type 0 where
  pub commit : List ℕ
  pub sum : IsSum commit
  pub path : at ≡ commit_path commit
  pub finished : IsFinished d commit
  pub lacks : Lacks d limits commit object
  pub least : (other : List ℕ) → path_cmp (commit_path other) at ≡ Less → IsWhole d limits other

-- Each answer of the check of all commits.
abbrev pub ChecksTrees : Disk → Limits → Result (Unit {0}) CommitsFault → Type 0
ChecksTrees d limits (Ok x) = (commit : List ℕ) → IsWhole d limits commit
ChecksTrees d limits (Err (Incomplete at object)) = IsFirstIncomplete d limits at object
ChecksTrees d limits (Err (Fs e)) = OfNone e
ChecksTrees d limits (Err NoMemory) = Unit {0}

-- Each answer of the check of one object, if it is a commit.
abbrev pub ChecksName : Disk → Limits → ObjName → Result (Unit {0}) CommitsFault → Type 0
ChecksName d limits name (Ok x) = name.kind ≡ kind.Commit → ¬ (Marked d name.csum) → Complete (Stores d) limits name.csum
ChecksName d limits name (Err (Incomplete at object)) = (name.kind ≡ kind.Commit) × (at ≡ path_of name) × (¬ (Marked d name.csum)) × Lacks d limits name.csum object
ChecksName d limits name (Err (Fs e)) = OfNone e
ChecksName d limits name (Err NoMemory) = Unit {0}

-- What is told of refs, each a name with its commit.
use Rattle.std.specs.Prelude.{◌≡◌, ◌≢◌, ◌⊎◌, ℕ, List, Contains, Option, Some, None, Result, Ok, Err}
use Rattle.std.specs.declared.cmp.Ordering.TheVariants.{Less}
use Rattle.ost_types.specs.declared.limits.Limits.{Limits}
use Rattle.ost_types.specs.declared.object.Kind.TheVariants as kind
use Rattle.ost_types.specs.declared.object.ObjName.{ObjName}
use Rattle.ost_types.specs.Path.{Path, path_cmp}
use Rattle.fs_trait.specs.Effect.{OfNone}
use Rattle.fs_trait.specs.View.{Disk}
use Rattle.repo_layout.specs.Paths.{ref_path}
use Rattle.repo_model.specs.Trees.{name_of}
use Rattle.store_check.specs.declared.fault.CommitsFault.{CommitsFault}
use Rattle.store_check.specs.declared.fault.CommitsFault.TheVariants.{Incomplete, Fs, NoMemory}
use Rattle.store_check.specs.declared.refs.WrongRef.{WrongRef}
use Rattle.store_check.specs.Commits.{IsFinished, IsFirstIncomplete, IsWhole}

-- a ref: its name, and the commit that it names
abbrev pub Ref : Type 0
Ref = List ℕ × List ℕ

-- each of them names a commit that is there and has no mark
abbrev pub AreFounded : Disk → List Ref → Type 0
AreFounded d refs = (r : Ref) → Contains refs r → IsFinished d r.1

-- The first of them by path that doesn't.
pub record IsFirstUnfounded (d : Disk) (refs : List Ref) (at : Path) (object : ObjName) : Type 0 where
  pub ref : Ref
  pub among : Contains refs ref
  pub path : at ≡ ref_path ref.0
  pub names : object ≡ name_of kind.Commit ref.1
  pub wrong : ¬ (IsFinished d ref.1)
  pub least : (other : Ref) → Contains refs other → path_cmp (ref_path other.0) at ≡ Less → IsFinished d other.1

-- Each answer of the check of the refs.
abbrev pub ChecksRefs : Disk → List Ref → Result (Unit {0}) CommitsFault → Type 0
ChecksRefs d refs (Ok x) = AreFounded d refs
ChecksRefs d refs (Err (Incomplete at object)) = IsFirstUnfounded d refs at object
ChecksRefs d refs (Err (Fs e)) = OfNone e
ChecksRefs d refs (Err NoMemory) = Unit {0}

-- Each answer of the check of commits and refs. Commits come first.
abbrev pub ChecksCommits : Disk → Limits → List Ref → Result (Unit {0}) CommitsFault → Type 0
ChecksCommits d limits refs (Ok x) = ((commit : List ℕ) → IsWhole d limits commit) × AreFounded d refs
ChecksCommits d limits refs (Err (Incomplete at object)) =
    IsFirstIncomplete d limits at object
    ⊎ (((commit : List ℕ) → IsWhole d limits commit) × IsFirstUnfounded d refs at object)
ChecksCommits d limits refs (Err (Fs e)) = OfNone e
ChecksCommits d limits refs (Err NoMemory) = Unit {0}

-- The first wrong ref of these, if there is one.
abbrev pub IsFirstWrong : Disk → List Ref → Option WrongRef → Type 0
IsFirstWrong d refs None = AreFounded d refs
IsFirstWrong d refs (Some w) = IsFirstUnfounded d refs w.at (name_of kind.Commit w.commit)

-- the lesser of two wrong refs
abbrev pub IsLesser : Option WrongRef → WrongRef → WrongRef → Type 0
IsLesser None other one = one ≡ other
IsLesser (Some first) other one = ((path_cmp other.at first.at ≡ Less) × (one ≡ other)) ⊎ ((path_cmp other.at first.at ≢ Less) × (one ≡ first))

abbrev pub wrong_at : Ref → WrongRef
wrong_at r = record { at = ref_path r.0; commit = r.1 }

-- The first wrong ref with one more looked at.
abbrev pub Adds : Disk → Option WrongRef → Ref → Option WrongRef → Type 0
Adds d first r one =
    (IsFinished d r.1 × (one ≡ first))
    ⊎ ((¬ (IsFinished d r.1)) × ((w : WrongRef) × (one ≡ Some w) × IsLesser first (wrong_at r) w))

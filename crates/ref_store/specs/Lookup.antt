-- What is told of a ref.
use Rattle.std.specs.Prelude.{◌≡◌, ◌≢◌, ℕ, true, List, Result, Ok, Err}
use Rattle.ost_types.specs.Path.{Path}
use Rattle.fs_trait.specs.declared.types.FsErr.{FsErr}
use Rattle.fs_trait.specs.declared.types.FsErr.TheVariants.{Failed, NoMemory}
use Rattle.fs_trait.specs.declared.types.Value.TheVariants.{Absent}
use Rattle.fs_trait.specs.View.{Disk}
use Rattle.fs_trait.specs.Image.{is_folder}
use Rattle.repo_layout.specs.Paths.{ref_path}
use Rattle.repo_layout.specs.Refs.{ShowsCommit, ShowsNoCommit, Names}
use Rattle.ref_store.specs.declared.lookup.GetRef.{GetRef}
use Rattle.ref_store.specs.declared.lookup.GetRef.TheVariants as ref
use Rattle.ref_store.specs.declared.lookup.There.{There}
use Rattle.ref_store.specs.declared.lookup.There.TheVariants.{Nothing, Folder, Commit, OtherLeaf}

-- what stands at a path
abbrev pub IsThere : Disk → Path → There → Type 0
IsThere d at Nothing = d.at at ≡ Absent
IsThere d at Folder = is_folder (d.at at) ≡ true
IsThere d at (Commit commit) = ShowsCommit d at commit
IsThere d at OtherLeaf = ShowsNoCommit d at

-- a call that fails and want of memory have causes of their own, and no other answer comes
abbrev pub Looks : Disk → Path → Result There FsErr → Type 0
Looks d at (Ok there) = IsThere d at there
Looks d at (Err Failed) = Unit {0}
Looks d at (Err NoMemory) = Unit {0}
Looks d at (Err e) = ⊥

abbrev pub ref_of : There → GetRef
ref_of Nothing = ref.Absent
ref_of (Commit commit) = ref.Names commit
ref_of Folder = ref.Unreadable
ref_of OtherLeaf = ref.Unreadable

-- Something stands at the ref's path that is no ref file.
pub record IsUnreadable (d : Disk) (name : List ℕ) : Type 0 where
  pub there : d.at (ref_path name) ≢ Absent
  pub none : (commit : List ℕ) → ¬ (Names d name commit)

-- what a ref is
abbrev pub IsRef : Disk → List ℕ → GetRef → Type 0
IsRef d name ref.Absent = d.at (ref_path name) ≡ Absent
IsRef d name (ref.Names commit) = Names d name commit
IsRef d name ref.Unreadable = IsUnreadable d name

abbrev pub Gets : Disk → List ℕ → Result GetRef FsErr → Type 0
Gets d name (Ok r) = IsRef d name r
Gets d name (Err Failed) = Unit {0}
Gets d name (Err NoMemory) = Unit {0}
Gets d name (Err e) = ⊥

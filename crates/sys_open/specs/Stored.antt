-- What is told of the objects and commits of a disk, by the refs that were read, and of the list that it boots.
use Rattle.std.specs.Prelude.{◌≡◌, ◌⊎◌, List, [], Result, Ok, Err}
use Rattle.ost_types.specs.declared.limits.Limits.{Limits}
use Rattle.fs_trait.specs.View.{Disk}
use Rattle.repo_layout.specs.declared.folder.Folder.TheVariants as folder
use Rattle.repo_layout.specs.Paths.{folder_path}
use Rattle.repo_model.specs.Objects.{path_of}
use Rattle.boot_read.specs.declared.fault.ListFault.{ListFault}
use Rattle.boot_read.specs.declared.fault.ListFault.TheVariants as list
use Rattle.store_check.specs.declared.fault.ObjectsFault.{ObjectsFault}
use Rattle.store_check.specs.declared.fault.ObjectsFault.TheVariants as objects
use Rattle.store_check.specs.declared.fault.CommitsFault.{CommitsFault}
use Rattle.store_check.specs.declared.fault.CommitsFault.TheVariants as commits
use Rattle.store_check.specs.Commits.{IsFirstIncomplete}
use Rattle.store_check.specs.Refs.{AreFounded, IsFirstUnfounded, Ref}
use Rattle.sys_open.specs.declared.fault.Why.TheVariants.{BadObject, Incomplete, TooMany, BadLink, BadEntry, NoDeployment}
use Rattle.sys_open.specs.declared.fault.OpenFault.{OpenFault}
use Rattle.sys_open.specs.declared.fault.OpenFault.TheVariants as fault
use Rattle.sys_open.specs.Damages.{AreWhole, Commits, Fails, Objects, Passes}
use Rattle.sys_open.specs.Faults.{IsRefusal}

-- what an opening tells where the objects don't pass
abbrev pub IsObjectsFault : ObjectsFault → OpenFault → Type 0
IsObjectsFault (objects.TooMany n) f = (f ≡ fault.Damaged (folder_path folder.Objects) (TooMany n)) ⊎ (f ≡ fault.NoMemory)
IsObjectsFault (objects.Damaged name found) f = (f ≡ fault.Damaged (path_of name) (BadObject found)) ⊎ (f ≡ fault.NoMemory)
IsObjectsFault (objects.Fs e) f = IsRefusal [] e f
IsObjectsFault objects.NoMemory f = f ≡ fault.NoMemory

-- or the commits
abbrev pub IsCommitsFault : CommitsFault → OpenFault → Type 0
IsCommitsFault (commits.Incomplete p object) f = f ≡ fault.Damaged p (Incomplete object)
IsCommitsFault (commits.Fs e) f = IsRefusal [] e f
IsCommitsFault commits.NoMemory f = f ≡ fault.NoMemory

-- or the list
abbrev pub IsListFault : ListFault → OpenFault → Type 0
IsListFault (list.BadLink at) f = f ≡ fault.Damaged at BadLink
IsListFault (list.TooMany at) f = f ≡ fault.Damaged at (TooMany 9)
IsListFault (list.BadEntry at found) f = f ≡ fault.Damaged at (BadEntry found)
IsListFault (list.NoDeployment at) f = f ≡ fault.Damaged at NoDeployment
IsListFault (list.Fs e) f = IsRefusal [] e f
IsListFault list.NoMemory f = f ≡ fault.NoMemory

-- What a look at the commits and at these refs tells.
abbrev pub LooksAtCommits : {T : Type 0} → Limits → Disk → List Ref → Result T OpenFault → Type 0
LooksAtCommits limits d refs (Ok x) = AreWhole limits d × AreFounded d refs
LooksAtCommits limits d refs (Err (fault.Damaged p (Incomplete object))) = IsFirstIncomplete d limits p object ⊎ (AreWhole limits d × IsFirstUnfounded d refs p object)
LooksAtCommits limits d refs (Err (fault.Damaged p why)) = ⊥
LooksAtCommits limits d refs (Err (fault.Outside p)) = ⊥
LooksAtCommits limits d refs (Err e) = Unit {0}

-- What the two checks tell, of the objects and then of the commits.
abbrev pub ToldOfStore : {T : Type 0} → Limits → Disk → Result T OpenFault → Type 0
ToldOfStore limits d (Ok x) = Passes Objects limits d × Passes Commits limits d
ToldOfStore limits d (Err (fault.Damaged p why)) = Fails Objects limits d p why ⊎ (Passes Objects limits d × Fails Commits limits d p why)
ToldOfStore limits d (Err (fault.Outside p)) = ⊥
ToldOfStore limits d (Err e) = Unit {0}

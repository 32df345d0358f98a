-- Where each file that stands is right, a walk tells all that is told of a tree that is read.
use Rattle.std.proofs.Common.{◌≡◌, ◌⊎◌, inl, inr, ⊎_elim, ℕ, List, Result, Ok, Err, refl}
use Rattle.ost_types.specs.declared.limits.Limits.{Limits}
use Rattle.ost_types.specs.declared.node.NodeName.{NodeName}
use Rattle.ost_types.specs.declared.object.Kind.{Kind}
use Rattle.ost_types.specs.declared.object.Kind.TheVariants as kind
use Rattle.ost_types.specs.declared.object.ObjName.{ObjName}
use Rattle.ost_types.specs.Path.{Path}
use Rattle.fs_trait.specs.declared.types.FsErr.{FsErr}
use Rattle.fs_trait.specs.declared.task.StepResult.{StepResult}
use Rattle.fs_trait.specs.declared.task.StepResult.TheVariants as turn
use Rattle.fs_trait.specs.View.{Disk}
use Rattle.repo_model.specs.Objects.{Store, Stores}
use Rattle.repo_model.specs.Trees.{TreeShows, name_of}
use Rattle.repo_model.specs.Whole.{Complete}
use Rattle.tree_read.specs.declared.fault.TreeFault.{TreeFault}
use Rattle.tree_read.specs.declared.fault.TreeFault.TheVariants as fault
use Rattle.tree_read.specs.Looks.{IsAbsent, IsDamaged}
use Rattle.tree_read.specs.Order.{AbsentIn, DamagedIn, FirstAbsent, FirstDamaged, NamesFar}
use Rattle.tree_read.specs.Whole.{AtCommitIn, AtCommitOr}
use Rattle.tree_read.specs.Reading.{Knows, Reading, StepTells, TellsIn}
use Rattle.tree_walk.specs.Standing.{AreRight, Standing, StandsAs}
use Rattle.tree_walk.proofs.Alike.{HasFolders, commit_up, complete_up, far_up, knows_up, many_up, stops_up, tree_up}

up_as : (d : Disk) (k : Kind) (o : ObjName) (b : List ℕ) → (k ≡ kind.File → ⊥) → StandsAs k d o b → Stores d o b
up_as d kind.Commit o b is s = s
up_as d kind.DirTree o b is s = s
up_as d kind.DirMeta o b is s = s
up_as d kind.File o b is s = absurd (is refl)

down_as : (d : Disk) (k : Kind) (o : ObjName) (b : List ℕ) → (k ≡ kind.File → ⊥) → Stores d o b → StandsAs k d o b
down_as d kind.Commit o b is s = s
down_as d kind.DirTree o b is s = s
down_as d kind.DirMeta o b is s = s
down_as d kind.File o b is s = absurd (is refl)

pub folders_up : (d : Disk) → HasFolders (Standing d) (Stores d)
folders_up d o b is s = up_as d o.kind o b is s

pub folders_down : (d : Disk) → HasFolders (Stores d) (Standing d)
folders_down d o b is s = down_as d o.kind o b is s

-- both show the same
pub shown_rightly : (d : Disk) (commit : List ℕ) (p : Path) (n : NodeName) → TreeShows (Standing d) commit p n → TreeShows (Stores d) commit p n
shown_rightly d = tree_up (Standing d) (Stores d) (folders_up d)

pub shown_standing : (d : Disk) (commit : List ℕ) (p : Path) (n : NodeName) → TreeShows (Stores d) commit p n → TreeShows (Standing d) commit p n
shown_standing d = tree_up (Stores d) (Standing d) (folders_down d)

-- what may be wrong with an object that is told to be damaged
abbrev Wrong : Store → Disk → Limits → ObjName → Path → Type 0
Wrong S d limits o at = IsDamaged d limits.content o ⊎ ((o.kind ≡ kind.DirTree) × NamesFar S o.csum at)

module _ (d : Disk) (limits : Limits) (right : AreRight limits.content d) where
  pub knows_rightly : (t : Reading) → t.limits ≡ limits → Knows (Standing d) t → Knows (Stores d) t
  knows_rightly = knows_up (Standing d) (Stores d) (folders_up d) (folders_down d) limits (λ sum has. right sum has.stored.0 has.stored.1)

  pub whole_rightly : (commit : List ℕ) → Complete (Standing d) limits commit → Complete (Stores d) limits commit
  whole_rightly = complete_up (Standing d) (Stores d) (folders_up d) (folders_down d) limits (λ sum has. right sum has.stored.0 has.stored.1)

  absent_rightly : (tree meta : List ℕ) (o : ObjName) → AbsentIn (Standing d) d limits tree meta o → AbsentIn (Stores d) d limits tree meta o
  absent_rightly tree meta o = stops_up (Standing d) (Stores d) (folders_up d) (folders_down d) limits (λ sum has. right sum has.stored.0 has.stored.1) tree meta o (λ at. IsAbsent d o) (λ at. IsAbsent d o) (λ at absent. absent)

  damaged_rightly : (tree meta : List ℕ) (o : ObjName) → DamagedIn (Standing d) d limits tree meta o → DamagedIn (Stores d) d limits tree meta o
  damaged_rightly tree meta o is = ⊎_elim
      (λ s. inl (stops_up (Standing d) (Stores d) (folders_up d) (folders_down d) limits (λ sum has. right sum has.stored.0 has.stored.1) tree meta o (Wrong (Standing d) d limits o) (Wrong (Stores d) d limits o) (λ at wrong. ⊎_elim (λ damaged. inl damaged) (λ far. inr (far.0, far_up (Standing d) (Stores d) (folders_up d) o.csum at far.1)) wrong) s))
      (λ m. inr (many_up (Standing d) (Stores d) (folders_up d) (folders_down d) limits (λ sum has. right sum has.stored.0 has.stored.1) tree meta o m))
      is

  pub absent_found : (commit : List ℕ) (o : ObjName) → AtCommitIn (Standing d) commit ((o ≡ name_of kind.Commit commit) × IsAbsent d o) (λ tree meta. AbsentIn (Standing d) d limits tree meta o)
      → AtCommitOr d commit ((o ≡ name_of kind.Commit commit) × IsAbsent d o) (λ tree meta. FirstAbsent d limits tree meta o)
  absent_found commit o is = ⊎_elim
      (λ itself. inl itself)
      (λ below. inr (below.0, commit_up (Standing d) (Stores d) (folders_up d) commit below.0 below.1, absent_rightly below.0.tree below.0.meta o below.2))
      is

  pub damaged_found : (commit : List ℕ) (o : ObjName) → AtCommitIn (Standing d) commit ((o ≡ name_of kind.Commit commit) × IsDamaged d limits.content o) (λ tree meta. DamagedIn (Standing d) d limits tree meta o)
      → AtCommitOr d commit ((o ≡ name_of kind.Commit commit) × IsDamaged d limits.content o) (λ tree meta. FirstDamaged d limits tree meta o)
  damaged_found commit o is = ⊎_elim
      (λ itself. inl itself)
      (λ below. inr (below.0, commit_up (Standing d) (Stores d) (folders_up d) commit below.0 below.1, damaged_rightly below.0.tree below.0.meta o below.2))
      is

-- each answer of a step
pub tells_rightly : (d : Disk) (old new : Reading) (r : Result (StepResult (Result (Unit {0}) TreeFault)) FsErr) → AreRight old.limits.content d → new.limits ≡ old.limits → TellsIn (Standing d) d old r new → StepTells d old r new
tells_rightly d old new (Ok turn.More) right is tells = knows_rightly d old.limits right new is tells
tells_rightly d old new (Ok (turn.Done (Ok x))) right is tells = (knows_rightly d old.limits right old refl tells.0, tells.1)
tells_rightly d old new (Ok (turn.Done (Err (fault.Absent o)))) right is tells = absent_found d old.limits right old.commit o tells
tells_rightly d old new (Ok (turn.Done (Err (fault.Damaged o)))) right is tells = damaged_found d old.limits right old.commit o tells
tells_rightly d old new (Ok (turn.Done (Err (fault.Fs e)))) right is tells = absurd tells
tells_rightly d old new (Ok (turn.Done (Err fault.NoMemory))) right is tells = absurd tells
tells_rightly d old new (Err e) right is tells = tells

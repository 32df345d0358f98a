-- From the steps to the whole.
use Rattle.std.proofs.Common.{◌≡◌, List, ℕ, Ok, Err, subst}
use Rattle.ost_types.specs.declared.limits.Limits.{Limits}
use Rattle.fs_trait.specs.declared.task.StepResult.TheVariants as turn
use Rattle.fs_trait.specs.View.{Disk}
use Rattle.tree_read.specs.declared.fault.TreeFault.{TreeFault}
use Rattle.tree_read.specs.declared.fault.TreeFault.TheVariants as fault
use Rattle.tree_read.specs.Reading.{Reading, StepTells}
use Rattle.tree_read.specs.Whole.{ReadsTree}
use Rattle.tree_read.proofs.Steps.{whole}

fault_told : (d : Disk) (old new : Reading) (f : TreeFault) → StepTells d old (Ok (turn.Done (Err f))) new → ReadsTree d old.limits old.commit (Err f)
fault_told d old new (fault.Absent o) tells = tells
fault_told d old new (fault.Damaged o) tells = tells
fault_told d old new (fault.Fs e) tells = absurd tells
fault_told d old new fault.NoMemory tells = absurd tells

module _ (d : Disk) (old new : Reading) (limits : Limits) (commit : List ℕ) (limits_are : old.limits ≡ limits) (commit_is : old.commit ≡ commit) where
  pub ends_told : (f : TreeFault) → StepTells d old (Ok (turn.Done (Err f))) new → ReadsTree d limits commit (Err f)
  ends_told f tells = subst (λ (l : Limits). ReadsTree d l commit (Err f)) limits_are (subst (λ (c : List ℕ). ReadsTree d old.limits c (Err f)) commit_is (fault_told d old new f tells))

  pub ends_whole : StepTells d old (Ok (turn.Done (Ok tt))) new → ReadsTree d limits commit (Ok old.found)
  ends_whole tells = subst (λ (l : Limits). ReadsTree d l commit (Ok old.found)) limits_are (subst (λ (c : List ℕ). ReadsTree d old.limits c (Ok old.found)) commit_is (whole d old tells.0 tells.1))

-- From the parts of the check of commits and refs to the whole.
use Rattle.std.proofs.Common.{inl, inr, List, ℕ, Result, Ok, Err}
use Rattle.ost_types.specs.declared.limits.Limits.{Limits}
use Rattle.fs_trait.specs.View.{Disk}
use Rattle.store_check.specs.declared.fault.CommitsFault.{CommitsFault}
use Rattle.store_check.specs.declared.fault.CommitsFault.TheVariants.{Incomplete, Fs, NoMemory}
use Rattle.store_check.specs.Commits.{ChecksTrees, IsWhole}
use Rattle.store_check.specs.Refs.{ChecksCommits, ChecksRefs, Ref}

pub trees_end : (d : Disk) (limits : Limits) (refs : List Ref) (f : CommitsFault) → ChecksTrees d limits (Err f) → ChecksCommits d limits refs (Err f)
trees_end d limits refs (Incomplete at object) told = inl told
trees_end d limits refs (Fs e) told = told
trees_end d limits refs NoMemory told = tt

pub refs_end : (d : Disk) (limits : Limits) (refs : List Ref) (r : Result (Unit {0}) CommitsFault) → ((commit : List ℕ) → IsWhole d limits commit) → ChecksRefs d refs r → ChecksCommits d limits refs r
refs_end d limits refs (Ok x) whole told = (whole, told)
refs_end d limits refs (Err (Incomplete at object)) whole told = inr (whole, told)
refs_end d limits refs (Err (Fs e)) whole told = told
refs_end d limits refs (Err NoMemory) whole told = tt

-- What is told of all commits, from what is told of one.
use Rattle.std.proofs.Common.{◌≡◌, ◌≢◌, ◌⊎◌, inl, inr, ℕ, ◌<◌, ◌≤◌, List, length, get_or, refl, sym, ◌∙◌, ap, subst, arith, Err}
use Rattle.std.specs.declared.cmp.Ordering.TheVariants.{Less}
use Rattle.ost_types.specs.declared.limits.Limits.{Limits}
use Rattle.ost_types.specs.declared.object.Kind.TheVariants as kind
use Rattle.ost_types.specs.declared.object.ObjName.{ObjName}
use Rattle.ost_types.specs.Path.{path_cmp}
use Rattle.fs_trait.specs.declared.types.Value.TheVariants.{Absent}
use Rattle.fs_trait.specs.View.{Disk}
use Rattle.repo_layout.specs.RefFile.{IsSum}
use Rattle.repo_model.specs.Objects.{Marked, Stores, path_of}
use Rattle.repo_model.specs.Trees.{name_of}
use Rattle.repo_model.specs.Whole.{Complete}
use Rattle.store_check.specs.declared.fault.CommitsFault.{CommitsFault}
use Rattle.store_check.specs.declared.fault.CommitsFault.TheVariants.{Incomplete, Fs, NoMemory}
use Rattle.store_check.specs.Listing.{IsThere, AreAll}
use Rattle.store_check.specs.Commits.{ChecksName, ChecksTrees, IsFinished, IsWhole, Lacks, commit_path}
use Rattle.store_check.proofs.Firsts.{SoFar, so_before}

-- what is told of one object that passes
abbrev pub PassesName : Disk → Limits → ObjName → Type 0
PassesName d limits name = name.kind ≡ kind.Commit → ¬ (Marked d name.csum) → Complete (Stores d) limits name.csum

module _ (d : Disk) (limits : Limits) (names : List ObjName) (are : AreAll d names) where
  is_there : (commit : List ℕ) → IsSum commit → IsFinished d commit → IsThere d (name_of kind.Commit commit)
  is_there commit sum finished = record { sum = sum; there = finished.there }

  pub every_whole : (i : ℕ) → length names ≤ i → SoFar (PassesName d limits) names i → (commit : List ℕ) → IsWhole d limits commit
  every_whole i whole before commit sum finished = at (are.all (name_of kind.Commit commit) (is_there commit sum finished))
    where
      at : (k : ℕ) × (k < length names) × (get_or names k (name_of kind.Commit commit) ≡ name_of kind.Commit commit) → Complete (Stores d) limits commit
      at (k, within, here) = before k (name_of kind.Commit commit) (omega (arith, within, whole)) here refl finished.unmarked

  module _ (i : ℕ) (x : ObjName) (inside : i < length names) (is : x ≡ get_or names i x) (before : SoFar (PassesName d limits) names i) where
    pub first_incomplete : (f : CommitsFault) → ChecksName d limits x (Err f) → ChecksTrees d limits (Err f)
    first_incomplete (Incomplete at object) told = record {
      commit = x.csum;
      sum = here.sum;
      path = told.1 ∙ path;
      finished = record { there = subst (λ n. d.at (path_of n) ≢ Absent) named here.there; unmarked = told.2 };
      lacks = told.3;
      least = λ other less sum finished.
          so_before d names are (PassesName d limits) i x inside is before (name_of kind.Commit other) (is_there other sum finished)
          (subst (λ p. path_cmp (commit_path other) p ≡ Less) told.1 less)
          (λ same attributes entries. let n : kind.Commit ≡ kind.DirMeta = attributes in cc) refl finished.unmarked;
    }
      where
        here : IsThere d x
        here = are.here x (i, inside, sym is)

        named : x ≡ name_of kind.Commit x.csum
        named = ap (λ k. record { csum = x.csum; kind = k }) told.0

        path : path_of x ≡ commit_path x.csum
        path = ap path_of named
    first_incomplete (Fs e) told = told
    first_incomplete NoMemory told = tt

-- the first object that a commit lacks, told at the commit's path
pub incomplete_told : (d : Disk) (limits : Limits) (name object : ObjName) (f : CommitsFault) → (f ≡ Incomplete (path_of name) object) ⊎ (f ≡ NoMemory) → name.kind ≡ kind.Commit → ¬ (Marked d name.csum) → Lacks d limits name.csum object → ChecksName d limits name (Err f)
incomplete_told d limits name object f (inl is) commit unmarked lacks = subst (λ g. ChecksName d limits name (Err g)) (sym is) (commit, refl, unmarked, lacks)
incomplete_told d limits name object f (inr is) commit unmarked lacks = subst (λ g. ChecksName d limits name (Err g)) (sym is) tt

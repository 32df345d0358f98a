-- What was read of a disk is had by a store by which it is walked.
use Rattle.std.proofs.Common.{◌≡◌, ℕ, List}
use Rattle.ost_types.specs.declared.meta.Meta.{Meta}
use Rattle.ost_types.specs.declared.object.Kind.TheVariants as kind
use Rattle.ost_forms.specs.Commit.{CommitParts}
use Rattle.ost_forms.specs.DirTree.{Entries}
use Rattle.fs_trait.specs.View.{Disk}
use Rattle.repo_model.specs.Objects.{Store, Stores}
use Rattle.repo_model.specs.Trees.{HasCommit, HasEntries, HasMeta, name_of}
use Rattle.tree_read.specs.TreeStore.{IsTreeStore}

module _ (d : Disk) (S : Store) (is : IsTreeStore d S) where
  pub commit_in : (sum : List ℕ) (c : CommitParts) → HasCommit (Stores d) sum c → HasCommit S sum c
  commit_in sum c has = record { bytes = has.bytes; stored = is.folders (name_of kind.Commit sum) has.bytes (λ e. let no : kind.Commit ≡ kind.File = e in cc) has.stored; reads = has.reads }

  pub folder_in : (sum : List ℕ) (e : Entries) → HasEntries (Stores d) sum e → HasEntries S sum e
  folder_in sum e has = record { bytes = has.bytes; stored = is.folders (name_of kind.DirTree sum) has.bytes (λ e. let no : kind.DirTree ≡ kind.File = e in cc) has.stored; reads = has.reads }

  pub meta_in : (sum : List ℕ) (m : Meta) → HasMeta (Stores d) sum m → HasMeta S sum m
  meta_in sum m has = record { bytes = has.bytes; stored = is.folders (name_of kind.DirMeta sum) has.bytes (λ e. let no : kind.DirMeta ≡ kind.File = e in cc) has.stored; reads = has.reads }

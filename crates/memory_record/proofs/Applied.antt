-- A change is what its call does.
use Rattle.std.proofs.Common.{◌≡◌, ℕ, List, refl}
use Rattle.ost_types.specs.declared.meta.Meta.{Meta}
use Rattle.ost_types.specs.Path.{Path}
use Rattle.fs_trait.specs.declared.types.Value.{Value}
use Rattle.fs_trait.specs.View.{View, named, created, moved, extended, file_synced, folder_synced, all_synced}
use Rattle.memory_record.specs.declared.change.Change.TheVariants.{Nothing, Name, Create, Move, Extend, SyncFile, SyncFolder, SyncAll}
use Rattle.memory_record.specs.Changes.{apply}

pub apply_nothing : (v : View) → apply Nothing v ≡ v
unfolding apply
apply_nothing v = refl

module _ (v : View) where
  pub apply_name : (p : Path) (x : Value) → apply (Name p x) v ≡ named p x v
  unfolding apply
  apply_name p x = refl

  pub apply_create : (p : Path) (m : Meta) (n : ℕ) → apply (Create p m n) v ≡ created p m n v
  unfolding apply
  apply_create p m n = refl

  pub apply_move : (from to : Path) → apply (Move from to) v ≡ moved from to v
  unfolding apply
  apply_move from to = refl

  pub apply_extend : (n : ℕ) (b : List ℕ) → apply (Extend n b) v ≡ extended n b v
  unfolding apply
  apply_extend n b = refl

  pub apply_sync_file : (n : ℕ) → apply (SyncFile n) v ≡ file_synced n v
  unfolding apply
  apply_sync_file n = refl

  pub apply_sync_folder : (f : Path) → apply (SyncFolder f) v ≡ folder_synced f v
  unfolding apply
  apply_sync_folder f = refl

  pub apply_sync_all : apply SyncAll v ≡ all_synced v
  unfolding apply
  apply_sync_all = refl

-- What a look at the configuration tells.
use Rattle.std.proofs.Common.{◌≡◌, ◌⊎◌, inl, inr, ⊎_elim, ℕ, refl, sym, subst, List, Err}
use Rattle.ost_types.specs.Path.{Path}
use Rattle.fs_trait.specs.declared.types.Value.TheVariants.{Absent, Folder, Link, File}
use Rattle.fs_trait.specs.declared.types.Value.{Value}
use Rattle.fs_trait.specs.View.{Disk}
use Rattle.fs_trait.specs.Effect.{inode_of}
use Rattle.fs_trait.specs.Seen.{Seen, Vacant, seen, shows, Leaf}
use Rattle.repo_config.specs.Config.{IsConfig}
use Rattle.sys_open.specs.declared.fault.Why.TheVariants.{BadConfig}
use Rattle.sys_open.specs.declared.fault.OpenFault.{OpenFault}
use Rattle.sys_open.specs.declared.fault.OpenFault.TheVariants as fault
use Rattle.sys_open.specs.Damages.{ShowsConfig}
use Rattle.sys_open.specs.Walk.{IsFileAt, Looked}

file_shows : (d : Disk) (z : Value) (n : ℕ) → z ≡ File n → seen d z ≡ Leaf n (d.meta n) (d.bytes (inode_of z))
file_shows d z n e = rw e refl

-- by the bytes of the file
pub text_shows : (d : Disk) (at : Path) (bytes : List ℕ) → IsFileAt d at → bytes ≡ d.bytes (inode_of (d.at at)) → IsConfig bytes → ShowsConfig (shows d at)
text_shows d at bytes file is config = subst ShowsConfig (sym (file_shows d (d.at at) file.0 file.1)) (subst IsConfig is config)

pub text_config : (d : Disk) (at : Path) (bytes : List ℕ) → IsFileAt d at → bytes ≡ d.bytes (inode_of (d.at at)) → ShowsConfig (shows d at) → IsConfig bytes
text_config d at bytes file is shown = subst IsConfig (sym is) (subst ShowsConfig (file_shows d (d.at at) file.0 file.1) shown)

-- damage told of what stands there
pub damaged_config : (T So : Type 0) (at : Path) (f : OpenFault) → (f ≡ fault.Damaged at BadConfig) ⊎ (f ≡ fault.NoMemory) → (So → ⊥) → Looked {T = T} So BadConfig at (Err f)
damaged_config T So at f (inl e) wrong = rw e (refl, refl, wrong)
damaged_config T So at f (inr e) wrong = rw e tt

no_leaf : (s : Seen) → (s ≡ Vacant → ⊥) → (ShowsConfig s → ⊥) → (s ≡ Vacant) ⊎ ShowsConfig s → ⊥
no_leaf s there other has = ⊎_elim there other has

pub folder_no_config : (d : Disk) (at : Path) (z : Value) → seen d z ≡ shows d at → ((n : ℕ) → z ≡ File n → ⊥) → (z ≡ Absent → ⊥) → (shows d at ≡ Vacant) ⊎ ShowsConfig (shows d at) → ⊥
folder_no_config d at z is no_file there has = by z is no_file there (subst (λ s. (s ≡ Vacant) ⊎ ShowsConfig s) (sym is) has)
  where
    by : (z : Value) → seen d z ≡ shows d at → ((n : ℕ) → z ≡ File n → ⊥) → (z ≡ Absent → ⊥) → (seen d z ≡ Vacant) ⊎ ShowsConfig (seen d z) → ⊥
    by Absent is no_file there has = there refl
    by (File n) is no_file there has = no_file n refl
    by (Folder m) is no_file there (inl none) = let n : seen d (Folder m) ≡ Vacant = none in cc
    by (Folder m) is no_file there (inr bad) = bad
    by (Link m t) is no_file there (inl none) = let n : seen d (Link m t) ≡ Vacant = none in cc
    by (Link m t) is no_file there (inr bad) = bad

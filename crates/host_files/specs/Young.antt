-- The young leaves: files in the reserved place that aren't yet synced and shown under their names.
use Rattle.std.specs.Prelude.{◌≡◌, [], vec_items, vec_len}
use Rattle.host_files.specs.declared.young.Young.{Young}

-- each file was synced after it was written last
abbrev pub AreSynced : {F : Type 0} → Young F → Type 0
AreSynced y = y.synced ≡ vec_len y.files

-- nothing is young
pub record IsSettled {F : Type 0} (y : Young F) : Type 0 where
  pub names : y.names.entries ≡ []
  pub files : vec_items y.files ≡ []

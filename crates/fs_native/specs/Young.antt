-- The young leaves: those in the reserved place that aren't yet synced and shown under their names.
use Rattle.std.specs.Prelude.{◌≡◌, [], vec_items, vec_len}
use Rattle.fs_native.specs.declared.young.Young.{Young}

-- each leaf was given its attributes, and synced, after it was written last
abbrev pub AreSynced : {F : Type 0} → Young F → Type 0
AreSynced y = y.synced ≡ vec_len y.leaves

-- nothing is young
pub record IsSettled {F : Type 0} (y : Young F) : Type 0 where
  pub names : y.names.entries ≡ []
  pub leaves : vec_items y.leaves ≡ []

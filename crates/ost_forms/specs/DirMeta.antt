-- The attributes of a folder as an object: owner, group and mode with the high byte first, and extended attributes.
use Rattle.std.specs.Prelude.{◌≡◌, ◌≤◌, ◌<◌, ◌^◌, ℕ, List, [], ◌∷◌, length, Option, Some, Result, Ok, Err}
use Rattle.std.specs.Int.{w32, to_be_bytes}
use Rattle.gv_core.specs.Container.{container_form}
use Rattle.ost_types.specs.declared.meta.Meta.{Meta}
use Rattle.ost_types.specs.Mode.{IsFolderMode}
use Rattle.ost_forms.specs.declared.object_type.ObjectType.TheVariants as types
use Rattle.ost_forms.specs.declared.fault.ObjFault.{ObjFault}
use Rattle.ost_forms.specs.declared.fault.ObjFault.TheVariants.{NotNormal, BadSumLength, BadName, NotSorted, BadMode, TooLarge, NoMemory}
use Rattle.ost_forms.specs.TypeText.{type_text}
use Rattle.ost_forms.specs.Finds.{HasNone}
use Rattle.ost_forms.specs.Rows.{◌>>=◌, xattrs_form}

-- as many bytes as an object may have that isn't a file
abbrev pub object_limit : ℕ
object_limit = 67108864

abbrev pub dirmeta_form : Meta → Option (List ℕ)
dirmeta_form m = xattrs_form m.xattrs >>= λ xs. container_form (type_text types.DirMeta) (to_be_bytes w32 m.uid ∷ to_be_bytes w32 m.gid ∷ to_be_bytes w32 m.mode ∷ xs ∷ [])

-- some attributes have these bytes as their form
pub record IsNormalDirMeta (bytes : List ℕ) (m : Meta) : Type 0 where
  pub short : length bytes ≤ object_limit
  pub uid : m.uid < 2 ^ 32
  pub gid : m.gid < 2 ^ 32
  pub mode : m.mode < 2 ^ 32
  pub form : dirmeta_form m ≡ Some bytes

-- Each answer of the reader of such bytes. No two of the first four hold of one run of bytes.
abbrev pub ReadsDirMeta : {X : Type 0} → (X → Meta) → List ℕ → Result X ObjFault → Type 0
ReadsDirMeta see bytes (Ok x) = IsNormalDirMeta bytes (see x) × IsFolderMode (see x).mode
ReadsDirMeta see bytes (Err (TooLarge n)) = (n ≡ length bytes) × (object_limit < n)
ReadsDirMeta see bytes (Err NotNormal) = (length bytes ≤ object_limit) × HasNone dirmeta_form bytes
ReadsDirMeta see bytes (Err BadMode) = (m : Meta) × IsNormalDirMeta bytes m × (IsFolderMode m.mode → ⊥)
ReadsDirMeta see bytes (Err BadSumLength) = ⊥
ReadsDirMeta see bytes (Err BadName) = ⊥
ReadsDirMeta see bytes (Err NotSorted) = ⊥
ReadsDirMeta see bytes (Err NoMemory) = Unit {0}

-- What is kept of the objects that were read.
use Rattle.std.specs.Prelude.{◌≡◌, ◌<◌, ◌≤◌, ◌+◌, ◌++◌, ℕ, List, [], ◌∷◌, length, Contains, Some}
use Rattle.std.specs.List.{sum_by}
use Rattle.ost_types.specs.declared.object.ObjName.{ObjName}
use Rattle.fs_trait.specs.View.{Disk}
use Rattle.repo_model.specs.Objects.{Stores}
use Rattle.store_check.specs.declared.group.Entry.{Entry}
use Rattle.store_check.specs.declared.kept.Kept.{Kept}

-- how many bytes these objects have
abbrev pub size_of : List (ObjName × List ℕ) → ℕ
size_of objects = sum_by (λ o. length o.1) objects

-- Each of them is what the disk has under its name, and with the room that is left they have 64 MiB.
pub record AreKept (d : Disk) (kept : Kept) : Type 0 where
  pub each : (name : ObjName) (bytes : List ℕ) → Contains kept.objects.items (name, bytes) → Stores d name bytes
  pub few : size_of kept.objects.items + kept.room ≡ 67108864

-- so of the bytes that entries have left
abbrev pub AreStored : Disk → List Entry → Type 0
AreStored d entries = (e : Entry) (bytes : List ℕ) → Contains entries e → e.bytes ≡ Some bytes → Stores d e.name bytes

-- an object more is kept, if there is room for its bytes
pub record Adds (old new : Kept) (name : ObjName) (bytes : List ℕ) : Type 0 where
  pub fits : length bytes ≤ old.room → (new.objects.items ≡ old.objects.items ++ (name, bytes) ∷ []) × (new.room + length bytes ≡ old.room)
  pub full : old.room < length bytes → new ≡ old

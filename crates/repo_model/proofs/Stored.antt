-- A disk's objects are a map, and they are what their paths show.
use Rattle.std.proofs.Common.{◌≡◌, ℕ, List, Some, sym, ◌∙◌, ap}
use Rattle.ost_types.specs.declared.object.ObjName.{ObjName}
use Rattle.fs_trait.specs.View.{Disk}
use Rattle.fs_trait.specs.Seen.{shows}
use Rattle.repo_model.specs.Objects.{Stores, IsMap, path_of, object_in, object_at}

pub stores_one : (d : Disk) (name : ObjName) (b c : List ℕ) → Stores d name b → Stores d name c → b ≡ c
stores_one d name b c one other = let e : Some b ≡ Some c = sym one.there ∙ other.there in cc

pub stores_map : (d : Disk) → IsMap (Stores d)
stores_map d = record { one = stores_one d }

pub object_same : (d e : Disk) (name : ObjName) → shows e (path_of name) ≡ shows d (path_of name) → object_at e name ≡ object_at d name
object_same d e name same = ap (object_in name.kind) same

pub stores_same : (d e : Disk) (name : ObjName) (b : List ℕ) → shows e (path_of name) ≡ shows d (path_of name) → Stores d name b → Stores e name b
stores_same d e name b same stored = record { there = object_same d e name same ∙ stored.there; named = stored.named }

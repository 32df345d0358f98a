use Rattle.std.proofs.Common.{◌≡◌, ◌⊎◌, take}
use Rattle.std.specs.Prelude.{Contains}
use Rattle.ost_types.specs.Path.{Name, Path, IsPath, under}
use Rattle.ref_room.proofs.clearing.paths_in.Given as goal

abbrev pub invariant-loop-name : goal.invariant-loop-name
invariant-loop-name l =
    ((p : Path) → Contains l.paths.items p → (x : Name) × (p ≡ under l.folder x))
    × ((x : Name) → Contains (take l.name-index l.name-items) x → Contains l.paths.items (under l.folder x) ⊎ (IsPath (under l.folder x) → ⊥))

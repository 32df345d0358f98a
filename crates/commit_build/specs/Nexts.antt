-- What comes behind an object of the tree: the next one, or the sync of all.
use Rattle.std.specs.Prelude.{◌≡◌, ◌+◌, length, Result, Ok, Err}
use Rattle.ost_types.specs.declared.memory.NoMemory.{NoMemory}
use Rattle.tree_build.specs.Objects.{work}
use Rattle.tree_build.specs.Building.{Building, IsNumber, object_of}
use Rattle.commit_build.specs.declared.phase.Phase.{Phase}
use Rattle.commit_build.specs.declared.phase.Phase.TheVariants as phase

abbrev pub Nexts : Building → Building → Result Phase NoMemory → Type 0
Nexts old new (Ok (phase.Made c)) = IsNumber (work old.items) old.done (object_of c) × (c.limit ≡ old.limits.content) × (new ≡ record old { done = old.done + 1 })
Nexts old new (Ok phase.SyncObjects) = (old.done ≡ length (work old.items)) × (new ≡ old)
Nexts old new (Ok ph) = ⊥
Nexts old new (Err e) = new ≡ old

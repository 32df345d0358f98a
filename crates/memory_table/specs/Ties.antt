-- A table that shows a disk.
use Rattle.std.specs.Prelude.{◌≡◌, ℕ, Option, Some, None}
use Rattle.std.specs.BTreeMap.{get}
use Rattle.std.specs.Ordering.{nat_cmp}
use Rattle.fs_trait.specs.declared.types.Value.{Value}
use Rattle.fs_trait.specs.declared.types.Value.TheVariants.{Absent}
use Rattle.fs_trait.specs.View.{Disk}
use Rattle.memory_table.specs.declared.table.File.{File}
use Rattle.memory_table.specs.declared.table.Table.{Table}
use Rattle.memory_table.specs.Tree.{Holds}

-- what stands there, if anything does
abbrev pub present : Value → Option Value
present Absent = None
present x = Some x

-- its names have the values that they have on the disk, and the files that it has the attributes and bytes
pub record Ties (t : Table) (d : Disk) : Type 0 where
  pub names : Holds t.names (λ p. present (d.at p))
  pub files : (n : ℕ) (f : File) → get nat_cmp t.files n ≡ Some f → (f.meta ≡ d.meta n) × (f.bytes ≡ d.bytes n)

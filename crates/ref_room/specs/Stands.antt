-- What stands at a path, as far as it makes a difference to refs.
use Rattle.fs_trait.specs.declared.types.Value.{Value}
use Rattle.fs_trait.specs.declared.types.Value.TheVariants as value
use Rattle.ref_room.specs.declared.stands.Stands.{Stands}
use Rattle.ref_room.specs.declared.stands.Stands.TheVariants.{Nothing, Folder, Leaf}

abbrev pub stands : Value → Stands
stands value.Absent = Nothing
stands (value.Folder m) = Folder
stands (value.Link m t) = Leaf
stands (value.File n) = Leaf

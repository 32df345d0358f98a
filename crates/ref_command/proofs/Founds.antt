-- What `stat` tells of a regular file.
use Rattle.std.proofs.Common.{◌≡◌, ap, Option, is_some}
use Rattle.ost_types.specs.Path.{Path}
use Rattle.fs_trait.specs.declared.types.Node.{Node}
use Rattle.fs_trait.specs.declared.types.Value.{Value}
use Rattle.fs_trait.specs.declared.types.Value.TheVariants.{Absent, Folder, Link, File}
use Rattle.fs_trait.specs.View.{Disk}
use Rattle.fs_trait.specs.Image.{bytes_of, reads}
use Rattle.fs_trait.specs.Effect.{IsNode}
use Rattle.ref_command.specs.Found.{is_regular}

by_value : (d : Disk) (z : Value) (x : Option Node) → IsNode d z x → is_regular x ≡ is_some (bytes_of d z)
by_value d Absent x is = ap is_regular is
by_value d (Folder m) x is = ap is_regular is
by_value d (Link m t) x is = ap is_regular is
by_value d (File n) x is = ap is_regular is

pub regular : (d : Disk) (p : Path) (x : Option Node) → IsNode d (d.at p) x → is_regular x ≡ is_some (reads d p)
unfolding reads
regular d p x is = by_value d (d.at p) x is

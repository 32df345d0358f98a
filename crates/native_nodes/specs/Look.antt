-- What a look at the machine shows, by the mode that the machine tells (POSIX, `sys/stat.h`).
use Rattle.std.specs.Prelude.{◌≡◌, ℕ, IsFalse, Result, Ok, Err}
use Rattle.ost_types.specs.Mode.{IsFolderMode, IsFileMode, IsLinkMode}
use Rattle.host_files.specs.Front.{IsLeafMode}
use Rattle.host_files.specs.declared.refusal.Fault.{Fault}
use Rattle.native_nodes.specs.declared.look.Leaf.{Leaf}
use Rattle.native_nodes.specs.declared.look.Look.{Look}
use Rattle.native_nodes.specs.declared.look.Look.TheVariants as look

-- neither a folder, nor a regular file, nor a link
pub record IsOther (mode : ℕ) : Type 0 where
  pub folder : IsFolderMode mode → ⊥
  pub file : IsFileMode mode → ⊥
  pub link : IsLinkMode mode → ⊥

-- each node is shown as what it is, with its own mode
abbrev pub Shows : ℕ → Result Look Fault → Type 0
Shows mode (Ok look.Absent) = ⊥
Shows mode (Ok (look.Folder a)) = IsFolderMode mode × (a.mode ≡ mode)
Shows mode (Ok (look.Leaf leaf)) = IsLeafMode leaf.is_link mode × (leaf.attributes.mode ≡ mode)
Shows mode (Err fault) = IsOther mode

-- regular files of one device and one inode
pub record IsOneFile (one other : Leaf) : Type 0 where
  pub file : IsFalse one.is_link
  pub other_file : IsFalse other.is_link
  pub device : one.device ≡ other.device
  pub inode : one.inode ≡ other.inode

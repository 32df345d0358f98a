-- Attributes of nodes, and what the machine keeps of them.
use Rattle.std.specs.Prelude.{◌≡◌, ◌<◌, ◌≤◌, ◌⊎◌, ℕ, []}
use Rattle.ost_types.specs.declared.meta.Meta.{Meta}
use Rattle.native_nodes.specs.declared.attributes.Attributes.{Attributes}

-- The machine can be given them: none is extended, and the owner and the group aren't the number by which POSIX's `chown` leaves one as it is.
pub record IsGivable (m : Meta) : Type 0 where
  pub xattrs : m.xattrs ≡ []
  pub owner : m.uid < 4294967295
  pub group : m.gid < 4294967295

-- what it is given for them
pub record Gives (m : Meta) (a : Attributes) : Type 0 where
  pub givable : IsGivable m
  pub uid : a.uid ≡ m.uid
  pub gid : a.gid ≡ m.gid
  pub mode : a.mode ≡ m.mode

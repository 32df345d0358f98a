-- What a step that lists objects comes to.
use Rattle.std.specs.Prelude.{◌≡◌, ◌-◌, ◌<◌, ℕ, Option, Some, None}
use Rattle.fs_trait.specs.View.{View}
use Rattle.store_check.specs.Listing.{AreBelow}
use Rattle.prune_mark.specs.Marking.{Knows}
use Rattle.prune_sweep.specs.Listing.{Listed}
use Rattle.prune_command.specs.declared.known.Known.{Known}
use Rattle.prune_command.specs.declared.phase.Phase.{Phase}
use Rattle.prune_command.specs.declared.phase.Phase.TheVariants as phase
use Rattle.prune_command.specs.Learned.{from_of}

-- what is listed goes on to be right, and the marking begins with all objects
abbrev pub ListTells : View → Known → Listed → Option Phase → Type 0
ListTells v k new None = AreBelow v.now new.first new.names
ListTells v k new (Some (phase.Marking m)) = Knows v.now (from_of k) m.marking
ListTells v k new (Some p) = ⊥

-- one folder more is listed, or the marking begins
abbrev pub IsListStepped : ℕ → Listed → Listed → Option Phase → Type 0
IsListStepped depth old new None = 256 - new.first < 256 - old.first
IsListStepped depth old new (Some (phase.Marking m)) = m.marking.depth ≡ depth
IsListStepped depth old new (Some p) = ⊥

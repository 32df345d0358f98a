-- What `ls` knows of a store, and what its steps tell and do.
use Rattle.std.specs.Prelude.{◌≡◌, ◌<◌, Option, Some, None}
use Rattle.ost_types.specs.declared.node.NodeName.{NodeName}
use Rattle.ost_types.specs.Path.{Path}
use Rattle.ost_types.specs.PathMap.{Nodes, node_at}
use Rattle.fs_trait.specs.View.{Disk}
use Rattle.repo_model.specs.Objects.{Store, Stores}
use Rattle.tree_read.specs.Reading.{IsSoFar, left_of}
use Rattle.read_command.specs.declared.answer.ReadAnswer.{ReadAnswer}
use Rattle.read_command.specs.declared.answer.ReadAnswer.TheVariants as answer
use Rattle.read_command.specs.declared.ls.Ls.{Ls}
use Rattle.read_command.specs.declared.look.Ask.TheVariants as ask
use Rattle.read_command.specs.Answers.{SaysLs}
use Rattle.read_command.specs.Fits.{Fits}
use Rattle.read_command.specs.Listing.{rows_below}

abbrev pub LsKnows : Store → Ls → Type 0
LsKnows S s = IsSoFar S s.task

abbrev pub LsTells : Disk → Ls → Ls → Option ReadAnswer → Type 0
LsTells d old new None = LsKnows (Stores d) new
LsTells d old new (Some a) = SaysLs d old.task.limits old.task.commit old.path a

abbrev pub IsLsStepped : Ls → Ls → Option ReadAnswer → Type 0
IsLsStepped old new None = (new.path ≡ old.path) × (new.task.commit ≡ old.task.commit) × (new.task.limits ≡ old.task.limits) × (left_of new.task < left_of old.task)
IsLsStepped old new (Some a) = Fits (ask.Ls old.path) old.task.commit a

-- what is listed of a map
abbrev pub IsListed : Path → Nodes → ReadAnswer → Type 0
IsListed path found (answer.Ls rows) = (n : NodeName) × (node_at found path ≡ Some n) × (rows.items ≡ rows_below path found)
IsListed path found (answer.NoPath p) = (p ≡ path) × (node_at found path ≡ None)
IsListed path found a = ⊥

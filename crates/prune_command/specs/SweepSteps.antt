-- What a step that removes something comes to.
use Rattle.std.specs.Prelude.{◌≡◌, ◌⊎◌, ℕ, List, length, Option, Some, None}
use Rattle.ost_types.specs.declared.object.ObjName.{ObjName}
use Rattle.ost_types.specs.Path.{Path}
use Rattle.fs_trait.specs.declared.types.Value.TheVariants.{Absent}
use Rattle.fs_trait.specs.Seen.{IsDirectory, NotDirectory, Seen, Vacant, shows}
use Rattle.fs_trait.specs.View.{View, all_synced, named}
use Rattle.repo_layout.specs.declared.folder.Folder.TheVariants.{State}
use Rattle.repo_layout.specs.Paths.{folder_path, mark_path}
use Rattle.repo_model.specs.Objects.{path_of}
use Rattle.store_check.specs.Listing.{IsThere}
use Rattle.rely_guarantee.specs.declared.event.Event.{Event}
use Rattle.rely_guarantee.specs.Laws.{Kind, Quiet, Remove, MakeDurable, Publish, Published}
use Rattle.prune_sweep.specs.declared.part.Part.{Part}
use Rattle.prune_sweep.specs.declared.part.Part.TheVariants as part
use Rattle.prune_sweep.specs.Steps.{IsNext, IsNextMark}
use Rattle.prune_sweep.specs.Sweeping.{GoesOn, IsSoFar, Sweeping}
use Rattle.prune_command.specs.declared.answer.PruneAnswer.TheVariants as answer
use Rattle.prune_command.specs.declared.phase.Phase.{Phase}
use Rattle.prune_command.specs.declared.phase.Phase.TheVariants as phase

-- The first step shows that these objects go. Each one goes in a step of its own, and the last sync makes it last.
abbrev pub sweep_kind : Part → Event → ℕ → Kind
sweep_kind part.Begin e owed = Publish e
sweep_kind part.Commit e owed = Remove e owed
sweep_kind part.Barrier e owed = Published e owed
sweep_kind part.Object e owed = Remove e owed
sweep_kind part.Mark e owed = Published e owed
sweep_kind part.End e owed = MakeDurable e
sweep_kind part.Over e owed = Quiet

-- what is unlinked stands there, and marks have their folder
abbrev pub sweep_needs : Part → Sweeping → View → Type 0
sweep_needs part.Commit r v = (o : ObjName) → IsNext r o → IsThere v.now o × NotDirectory (shows v.now (path_of o))
sweep_needs part.Object r v = (o : ObjName) → IsNext r o → IsThere v.now o × NotDirectory (shows v.now (path_of o))
sweep_needs part.Mark r v = IsDirectory (shows v.now (folder_path State)) × ((p : Path) → IsNextMark r p → (commit : List ℕ) × (p ≡ mark_path commit))
sweep_needs part.Over r v = ⊥
sweep_needs x r v = Unit {0}

-- the next object's path, or the next mark's, is vacant from then on
abbrev pub Unlinks : Sweeping → Path → Seen → Type 0
Unlinks r p s = (o : ObjName) × IsNext r o × (p ≡ path_of o) × (s ≡ Vacant)

abbrev pub sweep_writes : Part → Sweeping → Path → Seen → Type 0
sweep_writes part.Commit r p s = Unlinks r p s
sweep_writes part.Object r p s = Unlinks r p s
sweep_writes part.Mark r p s = IsNextMark r p × (s ≡ Vacant)
sweep_writes x r p s = ⊥

-- what it did
abbrev pub TookObject : Sweeping → View → View → Type 0
TookObject r v w = (o : ObjName) × IsNext r o × (w ≡ named (path_of o) Absent v)

abbrev pub Did : Part → Sweeping → View → View → Type 0
Did part.Begin r v w = w ≡ v
Did part.Commit r v w = TookObject r v w
Did part.Barrier r v w = w ≡ all_synced v
Did part.Object r v w = TookObject r v w
Did part.Mark r v w = (p : Path) × IsNextMark r p × ((w ≡ named p Absent v) ⊎ (w ≡ v))
Did part.End r v w = w ≡ all_synced v
Did part.Over r v w = w ≡ v

-- it goes on, or tells how many objects stay and how many were removed
abbrev pub IsSweepStepped : Sweeping → Sweeping → Option Phase → Type 0
IsSweepStepped old new None = GoesOn old new × IsSoFar new
IsSweepStepped old new (Some (phase.Over (answer.Pruned kept removed))) = ((old.part ≡ part.End) ⊎ (old.part ≡ part.Over)) × (kept ≡ old.kept) × (removed ≡ length old.removed)
IsSweepStepped old new (Some p) = ⊥

-- What each step of a sweep does to a view that is told.
use Rattle.std.specs.Prelude.{◌≡◌, ◌⊎◌, ◌<◌, length, slice_index_or, Option, Some, None, Result, Ok, Err}
use Rattle.ost_types.specs.declared.object.ObjName.{ObjName}
use Rattle.ost_types.specs.Path.{Path}
use Rattle.fs_trait.specs.declared.types.FsErr.{FsErr}
use Rattle.fs_trait.specs.declared.types.FsErr.TheVariants.{Missing}
use Rattle.fs_trait.specs.declared.types.Value.TheVariants.{Absent}
use Rattle.fs_trait.specs.Effect.{Changed, Fails, no_leaf}
use Rattle.fs_trait.specs.View.{View, named, all_synced}
use Rattle.repo_model.specs.Objects.{path_of}
use Rattle.prune_sweep.specs.declared.part.Part.{Part}
use Rattle.prune_sweep.specs.declared.part.Part.TheVariants.{Begin, Commit, Barrier, Object, Mark, End, Over}
use Rattle.prune_sweep.specs.Sweeping.{Sweeping}

-- the object that goes next, and the mark
abbrev pub IsNext : Sweeping → ObjName → Type 0
IsNext r o = (r.gone < length r.removed) × (slice_index_or r.removed r.gone o ≡ o)

abbrev pub IsNextMark : Sweeping → Path → Type 0
IsNextMark r p = (r.unmarked < length r.marks) × (slice_index_or r.marks r.unmarked p ≡ p)

-- the object is unlinked
abbrev pub TakesObject : {T : Type 0} → Sweeping → View → Result T FsErr → Option View → Type 0
TakesObject r v result new = (o : ObjName) × IsNext r o × Changed (no_leaf (path_of o) v.now) v (named (path_of o) Absent v) result new

-- So is a mark, or it was away.
abbrev pub TakesMark : {T : Type 0} → Path → View → Result T FsErr → Option View → Type 0
TakesMark p v (Ok x) new = Changed (no_leaf p v.now) v (named p Absent v) (Ok x) new ⊎ ((no_leaf p v.now ≡ Some Missing) × (new ≡ Some v))
TakesMark p v (Err e) new = Fails (no_leaf p v.now) v (named p Absent v) e new

-- by the part that the step is of
abbrev pub DoesIn : {T : Type 0} → Part → Sweeping → View → Result T FsErr → Option View → Type 0
DoesIn Begin r v result new = new ≡ Some v
DoesIn Commit r v result new = TakesObject r v result new
DoesIn Barrier r v result new = Changed None v (all_synced v) result new
DoesIn Object r v result new = TakesObject r v result new
DoesIn Mark r v result new = (p : Path) × IsNextMark r p × TakesMark p v result new
DoesIn End r v result new = Changed None v (all_synced v) result new
DoesIn Over r v result new = new ≡ Some v

abbrev pub Does : {T : Type 0} → Sweeping → View → Result T FsErr → Option View → Type 0
Does r v result new = DoesIn r.part r v result new

-- A step of putting an object into a store that may be full.
use Rattle.std.specs.Prelude.{◌≡◌, ◌⊎◌, Bool, true, false, Option, Some, None, Result, Ok, Err}
use Rattle.ost_types.specs.Path.{Path}
use Rattle.fs_trait.specs.declared.types.FsErr.{FsErr}
use Rattle.fs_trait.specs.declared.types.Value.TheVariants.{Absent}
use Rattle.fs_trait.specs.declared.task.StepResult.TheVariants.{More, Done}
use Rattle.fs_trait.specs.View.{View}
use Rattle.fs_trait.specs.Effect.{OfNone}
use Rattle.fs_trait.specs.Seen.{Seen}
use Rattle.repo_model.specs.Objects.{path_of}
use Rattle.obj_store.specs.declared.phase.Put.{Put}
use Rattle.obj_store.specs.declared.phase.Put.TheVariants.{Stored, Present}
use Rattle.obj_store.specs.declared.phase.Phase as putting
use Rattle.obj_store.specs.declared.phase.Phase.TheVariants.{Link}
use Rattle.obj_store.specs.Putting.{Putting, IsStepped, put_in}
use Rattle.obj_store.specs.Steps.{Came, OfPhase, WritesOf}
use Rattle.commit_build.specs.declared.advance.Progress.{Progress}
use Rattle.commit_build.specs.declared.advance.Progress.TheVariants.{Full, Further, Over}

-- what came of the object in this step
abbrev pub newly : Option Put → Option Put → Option Put
newly (Some put) now = None
newly None now = now

-- what it may write: no object where there is no room
abbrev pub WritesIn : Bool → Putting → View → Path → Seen → Type 0
WritesIn full t v p s = WritesOf t v p s × (t.phase ≡ Link → full ≡ false)

-- it is the step that puts the object, and there is no room
abbrev pub MayBeFull : Bool → putting.Phase → Bool → Type 0
MayBeFull full ph true = (full ≡ true) × (ph ≡ Link)
MayBeFull full ph false = Unit {0}

-- Which step it was, and what changed in the task.
abbrev pub IsAdvanced : Bool → Putting → Result Progress FsErr → Putting → Type 0
IsAdvanced full old (Ok Full) new = (new ≡ old) × (old.phase ≡ Link) × (full ≡ true)
IsAdvanced full old (Ok (Further met)) new = IsStepped old (Ok More) new × (met ≡ newly (put_in old.phase) (put_in new.phase))
IsAdvanced full old (Ok (Over met)) new = (put : Put) × IsStepped old (Ok (Done put)) new × (met ≡ newly (put_in old.phase) (Some put))
IsAdvanced full old (Err e) new = new ≡ old

-- An object is put only where there is room.
abbrev pub HasRoom : Bool → Put → Type 0
HasRoom full Stored = full ≡ false
HasRoom full Present = Unit {0}

abbrev pub CameOf : Bool → Option Put → Putting → View → View → Type 0
CameOf full None t v w = Unit {0}
CameOf full (Some put) t v w = Came put t v w × HasRoom full put

-- What the step tells of the view before it and the one after it.
abbrev pub Tells : Bool → Putting → View → View → Progress → Type 0
Tells full t v w Full = (v.now.at (path_of t.name) ≡ Absent) × (w ≡ v)
Tells full t v w (Further met) = CameOf full met t v w
Tells full t v w (Over met) = CameOf full met t v w

-- which refusals it has at all, told or not
abbrev pub MayRefuse : putting.Phase → FsErr → Type 0
MayRefuse ph e = OfPhase ph e ⊎ OfNone e

abbrev pub OnFurther : Result Progress FsErr → Type 0 → Type 0
OnFurther (Ok (Further met)) P = P
OnFurther r P = Unit {0}

-- The folders on the way to a ref's file: what each step needs, writes and answers.
use Rattle.std.specs.Prelude.{◌≡◌, ◌⊎◌, ◌<◌, ◌+◌, ◌-◌, ◌*◌, nat_lt, ℕ, Bool, true, false, List, [], length, Option, Some, None, Result, Ok, Err, if◌then◌else◌}
use Rattle.ost_types.specs.declared.meta.Meta.{Meta}
use Rattle.ost_types.specs.Path.{Path}
use Rattle.fs_trait.specs.declared.types.FsErr.{FsErr}
use Rattle.fs_trait.specs.declared.types.FsErr.TheVariants.{Failed, NoMemory, Exists}
use Rattle.fs_trait.specs.declared.task.StepResult.{StepResult}
use Rattle.fs_trait.specs.declared.task.StepResult.TheVariants.{More, Done}
use Rattle.fs_trait.specs.View.{View}
use Rattle.fs_trait.specs.Seen.{Seen, Vacant, Directory, shows, IsDirectory}
use Rattle.fs_trait.specs.Effect.{Next}
use Rattle.fs_trait.specs.Change.{Meets, LeadsTo}
use Rattle.repo_layout.specs.RefName.{IsRefName, parts_of}
use Rattle.repo_layout.specs.Paths.{ref_path}
use Rattle.repo_layout.specs.Refs.{is_leaf}
use Rattle.ref_room.specs.declared.way.Leg.{Leg}
use Rattle.ref_room.specs.declared.way.Leg.TheVariants.{Make, Sync, Over}
use Rattle.ref_room.specs.Clash.{way_to, IsLeastClash, IsFreeAbove, IsNoRef}

-- The ref's name, how many of its parts are folders that outlast a crash, and what is to be done for the next part.
pub record Walked : Type 0 where
  pub name : List ℕ
  pub reached : ℕ
  pub leg : Leg

-- the last part is the file's
abbrev pub leg_at : ℕ → List ℕ → Leg
leg_at k name = if nat_lt (k + 1) (length (parts_of name)) then Make else Over

-- which leg stands where so many folders are reached
abbrev pub leg_of : Leg → ℕ → List ℕ → Type 0
leg_of Over k name = k + 1 ≡ length (parts_of name)
leg_of leg k name = k + 1 < length (parts_of name)

-- a way at its beginning
abbrev pub begun : List ℕ → Walked
begun name = record { name = name; reached = 0; leg = leg_at 0 name }

-- the folder that was reached, and the next one
abbrev pub folder : Walked → Path
folder t = way_to t.reached t.name

abbrev pub next_folder : Walked → Path
next_folder t = way_to (t.reached + 1) t.name

abbrev pub next_in : Leg → Walked → Walked
next_in Make t = record t { leg = Sync }
next_in Sync t = record t { reached = t.reached + 1; leg = leg_at (t.reached + 1) t.name }
next_in Over t = t

-- the way after its next step
abbrev pub next : Walked → Walked
next t = next_in t.leg t

abbrev pub is_over : Leg → Bool
is_over Over = true
is_over leg = false

-- what a step changed in the task
abbrev pub IsStepped : Walked → Result (StepResult (Option (List ℕ))) FsErr → Walked → Type 0
IsStepped old (Ok More) new = (new ≡ next old) × (is_over new.leg ≡ false)
IsStepped old (Ok (Done None)) new = (new ≡ next old) × (is_over new.leg ≡ true)
IsStepped old (Ok (Done (Some other))) new = (new ≡ old) × (old.leg ≡ Make) × IsRefName other × (ref_path other ≡ next_folder old)
IsStepped old (Err e) new = new ≡ old

-- no more steps than this are left
abbrev pub left_in : Leg → Walked → ℕ
left_in Make t = 2 * (length (parts_of t.name) - 1 - t.reached)
left_in Sync t = 2 * (length (parts_of t.name) - 1 - t.reached) - 1
left_in Over t = 0

abbrev pub left : Walked → ℕ
left t = left_in t.leg t

-- how a step moves the clock
abbrev pub Takes : Leg → ℕ → ℕ → Type 0
Takes Make before now = Next before now ⊎ (now ≡ before)
Takes Sync before now = Next before now
Takes Over before now = now ≡ before

-- the attributes of a folder of refs: owner 0, group 0, mode 0o040755
abbrev pub folder_meta : Meta
folder_meta = record { uid = 0; gid = 0; mode = 16877; xattrs = [] }

-- what the next step may write
abbrev pub writes_in : Leg → Walked → View → Path → Seen → Type 0
writes_in Make t v p s = (p ≡ next_folder t) × (s ≡ Directory folder_meta) × (shows v.now (next_folder t) ≡ Vacant)
writes_in Sync t v p s = ⊥
writes_in Over t v p s = ⊥

abbrev pub WritesOf : Walked → View → Path → Seen → Type 0
WritesOf t v = writes_in t.leg t v

-- what it needs: folders lead to the one that was reached, and before its sync the next one is there
abbrev pub FirmOf : Walked → Path → Seen → Type 0
FirmOf t = LeadsTo (folder t)

abbrev pub here_in : Leg → Walked → Path → Seen → Type 0
here_in Sync t p s = p ≡ next_folder t → IsDirectory s
here_in leg t p s = Unit {0}

abbrev pub HereOf : Walked → Path → Seen → Type 0
HereOf t = here_in t.leg t

-- What the next step needs.
pub record Needs (t : Walked) (v : View) : Type 0 where
  pub named : IsRefName t.name
  pub place : leg_of t.leg t.reached t.name
  pub meets : Meets (FirmOf t) (HereOf t) v

-- What a step tells of what reads see.
abbrev pub Tells : Walked → View → StepResult (Option (List ℕ)) → Type 0
Tells t v More = Unit {0}
Tells t v (Done (Some other)) = IsLeastClash v.now t.name other
Tells t v (Done None) = IsFreeAbove v.now t.name

-- Why a step isn't done: the call failed or wanted for memory, or a leaf that is no ref stands where the next folder has to be.
abbrev pub Refuses : Walked → View → FsErr → Type 0
Refuses t v Failed = Unit {0}
Refuses t v NoMemory = Unit {0}
Refuses t v Exists = (t.leg ≡ Make) × (is_leaf (v.now.at (next_folder t)) ≡ true) × IsNoRef (next_folder t)
Refuses t v e = ⊥

-- why no ref's name is told for a leaf at a path
abbrev pub NoClash : Path → FsErr → Type 0
NoClash p NoMemory = Unit {0}
NoClash p Exists = IsNoRef p
NoClash p e = ⊥

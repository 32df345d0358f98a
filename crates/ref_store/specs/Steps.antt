-- What each step of a change needs, writes, tells and is refused for.
use Rattle.std.specs.Prelude.{◌≡◌, ◌≢◌, ◌<◌, ℕ, Bool, true, false, List, Option, Some, None, Result, Ok, Err}
use Rattle.ost_types.specs.Path.{Path, is_in}
use Rattle.fs_trait.specs.declared.types.FsErr.{FsErr}
use Rattle.fs_trait.specs.declared.types.FsErr.TheVariants.{Failed, NoMemory, Exists}
use Rattle.fs_trait.specs.declared.task.StepResult.{StepResult}
use Rattle.fs_trait.specs.declared.task.StepResult.TheVariants.{More, Done}
use Rattle.fs_trait.specs.View.{Disk, View}
use Rattle.fs_trait.specs.Seen.{Seen, Vacant, shows, MayBe, IsDirectory, NotDirectory, bytes_in}
use Rattle.fs_trait.specs.Effect.{OfPlacing, OfEmptying, OfFinding}
use Rattle.fs_trait.specs.Change.{Meets, LeadsTo}
use Rattle.repo_layout.specs.RefName.{IsRefName}
use Rattle.repo_layout.specs.RefFile.{IsSum, ref_text}
use Rattle.repo_layout.specs.Paths.{heads, ref_path, stage_path}
use Rattle.repo_layout.specs.Refs.{Lacks, Names, ShowsNoCommit}
use Rattle.ref_room.specs.Clash.{ref_folder, IsLeastClash, IsFreeAbove}
use Rattle.ref_room.specs.Clearing as clearing
use Rattle.ref_room.specs.Clearing.{IsLeaf}
use Rattle.ref_room.specs.Way as way
use Rattle.staged_file.specs.declared.phase.Phase as staged
use Rattle.staged_file.specs.declared.phase.Phase.TheVariants as file
use Rattle.staged_file.specs.Steps as staging
use Rattle.staged_file.specs.Steps.{IsFileWith}
use Rattle.ref_store.specs.declared.phase.Phase.{Phase}
use Rattle.ref_store.specs.declared.phase.Phase.TheVariants.{Look, Clear, Walk, Put, Unlink, SyncFolder, Ended}
use Rattle.ref_store.specs.declared.refusal.RefRefusal.{RefRefusal}
use Rattle.ref_store.specs.declared.refusal.RefRefusal.TheVariants.{RefClash, RefMoved, NoRef}
use Rattle.ref_store.specs.Change.{Change, IsMade, file_meta}

-- the ref's value on a disk: the commit that its file names, or none where no leaf stands at its path
abbrev pub HasValue : Disk → List ℕ → Option (List ℕ) → Type 0
HasValue d name None = Lacks d name
HasValue d name (Some commit) = Names d name commit

-- what the ref's path shows once the change is done: nothing, or the ref's file with its attributes and bytes
abbrev pub ShowsNew : Option (List ℕ) → Seen → Type 0
ShowsNew None s = s ≡ Vacant
ShowsNew (Some commit) s = IsSum commit × IsFileWith file_meta (ref_text commit) s

-- what the ref's path shows while it has a value
abbrev pub ShowsHad : Option (List ℕ) → Seen → Type 0
ShowsHad None s = ¬ (IsLeaf s)
ShowsHad (Some commit) s = IsSum commit × (bytes_in s ≡ Some (ref_text commit))

-- the ref was looked at, and the change isn't shown yet
abbrev pub awaits_file : staged.Phase → Bool
awaits_file file.SyncFolder = false
awaits_file file.Ended = false
awaits_file ph = true

abbrev pub awaits : Phase → Bool
awaits (Clear c) = true
awaits (Walk w) = true
awaits (Put f) = awaits_file f.phase
awaits Unlink = true
awaits ph = false

-- From the look to the step that shows the change the ref has the value that it was to have.
abbrev pub HasSeen : Change → View → Type 0
HasSeen t v = awaits t.phase ≡ true → ShowsHad t.seen (shows v.now (ref_path t.name))

-- what the next step may write
abbrev pub writes_in : Phase → Change → View → Path → Seen → Type 0
writes_in Look t v p s = ⊥
writes_in (Clear c) t v p s = clearing.WritesOf c v p s
writes_in (Walk w) t v p s = way.WritesOf w v p s
writes_in (Put f) t v p s = staging.WritesOf f v p s
writes_in Unlink t v p s = (p ≡ ref_path t.name) × (s ≡ Vacant)
writes_in SyncFolder t v p s = ⊥
writes_in Ended t v p s = ⊥

abbrev pub WritesOf : Change → View → Path → Seen → Type 0
WritesOf t v = writes_in t.phase t v

-- before the file is staged: no folder at the staging path, and its own folder is there
abbrev pub HereOfStage : ℕ → Path → Seen → Type 0
HereOfStage actor p s = (p ≡ stage_path actor → NotDirectory s) × (is_in p (stage_path actor) ≡ true → IsDirectory s)

-- A ref that is set needs that folders lead to the folder of the refs, after each crash; one that is removed needs nothing.
abbrev pub begins : Option (List ℕ) → ℕ → View → Type 0
begins None actor v = Unit {0}
begins (Some commit) actor v = Meets (LeadsTo heads) (HereOfStage actor) v

-- that folders lead to the ref that is there
abbrev pub leads : Option (List ℕ) → List ℕ → View → Type 0
leads None name v = Unit {0}
leads (Some commit) name v = (p : Path) (s : Seen) → MayBe v p s → LeadsTo (ref_folder name) p s

-- What the next step needs: what its part does, and before the file is staged what that needs.
abbrev pub needs_in : Phase → Change → View → Type 0
needs_in Look t v = begins t.value t.actor v
needs_in (Clear c) t v = begins t.value t.actor v × clearing.Needs c v
needs_in (Walk w) t v = begins t.value t.actor v × way.Needs w v × NotDirectory (shows v.now (ref_path t.name))
needs_in (Put f) t v = staging.Needs f v × NotDirectory (shows v.now (ref_path t.name))
needs_in Unlink t v = IsLeaf (shows v.now (ref_path t.name))
needs_in SyncFolder t v = (shows v.now (ref_path t.name) ≡ Vacant) × IsDirectory (shows v.now (ref_folder t.name))
needs_in Ended t v = ((s : Seen) → MayBe v (ref_path t.name) s → ShowsNew t.value s) × leads t.value t.name v

pub record Needs (t : Change) (v : View) : Type 0 where
  pub named : IsRefName t.name
  pub actor : t.actor < 16
  pub made : IsMade t
  pub meets : needs_in t.phase t v

-- What a step that is done tells: the look, that the ref has the value that it was to have; a way that is over, that no ref
-- stands above; and a refusal, why.
abbrev pub goes_on : Phase → Phase → Change → View → Type 0
goes_on Look next t v = HasValue v.now t.name t.seen
goes_on (Clear c) (Walk w) t v = shows v.now (ref_path t.name) ≡ Vacant
goes_on (Walk w) (Put f) t v = IsFreeAbove v.now t.name
goes_on last next t v = Unit {0}

-- room is made, or looked for
abbrev pub MakesRoom : Phase → Type 0
MakesRoom (Clear c) = Unit {0}
MakesRoom (Walk w) = Unit {0}
MakesRoom ph = ⊥

abbrev pub Tells : Change → Change → View → StepResult (Result (Unit {0}) RefRefusal) → Type 0
Tells old new v More = goes_on old.phase new.phase old v
Tells old new v (Done (Ok x)) = Unit {0}
Tells old new v (Done (Err (RefMoved seen now))) = (old.phase ≡ Look) × (seen ≡ old.seen) × HasValue v.now old.name now × (now ≢ seen)
Tells old new v (Done (Err (RefClash other))) = MakesRoom old.phase × IsLeastClash v.now old.name other
Tells old new v (Done (Err NoRef)) = ⊥

-- Why a step isn't done: the call failed or wanted for memory, or what stands there is no ref and no folder of refs.
abbrev pub refuses_in : Phase → Change → View → FsErr → Type 0
refuses_in ph t v Failed = Unit {0}
refuses_in ph t v NoMemory = Unit {0}
refuses_in Look t v Exists = ShowsNoCommit v.now (ref_path t.name)
refuses_in (Clear c) t v e = clearing.Refuses c v e
refuses_in (Walk w) t v e = way.Refuses w v e
refuses_in ph t v e = ⊥

abbrev pub Refuses : Change → View → FsErr → Type 0
Refuses t = refuses_in t.phase t

-- which refusals a step has at all, told or not
abbrev pub OfPhase : Phase → FsErr → Type 0
OfPhase Look = OfPlacing
OfPhase (Clear c) = OfEmptying
OfPhase (Walk w) = OfPlacing
OfPhase (Put f) = OfPlacing
OfPhase Unlink = OfFinding
OfPhase SyncFolder = OfFinding
OfPhase Ended = λ e. ⊥

-- the file is put or taken away, or that is to outlast a crash
abbrev pub IsPlacing : Phase → Type 0
IsPlacing (Put f) = Unit {0}
IsPlacing Unlink = Unit {0}
IsPlacing SyncFolder = Unit {0}
IsPlacing ph = ⊥

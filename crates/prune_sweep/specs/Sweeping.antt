-- A sweep as plain data: what goes, and how far it is.
use Rattle.std.specs.Prelude.{◌≡◌, ◌≢◌, ◌⊎◌, ◌<◌, ◌≤◌, ◌+◌, ◌-◌, ◌^◌, ℕ, List, length, slice_index_or, Result, Ok, Err, IsErrOf, OnOk}
use Rattle.ost_types.specs.declared.object.Kind.TheVariants as kind
use Rattle.ost_types.specs.declared.object.ObjName.{ObjName}
use Rattle.ost_types.specs.Path.{Path}
use Rattle.fs_trait.specs.declared.task.StepResult.{StepResult}
use Rattle.fs_trait.specs.declared.task.StepResult.TheVariants as turn
use Rattle.fs_trait.specs.declared.types.FsErr.{FsErr}
use Rattle.fs_trait.specs.declared.types.FsErr.TheVariants.{NoMemory}
use Rattle.prune_sweep.specs.declared.part.Part.{Part}
use Rattle.prune_sweep.specs.declared.part.Part.TheVariants.{Begin, Commit, Barrier, Object, Mark, End, Over}

pub record Sweeping : Type 0 where
  -- the objects that go, in this order, and how many commits come first
  pub removed : List ObjName
  pub commits : ℕ
  -- where the marks stand that go
  pub marks : List Path
  -- how many objects stay
  pub kept : ℕ
  -- how many objects and marks are gone
  pub gone : ℕ
  pub unmarked : ℕ
  pub part : Part

-- how far it is in each part
abbrev pub IsIn : Part → Sweeping → Type 0
IsIn Begin r = (r.gone ≡ 0) × (r.unmarked ≡ 0)
IsIn Commit r = (r.gone < r.commits) × (r.unmarked ≡ 0)
IsIn Barrier r = (r.gone ≡ r.commits) × (r.unmarked ≡ 0)
IsIn Object r = (r.commits ≤ r.gone) × (r.gone < length r.removed) × (r.unmarked ≡ 0)
IsIn Mark r = (r.gone ≡ length r.removed) × (r.unmarked < length r.marks)
IsIn End r = (r.gone ≡ length r.removed) × (r.unmarked ≡ length r.marks)
IsIn Over r = (r.gone ≡ length r.removed) × (r.unmarked ≡ length r.marks)

pub record IsSoFar (r : Sweeping) : Type 0 where
  pub commits : r.commits ≤ length r.removed
  pub gone : r.gone ≤ length r.removed
  pub unmarked : r.unmarked ≤ length r.marks
  pub few : length r.removed + length r.marks < 2 ^ 63
  pub part : IsIn r.part r

-- nothing is done yet
abbrev pub IsFresh : Sweeping → Type 0
IsFresh r = (r.part ≡ Begin) × (r.gone ≡ 0) × (r.unmarked ≡ 0)

-- So many commits come first, and then something else, or nothing.
pub record AreFront (names : List ObjName) (count : ℕ) : Type 0 where
  pub within : count ≤ length names
  pub commits : (i : ℕ) (o : ObjName) → i < count → (slice_index_or names i o).kind ≡ kind.Commit
  pub others : (o : ObjName) → count < length names → (slice_index_or names count o).kind ≢ kind.Commit

-- how many objects and marks are still there
abbrev pub rest_of : Sweeping → ℕ
rest_of r = (length r.removed - r.gone) + (length r.marks - r.unmarked)

-- how many changing calls are left: one for each of these, and the syncs
abbrev pub calls_in : Part → ℕ → ℕ
calls_in Begin rest = rest + 2
calls_in Commit rest = rest + 2
calls_in Barrier rest = rest + 2
calls_in Object rest = rest + 1
calls_in Mark rest = rest + 1
calls_in End rest = rest + 1
calls_in Over rest = 0

abbrev pub calls_of : Sweeping → ℕ
calls_of r = calls_in r.part (rest_of r)

-- at most so many steps are left that do something
abbrev pub left_in : Part → ℕ → ℕ
left_in Begin rest = rest + 3
left_in part rest = calls_in part rest

abbrev pub left_of : Sweeping → ℕ
left_of r = left_in r.part (rest_of r)

-- the part once all objects are gone, and so many marks of so many
abbrev pub IsBehindObjects : ℕ → ℕ → Part → Type 0
IsBehindObjects unmarked marks part = ((part ≡ Mark) × (unmarked < marks)) ⊎ ((part ≡ End) × (marks ≤ unmarked))

-- the part of an object that isn't a commit, or behind these
abbrev pub IsBehindCommits : Sweeping → Type 0
IsBehindCommits r = ((r.part ≡ Object) × (r.gone < length r.removed)) ⊎ ((length r.removed ≤ r.gone) × IsBehindObjects r.unmarked (length r.marks) r.part)

-- what comes behind a part, once its step was made; behind the last one nothing
abbrev pub Follows : Part → Sweeping → Type 0
Follows Begin r = ((r.part ≡ Commit) × (0 < r.commits)) ⊎ ((r.part ≡ Barrier) × (r.commits ≡ 0))
Follows Commit r = ((r.part ≡ Commit) × (r.gone < r.commits)) ⊎ ((r.part ≡ Barrier) × (r.commits ≤ r.gone))
Follows Barrier r = IsBehindCommits r
Follows Object r = IsBehindCommits r
Follows Mark r = IsBehindObjects r.unmarked (length r.marks) r.part
Follows End r = ⊥
Follows Over r = ⊥

-- how many objects and marks are gone behind a step of a part
abbrev pub Advances : Part → Sweeping → Sweeping → Type 0
Advances Commit old new = (new.gone ≡ old.gone + 1) × (new.unmarked ≡ old.unmarked)
Advances Object old new = (new.gone ≡ old.gone + 1) × (new.unmarked ≡ old.unmarked)
Advances Mark old new = (new.gone ≡ old.gone) × (new.unmarked ≡ old.unmarked + 1)
Advances part old new = (new.gone ≡ old.gone) × (new.unmarked ≡ old.unmarked)

-- A step was made: it is nearer to the end.
pub record GoesOn (old new : Sweeping) : Type 0 where
  pub removed : new.removed ≡ old.removed
  pub commits : new.commits ≡ old.commits
  pub marks : new.marks ≡ old.marks
  pub kept : new.kept ≡ old.kept
  pub advances : Advances old.part old new
  pub follows : Follows old.part new
  pub nearer : left_of new < left_of old

abbrev pub IsStepped : Sweeping → Result (StepResult (Unit {0})) FsErr → Sweeping → Type 0
IsStepped old (Ok turn.More) new = GoesOn old new
IsStepped old (Ok (turn.Done x)) new = ((old.part ≡ End) ⊎ (old.part ≡ Over)) × (new ≡ record old { part = Over })
IsStepped old (Err e) new = new ≡ old

-- Its first step makes room for all calls that come; each other one takes the room of at most one call, and doesn't want for memory where
-- there is some.
pub record KeepsRoom {T : Type 0} (old new : Sweeping) (before now : ℕ) (result : Result T FsErr) : Type 0 where
  pub at_most_one : before ≤ now + 1
  pub enough : old.part ≢ Begin → 0 < before → IsErrOf result NoMemory → ⊥
  pub ready : old.part ≡ Begin → OnOk result (calls_of new ≤ now)

-- What each answer of an act says, exactly.
use Rattle.std.specs.Prelude.{◌≡◌, ◌≢◌, ◌⊎◌, ◌≤◌, ℕ, ◌+◌, List, ◌++◌, ◌∷◌, [], Contains, Bool, true, false, Option, Some, None}
use Rattle.ost_types.specs.declared.object.ObjName.{ObjName}
use Rattle.fs_trait.specs.Count.{Rose}
use Rattle.fs_trait.specs.declared.task.StepResult.{StepResult}
use Rattle.fs_trait.specs.declared.task.StepResult.TheVariants as turn
use Rattle.fs_trait.specs.declared.types.FsErr.{FsErr}
use Rattle.fs_trait.specs.declared.types.FsErr.TheVariants as err
use Rattle.fs_trait.specs.Effect.{OfNone}
use Rattle.fs_trait.specs.Image.{Told}
use Rattle.fs_trait.specs.View.{View}
use Rattle.rely_guarantee.specs.declared.books.Books as rust
use Rattle.rely_guarantee.specs.declared.books.Pending.{Pending}
use Rattle.rely_guarantee.specs.declared.books.Share.{Share}
use Rattle.rely_guarantee.specs.declared.event.Event.{Event}
use Rattle.rely_guarantee.specs.declared.kind.Halt.{Halt}
use Rattle.rely_guarantee.specs.declared.kind.Halt.TheVariants as halt
use Rattle.rely_guarantee.specs.declared.kind.Outcome.{Outcome}
use Rattle.rely_guarantee.specs.declared.kind.Outcome.TheVariants as came
use Rattle.rely_guarantee.specs.Books.{Books, Free, Frees}
use Rattle.rely_guarantee.specs.Removing.{next_of}
use Rattle.rely_guarantee.specs.Laws.{Kind, Quiet, Store, Take, Claim, Publish, Published, Remove, MakeDurable}

-- what others leave free for such a step
abbrev pub Opens : Kind → ℕ → Books → Type 0
Opens Quiet lane b = Unit {0}
Opens Store lane b = Free b.exclusive lane
Opens (Take wants) lane b = Frees wants lane b
Opens (Claim name) lane b = Unit {0}
Opens (Publish e) lane b = Free b.exclusive lane × Free b.turn lane
Opens (Published e owed) lane b = Unit {0}
Opens (Remove e owed) lane b = Unit {0}
Opens (MakeDurable e) lane b = Unit {0}

-- how the task went on
abbrev pub Steps : {T : Type 0} → (T → StepResult (Unit {0}) → T → Type 0) → T → Outcome → T → Type 0
Steps stepped old came.More new = stepped old turn.More new
Steps stepped old came.Done new = stepped old (turn.Done tt) new
Steps stepped old came.Blocked new = new ≡ old
Steps stepped old outcome new = Unit {0}

-- What the views say of a step that goes on, of the last one, and of one that ended the command: this one, which failed or wanted for
-- memory, left the view as it was. One after which no command goes on since it was refused for what stands at a path was refused so by
-- the view.
abbrev pub Tells : {T : Type 0} → (T → StepResult (Unit {0}) → T → View → View → Type 0) → (T → View → FsErr → Type 0) → T → Outcome → T → Option View → Option View → Type 0
Tells leaves refuses old came.More new before now = (v : View) → before ≡ Some v → Told now (λ w. leaves old turn.More new v w)
Tells leaves refuses old came.Done new before now = (v : View) → before ≡ Some v → Told now (λ w. leaves old (turn.Done tt) new v w)
Tells leaves refuses old (came.Refused e) new before now = (v : View) → before ≡ Some v → ((e ≡ err.NoMemory) ⊎ refuses old v e) × (OfNone e → now ≡ Some v)
Tells {T} leaves refuses old (came.Halted halt.Strayed) new before now = (v : View) → before ≡ Some v → (e : FsErr) × refuses old v e × (OfNone e → ⊥)
Tells leaves refuses old outcome new before now = Unit {0}

-- history and pending change are as they were
abbrev pub IsUnbooked : rust.Books → rust.Books → Type 0
IsUnbooked old new = (new.history.items ≡ old.history.items) × (new.pending ≡ old.pending)

-- the change is pending
abbrev pub IsNoted : ℕ → ℕ → Event → rust.Books → rust.Books → Type 0
IsNoted lane command e old new = (new.history.items ≡ old.history.items) × (new.pending ≡ Some (record { lane = lane; command = command; event = e }))

-- the pending change is the last entry, with this moment
abbrev pub IsEntered : ℕ → rust.Books → rust.Books → Type 0
IsEntered moment old new = (new.pending ≡ None)
    × ((p : Pending) → old.pending ≡ Some p → new.history.items ≡ old.history.items ++ record { lane = p.lane; command = p.command; event = p.event; moment = moment } ∷ [])

abbrev pub IsPublishedBy : ℕ → ℕ → Event → Outcome → rust.Books → rust.Books → Type 0
IsPublishedBy lane command e came.More old new = IsNoted lane command e old new
IsPublishedBy lane command e (came.Halted why) old new = IsNoted lane command e old new
IsPublishedBy lane command e came.Blocked old new = IsUnbooked old new
IsPublishedBy lane command e (came.Refused f) old new = IsUnbooked old new
IsPublishedBy lane command e came.Done old new = ⊥

abbrev pub IsMadeDurableBy : ℕ → Outcome → rust.Books → rust.Books → Type 0
IsMadeDurableBy moment came.Done old new = IsEntered moment old new
IsMadeDurableBy moment (came.Halted why) old new = IsUnbooked old new
IsMadeDurableBy moment outcome old new = ⊥

-- a change that is published stays pending
abbrev pub IsHeldBy : Outcome → rust.Books → rust.Books → Type 0
IsHeldBy came.More old new = IsUnbooked old new
IsHeldBy (came.Halted why) old new = IsUnbooked old new
IsHeldBy outcome old new = ⊥

-- What the books have of the step: the one that publishes a change notes it as pending, also where the call failed, and the one
-- that makes it durable makes of it the last entry of the history. No other step changes either.
abbrev pub IsBooked : Kind → ℕ → ℕ → ℕ → Outcome → rust.Books → rust.Books → Type 0
IsBooked (Publish e) lane command moment outcome old new = IsPublishedBy lane command e outcome old new
IsBooked (MakeDurable e) lane command moment outcome old new = IsMadeDurableBy moment outcome old new
IsBooked Quiet lane command moment outcome old new = IsUnbooked old new
IsBooked Store lane command moment outcome old new = IsUnbooked old new
IsBooked (Take wants) lane command moment outcome old new = IsUnbooked old new
IsBooked (Claim name) lane command moment outcome old new = IsUnbooked old new
IsBooked (Published e owed) lane command moment outcome old new = IsHeldBy outcome old new
IsBooked (Remove e owed) lane command moment outcome old new = IsHeldBy outcome old new

-- A command ends for a call that failed, and all of them for a failed change, only where the count of faults rose. One command alone ends
-- for nothing else but want of memory.
abbrev pub HasRisen : ℕ → ℕ → Outcome → Type 0
HasRisen before now (came.Refused err.Failed) = Rose before now
HasRisen before now (came.Refused err.NoMemory) = Unit {0}
HasRisen before now (came.Refused e) = ⊥
HasRisen before now (came.Halted halt.Failed) = Rose before now
HasRisen before now outcome = Unit {0}

-- and that count never falls
abbrev pub Causes : ℕ → ℕ → Outcome → Type 0
Causes before now outcome = (before ≤ now) × HasRisen before now outcome

-- why no command goes on after a step that answered this
abbrev pub why_of : FsErr → Halt
why_of err.Failed = halt.Failed
why_of e = halt.Strayed

-- What a step that answered this before it showed anything comes to: no command goes on, or this one alone ends, for a call that failed or
-- for want of memory.
abbrev pub IsRefusedBy : FsErr → Outcome → Type 0
IsRefusedBy e outcome = ((outcome ≡ came.Halted halt.Failed) × (e ≡ err.Failed)) ⊎ ((outcome ≡ came.Halted halt.Strayed) × (OfNone e → ⊥)) ⊎ ((outcome ≡ came.Refused e) × OfNone e)

-- such a step ends all commands, and no other does
abbrev pub IsLive : Outcome → Option Halt → Option Halt → Type 0
IsLive (came.Halted why) old new = new ≡ Some why
IsLive outcome old new = new ≡ old

-- a lock that is asked for is the lane's; another is as it was
abbrev pub lock_taken : Bool → ℕ → Option ℕ → Option ℕ
lock_taken true lane lock = Some lane
lock_taken false lane lock = lock

-- whose a lock is in such a step
abbrev pub turn_in : Kind → ℕ → Option ℕ → Option ℕ
turn_in (Take wants) lane lock = lock_taken wants.turn lane lock
turn_in (Publish e) lane lock = Some lane
turn_in kind lane lock = lock

abbrev pub exclusive_in : Kind → ℕ → Option ℕ → Option ℕ
exclusive_in (Take wants) lane lock = lock_taken wants.exclusive lane lock
exclusive_in kind lane lock = lock

abbrev pub sysroot_in : Kind → ℕ → Option ℕ → Option ℕ
sysroot_in (Take wants) lane lock = lock_taken wants.sysroot lane lock
sysroot_in kind lane lock = lock

-- the lane hasn't the lock, and who has it had it before
abbrev pub IsGivenUp : ℕ → Option ℕ → Option ℕ → Type 0
IsGivenUp lane old new = (x : ℕ) → new ≡ Some x → (x ≢ lane) × (old ≡ Some x)

-- a command keeps its locks while it runs, also where no command goes on from then on, and gives them up at its end
abbrev pub IsLeft : ℕ → Outcome → Option ℕ → Option ℕ → Type 0
IsLeft lane came.More old new = new ≡ old
IsLeft lane came.Done old new = IsGivenUp lane old new
IsLeft lane (came.Refused e) old new = IsGivenUp lane old new
IsLeft lane (came.Halted why) old new = new ≡ old
IsLeft lane outcome old new = Unit {0}

-- nobody has come to those that store
abbrev pub NoNewShares : rust.Books → rust.Books → Type 0
NoNewShares old new = (x : Share) → Contains new.shared.items x → Contains old.shared.items x

-- Whose the ref lock is after an act that wasn't held off, whose the lock of those that remove objects, and whose that on the list of
-- deployments. The lock of those that store is held for one act alone: behind it nobody has it who hadn't it before.
abbrev pub Locks : Kind → ℕ → Outcome → rust.Books → rust.Books → Type 0
Locks kind lane outcome old new = IsLeft lane outcome (turn_in kind lane old.turn) new.turn × IsLeft lane outcome (exclusive_in kind lane old.exclusive) new.exclusive × NoNewShares old new × IsLeft lane outcome (sysroot_in kind lane old.sysroot) new.sysroot

-- how many objects were removed of those that are to be: none where their change is published, and each before the call that takes it away
abbrev pub gone_published : Outcome → ℕ → ℕ
gone_published came.More gone = 0
gone_published (came.Halted why) gone = 0
gone_published outcome gone = gone

abbrev pub gone_in : Kind → Outcome → ℕ → ℕ
gone_in (Publish e) outcome gone = gone_published outcome gone
gone_in (Remove e owed) outcome gone = gone + 1
gone_in kind outcome gone = gone

-- what such a step may take from its path
abbrev pub taken_in : Kind → Books → List ObjName
taken_in (Remove e owed) b = next_of b
taken_in kind b = []

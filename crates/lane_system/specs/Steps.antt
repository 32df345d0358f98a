-- A step of a task of a lane, as the books, the disk and the refs have it.
use Rattle.std.specs.Prelude.{◌≡◌, ◌⊎◌, ◌+◌, ◌-◌, ℕ, List, Option, Some, None, min, nat_lt, if◌then◌else◌}
use Rattle.ost_types.specs.declared.object.ObjName.{ObjName}
use Rattle.ost_types.specs.Path.{Path}
use Rattle.fs_trait.specs.Change.{Writes}
use Rattle.fs_trait.specs.Effect.{Elapses}
use Rattle.fs_trait.specs.Image.{Told}
use Rattle.fs_trait.specs.View.{View}
use Rattle.fs_trait.specs.declared.types.FsErr.{FsErr}
use Rattle.fs_trait.specs.declared.types.FsErr.TheVariants as err
use Rattle.obj_store.specs.declared.phase.Put.{Put}
use Rattle.obj_store.specs.declared.phase.Put.TheVariants.{Stored}
use Rattle.rely_guarantee.specs.declared.books.Base.{Base}
use Rattle.rely_guarantee.specs.declared.kind.Halt.{Halt}
use Rattle.rely_guarantee.specs.declared.kind.Halt.TheVariants as halt
use Rattle.rely_guarantee.specs.declared.kind.Outcome.{Outcome}
use Rattle.rely_guarantee.specs.declared.kind.Outcome.TheVariants as came
use Rattle.rely_guarantee.specs.Books.{books_of}
use Rattle.rely_guarantee.specs.Claiming.{AreClaimed, claim_in}
use Rattle.rely_guarantee.specs.Exact as exact
use Rattle.rely_guarantee.specs.Exact.{Causes, IsBooked, IsLive, Locks, Opens, gone_in, taken_in}
use Rattle.rely_guarantee.specs.Lasting.{Lasts}
use Rattle.rely_guarantee.specs.Laws as rely
use Rattle.rely_guarantee.specs.Laws.{IsBy, Runs}
use Rattle.rely_guarantee.specs.Pinning.{ArePinned, pin_in}
use Rattle.ref_book.specs.declared.book.RefBook.{RefBook}
use Rattle.ref_book.specs.Tracks.{HasRoom, Tracks}
use Rattle.command.specs.declared.ended.Ended.{Ended}
use Rattle.command.specs.declared.ended.Ended.TheVariants.{NoMemory, DiskFault, Outside, Halted}
use Rattle.command.specs.Doing.{Doing}
use Rattle.command.specs.Tasks.{TaskSpec}
use Rattle.lane_system.specs.Family.{FsSpec}
use Rattle.lane_system.specs.Replies.{OfAnswer}
use Rattle.lane_system.specs.States.{now_of}

-- It was taken by an actor for a lane, whose command has this number.
pub record Stepped {F T : Type 0} (f : FsSpec F) (k : TaskSpec T) (actor lane number : ℕ) (refs refs' : RefBook) (outcome : Outcome) (t t' : T) (old new : Base F) : Type 0 where
  pub acts : rely.Acts f.view f.clock f.spare f.was actor lane outcome (Runs k.kind k.facts lane t') old new
  pub steps : exact.Steps k.stepped t outcome t'
  pub wrote : (v : View) → f.view old.fs ≡ Some v → Told (f.view new.fs) (λ w. Writes (k.writes actor t v) v w)
  pub tells : exact.Tells k.leaves k.refuses t outcome t' (f.view old.fs) (f.view new.fs)
  pub by : (outcome ≡ came.Blocked → ⊥) → IsBy (k.kind t) actor lane
  pub blocked : outcome ≡ came.Blocked → (new ≡ old) × (Opens (k.kind t) lane (books_of old.books) → ⊥)
  pub opens : (outcome ≡ came.Blocked → ⊥) → Opens (k.kind t) lane (books_of old.books)
  pub locks : Locks (k.kind t) lane outcome old.books new.books
  pub pins : ArePinned (pin_in (k.kind t)) lane outcome old.books.pins.items new.books.pins.items
  pub claimed : AreClaimed (claim_in (k.kind t)) lane outcome old.books.claims.items new.books.claims.items
  pub booked : IsBooked (k.kind t) lane number (f.clock new.fs) outcome old.books new.books
  pub gone : new.books.gone ≡ gone_in (k.kind t) outcome old.books.gone
  pub lasts : Lasts (taken_in (k.kind t) (books_of old.books)) f.view f.clock f.was old.fs new.fs
  pub time : Elapses (f.clock old.fs) (f.clock new.fs) (f.was old.fs) (f.was new.fs) (f.view new.fs)
  pub cause : Causes (f.faults old.fs) (f.faults new.fs) outcome
  pub live : IsLive outcome old.books.halted new.books.halted
  pub tracks : Tracks refs' (now_of new.books).refs
  pub rooms : (name : List ℕ) → HasRoom refs name → HasRoom refs' name

-- one more is in the store after a step that stored an object, as far as 32 bits go
abbrev pub IsCounted : ℕ → Option (ObjName × Put) → ℕ → Type 0
IsCounted count (Some (name, Stored)) next = next ≡ min (count + 1) 4294967295
IsCounted count met next = next ≡ count

-- how many there are without one that a step may have taken, by how many were removed before it and are behind it
abbrev pub standing : ℕ → ℕ → ℕ → ℕ
standing gone gone' count = if nat_lt gone gone' then count - 1 else count

-- how many are counted behind a step
abbrev pub CountsAt : {T W A : Type 0} → Doing T W A → ℕ → T → Outcome → ℕ → Type 0
CountsAt d left t came.More now = IsCounted left (d.met t) now
CountsAt d left t outcome now = now ≡ left

-- the command has ended
abbrev pub HasEnded : Outcome → Type 0
HasEnded came.Blocked = ⊥
HasEnded came.More = ⊥
HasEnded outcome = Unit {0}

-- what a command answers where something else than this program changed what stands at a path: the path that the file system remembers of
-- the call that it refused, or that there was no memory for it
abbrev pub IsStray : {A : Type 0} → Option Path → Ended A → Type 0
IsStray None x = x ≡ NoMemory
IsStray (Some path) x = (x ≡ Outside path) ⊎ (x ≡ NoMemory)

-- what one answers where no command goes on, by why that is so
abbrev pub IsCutShort : {A : Type 0} → Halt → Option Path → ℕ → Ended A → Type 0
IsCutShort halt.Failed refused faults x = x ≡ Halted faults
IsCutShort halt.Strayed refused faults x = IsStray refused x

-- what one answers that was refused so
abbrev pub IsRefusal : {A : Type 0} → FsErr → Ended A → Type 0
IsRefusal err.NoMemory x = x ≡ NoMemory
IsRefusal err.Failed x = x ≡ DiskFault
IsRefusal e x = ⊥

-- and that ended so
abbrev pub IsEndedAs : {T A : Type 0} → (T → Option A) → Option Path → Outcome → T → ℕ → Ended A → Type 0
IsEndedAs answer refused came.Done t faults x = OfAnswer (λ a. answer t ≡ Some a) x
IsEndedAs answer refused (came.Halted why) t faults x = IsCutShort why refused faults x
IsEndedAs answer refused (came.Refused e) t faults x = IsRefusal e x
IsEndedAs answer refused outcome t faults x = ⊥

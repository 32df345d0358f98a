-- What a task is to the command whose it is.
use Rattle.std.specs.Prelude.{◌≤◌, ℕ, List, [], Option}
use Rattle.ost_types.specs.declared.limits.Limits.{Limits}
use Rattle.ost_types.specs.declared.object.ObjName.{ObjName}
use Rattle.ost_types.specs.Path.{Name}
use Rattle.fs_trait.specs.View.{View}
use Rattle.obj_store.specs.declared.phase.Put.{Put}
use Rattle.boot_model.specs.declared.item.DepId.{DepId}
use Rattle.rely_guarantee.specs.declared.books.Pin.{Pin}
use Rattle.rely_guarantee.specs.declared.event.Event.{Event}
use Rattle.rely_guarantee.specs.Books.{Books}
use Rattle.rely_guarantee.specs.State.{SystemState}
use Rattle.ref_book.specs.declared.book.RefBook.{RefBook}
use Rattle.ref_book.specs.Tracks.{HasEventRoom}
use Rattle.command.specs.declared.begun.Begun.{Begun}
use Rattle.command.specs.declared.begun.Begun.TheVariants.{Answered, Runs}
use Rattle.command.specs.declared.query.Query.{Query}
use Rattle.command.specs.declared.told.Told.{Told}
use Rattle.command.specs.Meaning.{Meaning}
use Rattle.command.specs.Since.{Since, begun_in}

pub record Doing (T W A : Type 0) : Type 1 where
  -- a task of this lane at its beginning
  pub begins : ℕ → T → Type 0
  -- what it is after, at each of its steps
  pub pursues : Since → W → T → Type 0
  -- what it answers, once it is done
  pub answer : T → Option A
  -- at most so many steps are left
  pub left : T → ℕ
  -- the task once it was told this, and what it was told last
  pub hears : Told → T → T
  pub heard : T → Told
  -- the task before and after it was told what refs name and what is pinned
  pub learns : RefBook → List DepId → List Pin → T → T → Type 0
  -- what the next step of an actor waits for
  pub asks : ℕ → T → Option Query
  -- what the last step stored or found
  pub met : T → Option (ObjName × Put)
  -- what its lane holds of the objects that it stored or found so far
  pub holds : ℕ → T → View → Books → Type 0
  -- it has made the folder of this checkout
  pub made : T → Name → Type 0

-- no command needs more acts than this
abbrev pub most : ℕ
most = 340282366920938463463374607431768211455

-- there is room for the ref that the command changes
abbrev pub HasRoomFor : {W A : Type 0} → Meaning W A → RefBook → Since → W → Type 0
HasRoomFor m refs since c = (e : Event) → m.changes since c e → HasEventRoom refs e

-- an answer by the state alone: its command made no change, leaves nothing, has stored nothing, found nothing in its way, and lacks no commit
abbrev pub IsAnswer : {W A : Type 0} → Meaning W A → Since → W → A → Type 0
IsAnswer m since c a = m.says since a c × m.knows since a c × (m.makes a c → ⊥) × (m.full a → ⊥) × ((name : Name) → m.finds a c name → ⊥) × ((v : View) → m.shows since v a c) × ((v : View) (b : Books) → m.stays since [] a c v b) × ((commit : List ℕ) → m.lacks a commit → ⊥)

-- a task at its beginning, with room for its ref
abbrev pub IsFirst : {T W A : Type 0} → Meaning W A → Doing T W A → ℕ → Since → W → RefBook → T → Type 0
IsFirst m d lane since c refs t = d.begins lane t × d.pursues since c t × HasRoomFor m refs since c × (d.left t ≤ most)

-- what a command's first act came to by the books alone
abbrev pub IsBegun : {T W A : Type 0} → Meaning W A → Doing T W A → Limits → ℕ → SystemState → W → RefBook → Begun T A → Type 0
IsBegun m d limits lane s c refs (Answered a) = IsAnswer m (begun_in limits s) c a
IsBegun m d limits lane s c refs (Runs t) = IsFirst m d lane (begun_in limits s) c refs t

-- What others may rely on in an act, whoever's lane it is.
use Rattle.std.specs.Prelude.{◌≡◌, ◌⊎◌, ◌<◌, ◌≤◌, ◌++◌, ◌∷◌, ℕ, List, [], Contains, flat_map, length, Option, Some, None}
use Rattle.ost_types.specs.declared.limits.Limits.{Limits}
use Rattle.ost_types.specs.declared.object.ObjName.{ObjName}
use Rattle.fs_trait.specs.Count.{Rose}
use Rattle.fs_trait.specs.Effect.{Elapses}
use Rattle.fs_trait.specs.Image.{Told}
use Rattle.fs_trait.specs.View.{View}
use Rattle.boot_read.specs.declared.row.BootRow.{BootRow}
use Rattle.rely_guarantee.specs.declared.books.Base.{Base}
use Rattle.rely_guarantee.specs.declared.books.Books as rust
use Rattle.rely_guarantee.specs.declared.books.Entry.{Entry}
use Rattle.rely_guarantee.specs.declared.books.Pending.{Pending}
use Rattle.rely_guarantee.specs.declared.event.Event.{Event}
use Rattle.rely_guarantee.specs.declared.kind.Halt.{Halt}
use Rattle.rely_guarantee.specs.declared.kind.Halt.TheVariants as halt
use Rattle.rely_guarantee.specs.Books.{Spared, books_of}
use Rattle.rely_guarantee.specs.Lasting.{Lasts}
use Rattle.rely_guarantee.specs.Rely.{Interference}
use Rattle.rely_guarantee.specs.State.{acked, stored}
use Rattle.rely_guarantee.specs.SystemInvariant.{SystemInvariant}
use Rattle.ref_book.specs.declared.book.RefBook.{RefBook}
use Rattle.ref_book.specs.Tracks.{HasRoom, Tracks}
use Rattle.command.specs.ChangeLaws.{Founds}
use Rattle.command.specs.Removed.{AreAmong, RemovesOnly}
use Rattle.command.specs.Removing.{IsPrune}
use Rattle.lane_system.specs.Booting.{MayBootNow}
use Rattle.lane_system.specs.Family.{FsSpec}
use Rattle.lane_system.specs.Kept.{AreHomes, AreInOrder}
use Rattle.lane_system.specs.Lanes.{IsAt}
use Rattle.lane_system.specs.Removals.{removed_by, swept_in}
use Rattle.lane_system.specs.States.{now_of}

-- Over an act the count of failed calls doesn't fall; it rose where all commands were ended for a failed call, by this act.
abbrev pub Fails : ℕ → ℕ → Option Halt → Option Halt → Type 0
Fails before now old new = (before ≤ now) × (new ≡ Some halt.Failed → (old ≡ Some halt.Failed) ⊎ Rose before now)

-- Each change that lasts now did before, or is the one that was shown; and the one that is shown now was so before, or is of this kind.
pub record ComesFrom (P : Event → Type 0) (old new : rust.Books) : Type 0 where
  pub lasting : (k : ℕ) (e : Entry) → IsAt new.history.items k e → IsAt old.history.items k e ⊎ ((p : Pending) × (old.pending ≡ Some p) × (e.event ≡ p.event))
  pub shown : (p : Pending) → new.pending ≡ Some p → (old.pending ≡ Some p) ⊎ P p.event

-- one object, or none: of one more the books tell that it was removed
abbrev pub TakesOne : rust.Books → rust.Books → List ObjName → Type 0
TakesOne old new out = ((out ≡ []) × (new.gone ≤ old.gone)) ⊎ ((old.gone < new.gone) × (o : ObjName) × (out ≡ o ∷ []))

-- Where an act removed these objects, and its history has these entries more: nothing else went from its path; the books tell them as
-- removed, and what they told before is told now, or by the history; and the change that is published then removes objects.
pub record IsRemovalOf {F : Type 0} (f : FsSpec F) (out : List ObjName) (actor lane : ℕ) (old new : Base F) (more : List Entry) : Type 0 where
  pub only : (v : View) → f.view old.fs ≡ Some v → Told (f.view new.fs) (λ w. RemovesOnly out v w)
  pub one : (v : View) → f.view old.fs ≡ Some v → TakesOne old.books new.books out
  pub told : AreAmong out (swept_in new.books)
  pub still : AreAmong (swept_in old.books) (flat_map removed_by more ++ swept_in new.books)
  pub prunes : (o : ObjName) → Contains out o → (p : Pending) → new.books.pending ≡ Some p → IsPrune p.event

pub record Acts {F : Type 0} (f : FsSpec F) (limits : Limits) (actor lane : ℕ) (refs refs' : RefBook) (old new : Base F) : Type 0 where
  pub sound : SystemInvariant f.view f.clock f.spare f.was new
  pub does : (v : View) → f.view old.fs ≡ Some v → (w : View) × (f.view new.fs ≡ Some w) × Interference actor lane v (books_of old.books) w (books_of new.books)
  pub books : Spared actor lane (books_of old.books) (books_of new.books)
  pub homes : AreHomes (f.view old.fs) → AreHomes (f.view new.fs)
  -- commands that go on went on before
  pub live : new.books.halted ≡ None → old.books.halted ≡ None
  pub tracks : Tracks refs' (now_of new.books).refs
  pub rooms : (name : List ℕ) → HasRoom refs name → HasRoom refs' name
  pub locks : AreInOrder old.books → AreInOrder new.books
  -- the objects that it may have removed, the others, which stay, and time
  pub out : List ObjName
  pub removal : IsRemovalOf f out actor lane old new books.more
  -- what the books tell to boot does behind it
  pub boots : (opening : List BootRow) (v : View) → f.view old.fs ≡ Some v → MayBootNow limits opening old.books v → Told (f.view new.fs) (λ w. MayBootNow limits opening new.books w)
  pub lasts : Lasts out f.view f.clock f.was old.fs new.fs
  -- what had been acknowledged by a moment stays what it was
  pub past : (t : ℕ) → t ≤ f.clock old.fs → acked t new.books.history.items ≡ acked t old.books.history.items
  pub time : Elapses (f.clock old.fs) (f.clock new.fs) (f.was old.fs) (f.was new.fs) (f.view new.fs)
  -- a change that it made to last has the moment behind it, and one that it shows names no commit but one that lasts
  pub moments : (k : ℕ) (e : Entry) → IsAt new.books.history.items k e → IsAt old.books.history.items k e ⊎ ((length old.books.history.items ≤ k) × (e.moment ≡ f.clock new.fs))
  -- the stored history grows at its end alone
  pub grows : (more : List Event) × (stored new.books.history.items new.books.pending ≡ stored old.books.history.items old.books.pending ++ more)
  pub fails : Fails (f.faults old.fs) (f.faults new.fs) old.books.halted new.books.halted
  pub founded : (v : View) → f.view old.fs ≡ Some v → ComesFrom (Founds v) old.books new.books

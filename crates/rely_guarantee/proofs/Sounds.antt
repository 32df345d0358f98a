-- What every value keeps goes on: the past, and what is so now.
use Rattle.std.proofs.Common.{◌≡◌, ⊎_elim, ◌≤◌, ℕ, sym, ◌∙◌, ap, subst, List, ◌++◌, length, append_assoc, Option, Some}
use Rattle.fs_trait.specs.View.{Disk, View}
use Rattle.fs_trait.specs.Image.{Told}
use Rattle.fs_trait.specs.Change.{Passes, Left}
use Rattle.fs_trait.specs.Effect.{Elapses}
use Rattle.fs_trait.proofs.Claims.{passes}
use Rattle.rely_guarantee.specs.declared.books.Start.{Start}
use Rattle.rely_guarantee.specs.declared.books.Base.{Base}
use Rattle.rely_guarantee.specs.declared.books.Entry.{Entry}
use Rattle.rely_guarantee.specs.declared.books.Pending.{Pending}
use Rattle.rely_guarantee.specs.declared.event.Event.{Event}
use Rattle.rely_guarantee.specs.Books.{books_of}
use Rattle.rely_guarantee.specs.State.{stored, acked, SystemState, opening_state}
use Rattle.rely_guarantee.specs.SystemInvariant.{AreThere, IsRelistedByHolder, Stands, Fits, Crash, Ordered, SystemInvariant}
use Rattle.rely_guarantee.proofs.Goods.{fits_now}

-- What a crash left before goes on to fit while the history grows, since what it gained came later; what it leaves now fits.
pub crash_goes : (past since : ℕ → Disk → Type 0) (before now opened : ℕ) (view : Option View) (start : SystemState) (entries more_entries : List Entry) (pending more_pending : Option Pending) (more : List Event)
    → Crash past opened start entries pending → Passes before now past since view → ((t : ℕ) (d : Disk) → past t d → t ≤ before)
    → stored more_entries more_pending ≡ stored entries pending ++ more
    → ((t : ℕ) → t ≤ before → acked t more_entries ≡ acked t entries)
    → ((w : View) → view ≡ Some w → Stands start more_entries more_pending w)
    → Crash since opened start more_entries more_pending
crash_goes past since before now opened view start entries more_entries pending more_pending more was time bound grows same stands = record {
  each = λ t d from left. ⊎_elim
      (λ old. longer t d (bound t d old) (was.each t d from old))
      (λ here. fits_now start more_entries more_pending here.0 (stands here.0 here.1) t d here.2)
      (time.nothing_else t d left);
}
  where
    longer : (t : ℕ) (d : Disk) → t ≤ before → Fits start entries (stored entries pending) t d → Fits start more_entries (stored more_entries more_pending) t d
    longer t d le fits = record {
      past = fits.past;
      rest = fits.rest ++ more;
      split = sym (append_assoc fits.past fits.rest more) ∙ ap (λ (l : List Event). l ++ more) fits.split ∙ sym grows;
      has_acked = subst (λ n. n ≤ length fits.past) (sym (same t le)) fits.has_acked;
      shows = fits.shows;
      sane = fits.sane;
    }

-- the laws of a file system, as they are used here
pub record IsFs {F : Type 0} (view : F → Option View) (clock : F → ℕ) (was : F → ℕ → View → Type 0) : Type 0 where
  pub only_now : (fs : F) (t : ℕ) (v : View) → clock fs ≤ t → was fs t v → view fs ≡ Some v
  pub bound : (fs : F) (t : ℕ) (v : View) → was fs t v → t ≤ clock fs
  pub told : (fs gs : F) (v : View) → view fs ≡ Some v → Told (view gs) (λ w. Unit {0})

module _ {F : Type 0} (view : F → Option View) (clock spare : F → ℕ) (was : F → ℕ → View → Type 0) (laws : IsFs view clock was) where
  abbrev pub Calls : F → F → Type 0
  Calls old new = Elapses (clock old) (clock new) (was old) (was new) (view new)

  -- One act: the books are in order again, the stored history grew only at its end, and what is so of a told view is so again.
  pub sound_goes : (old new : Base F) (more : List Event) → SystemInvariant view clock spare was old → Calls old.fs new.fs → Ordered clock spare new
      → new.books.opened ≡ old.books.opened → new.books.start ≡ old.books.start
      → stored new.books.history.items new.books.pending ≡ stored old.books.history.items old.books.pending ++ more
      → ((t : ℕ) → t ≤ clock old.fs → acked t new.books.history.items ≡ acked t old.books.history.items)
      → ((v w : View) → view old.fs ≡ Some v → view new.fs ≡ Some w → Stands (opening_state old.books.start) old.books.history.items old.books.pending v → Stands (opening_state old.books.start) new.books.history.items new.books.pending w)
      → ((v w : View) → view old.fs ≡ Some v → view new.fs ≡ Some w → AreThere old.books.claims.items v → AreThere new.books.claims.items w)
      → ((v : View) → view old.fs ≡ Some v → IsRelistedByHolder (books_of old.books) → IsRelistedByHolder (books_of new.books))
      → SystemInvariant view clock spare was new
  sound_goes old new more sound time ordered opened start grows same stands there relists = record {
    ordered = ordered;
    stands = λ w is. subst (λ (l : Start). Stands (opening_state l) new.books.history.items new.books.pending w) (sym start) (now w is);
    crash = λ w is.
        let v = laws.told new.fs old.fs w is in
        subst (λ (l : Start). Crash (Left (was new.fs)) new.books.opened (opening_state l) new.books.history.items new.books.pending) (sym start)
        (subst (λ n. Crash (Left (was new.fs)) n (opening_state old.books.start) new.books.history.items new.books.pending) (sym opened)
        (crash_goes (Left (was old.fs)) (Left (was new.fs)) (clock old.fs) (clock new.fs) old.books.opened (view new.fs) (opening_state old.books.start) old.books.history.items new.books.history.items old.books.pending new.books.pending more
        (sound.crash v.0 v.1)
        (passes (clock old.fs) (clock new.fs) (was old.fs) (was new.fs) (view new.fs) (laws.only_now new.fs) time)
        (λ t d left. laws.bound old.fs t left.0 left.1)
        grows same now));
    claims = λ w is. let v = laws.told new.fs old.fs w is in there v.0 w v.1 is (sound.claims v.0 v.1);
    relists = λ w is. let v = laws.told new.fs old.fs w is in relists v.0 v.1 (sound.relists v.0 v.1);
  }
    where
      now : (w : View) → view new.fs ≡ Some w → Stands (opening_state old.books.start) new.books.history.items new.books.pending w
      now w is = let v = laws.told new.fs old.fs w is in stands v.0 w v.1 is (sound.stands v.0 v.1)

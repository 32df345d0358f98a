-- What an act keeps of calls that failed, whether or not the view is told.
use Rattle.std.proofs.Common.{◌≡◌, ◌⊎◌, inl, inr, ⊎_elim, ◌≤◌, ℕ, sym, subst, arith, List, [], ◌∷◌, ◌++◌, length, set, Option, Some}
use Rattle.ost_types.specs.declared.limits.Limits.{Limits}
use Rattle.fs_trait.specs.Count.{Rose, last}
use Rattle.rely_guarantee.specs.declared.books.Base.{Base}
use Rattle.rely_guarantee.specs.declared.kind.Halt.{Halt}
use Rattle.rely_guarantee.specs.declared.kind.Halt.TheVariants as halt
use Rattle.ref_book.specs.declared.book.RefBook.{RefBook}
use Rattle.command.specs.declared.ended.Ended.{Ended}
use Rattle.command.specs.declared.ended.Ended.TheVariants as ended
use Rattle.lane_system.specs.declared.act.Came.TheVariants.{Answered, More}
use Rattle.lane_system.specs.declared.lane.Lane.{Lane}
use Rattle.lane_system.specs.declared.lane.Reply.{Reply}
use Rattle.lane_system.specs.Acts.{Fails}
use Rattle.lane_system.specs.Causes.{AreCaused, AreCausedIn}
use Rattle.lane_system.specs.Family.{Family, FsSpec}
use Rattle.lane_system.specs.Kept.{Kept}
use Rattle.lane_system.specs.LaneActs.{LaneActs}
use Rattle.lane_system.specs.Lanes.{IsAt, IsTo}
use Rattle.lane_system.specs.Replies.{IsCaused, IsFailure}
use Rattle.lane_system.proofs.Acting.{given_acts, gives, more_acts}
use Rattle.lane_system.proofs.Changing.{to_split, to_was}
use Rattle.lane_system.proofs.Family.{FamilyLaws, FsLaws}
use Rattle.lane_system.proofs.Giving.{Gives}
use Rattle.lane_system.proofs.Places.{here_or_apart}

-- a count that rose has risen over any longer time
rose_since : (before a b : ℕ) → before ≤ a → Rose a b → Rose before b
rose_since before a b le (inl lt) = inl (omega (arith, le, lt))
rose_since before a b le (inr at) = inr at

rose_on : (before a b : ℕ) → before ≤ a → a ≤ b → Rose before a → Rose before b
rose_on before a b from le (inl lt) = inl (omega (arith, le, lt))
rose_on before a b from le (inr at) = here_or_apart b last (λ e. inr e) (λ ne. inl (omega (arith, from, le, at, ne)))

-- no more commands go on only where the count rose
halts_on : (old new : Option Halt) (before a b : ℕ) → before ≤ a → Fails a b old new → (old ≡ Some halt.Failed → Rose before a) → new ≡ Some halt.Failed → Rose before b
halts_on old new before a b from fails was is = ⊎_elim (λ over. rose_on before a b from fails.0 (was over)) (λ rose. rose_since before a b from rose) (fails.1 is)

-- so of an answer
risen : {A : Type 0} (halted : Option Halt) (before a b : ℕ) (x : Ended A) → before ≤ a → a ≤ b → (halted ≡ Some halt.Failed → Rose before a) → IsCaused halted a b x → IsFailure x → Rose before b
risen halted before a b ended.DiskFault from le was cause is = rose_since before a b from cause
risen halted before a b (ended.Halted n) from le was cause is = ⊎_elim (λ over. rose_on before a b from le (was over)) (λ rose. rose_since before a b from rose) cause
risen halted before a b (ended.Answered x) from le was cause is = absurd is
risen halted before a b ended.NoMemory from le was cause is = absurd is
risen halted before a b (ended.Outside path) from le was cause is = absurd is

-- The replies of the lanes behind an act are those of before, or new ones.
caused_on : {T W A : Type 0} (before a b : ℕ) (old new : Option Halt) (lanes lanes' : List (Lane T W A)) (IsNew : Reply A → Type 0) → Fails a b old new → ((l n : ℕ) (r : Reply A) → IsTo lanes' l n r → IsTo lanes l n r ⊎ IsNew r)
    → ((r : Reply A) → IsNew r → IsCaused old a b r.answer) → AreCausedIn before a old lanes → AreCausedIn before b new lanes'
caused_on before a b old new lanes lanes' IsNew fails split new_one was = record {
  later = omega (arith, was.later, fails.0);
  halts = halts_on old new before a b was.later fails was.halts;
  each = λ l n r to is. ⊎_elim
      (λ there. rose_on before a b was.later fails.0 (was.each l n r there is))
      (λ given. risen old before a b r.answer was.later fails.0 was.halts (new_one r given) is)
      (split l n r to);
}

module _ {F T W A : Type 0} (f : FsSpec F) (c : Family T W A) (fl : FsLaws f) (cl : FamilyLaws c) (limits : Limits) (lane : ℕ) (refs refs' : RefBook) (objects objects' : ℕ) (old new : Base F) (lanes : List (Lane T W A)) (given : ℕ) (l : Lane T W A)
    (kept : Kept f c limits old refs lanes given) (at : IsAt lanes lane l) where
  -- it goes on
  pub more_caused : (l' : Lane T W A) (x : LaneActs f c limits lane lane refs refs' objects objects' old new l l' More) (before : ℕ)
      → AreCaused f.faults before (record { base = old; lanes = lanes; limits = limits; objects = objects }) → AreCaused f.faults before (record { base = new; lanes = set lanes lane l'; limits = limits; objects = objects' })
  more_caused l' x before was = caused_on before (f.faults old.fs) (f.faults new.fs) old.books.halted new.books.halted lanes (set lanes lane l') (λ r. ⊥)
      ((more_acts f c fl cl limits lane refs refs' objects objects' old new lanes given l l' kept at x).fails)
      (λ a n r to. inl (to_was lanes lane l l' at x.same x.replies a n r to)) (λ r none. absurd none) was

  -- it has an answer
  pub given_caused : (l' : Lane T W A) (z : Ended A) (start : ℕ) (x : LaneActs f c limits lane lane refs refs' objects objects' old new l l' (Answered z start)) (l'' : Lane T W A) (r : Reply A) (same : l''.words ≡ l.words) (grows : l''.replies.items ≡ l.replies.items ++ r ∷ []) (answered : r.answer ≡ z) (before : ℕ)
      → AreCaused f.faults before (record { base = old; lanes = lanes; limits = limits; objects = objects }) → AreCaused f.faults before (record { base = new; lanes = set lanes lane l''; limits = limits; objects = objects' })
  given_caused l' z start x l'' r same grows answered before was =
      let g : Gives f c limits lane (length l.replies.items) objects old new x.words start z = gives f c fl cl limits lane refs refs' objects objects' old new lanes given l l' kept at z start x in
      caused_on before (f.faults old.fs) (f.faults new.fs) old.books.halted new.books.halted lanes (set lanes lane l'') (λ q. q ≡ r)
      ((given_acts f c fl cl limits lane refs refs' objects objects' old new lanes given l l' kept at z start x).fails)
      (λ a n q to. ⊎_elim (λ was. inl was) (λ new_one. inr new_one.2) (to_split lanes lane l l'' at same r grows a n q to))
      (λ q is. subst (λ (y : Reply A). IsCaused old.books.halted (f.faults old.fs) (f.faults new.fs) y.answer) (sym is) (subst (IsCaused old.books.halted (f.faults old.fs) (f.faults new.fs)) (sym answered) g.shown.1)) was

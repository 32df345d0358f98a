-- Where no command changes the list of deployments no change of the history does, and it is the same all along.
use Rattle.std.proofs.Common.{◌≡◌, ◌≤◌, ⊎_elim, ◌+◌, ℕ, zero, suc, refl, sym, ◌∙◌, ap, subst, arith, List, [], ◌∷◌, ◌++◌, take, Contains, Option, Some, None}
use Rattle.std.proofs.lemmas.List.Elements.{Contains-append_cases, Contains-append_left, Contains-push}
use Rattle.ost_types.specs.declared.limits.Limits.{Limits}
use Rattle.fs_trait.specs.Change.{Left}
use Rattle.fs_trait.specs.View.{Disk, View}
use Rattle.boot_model.specs.declared.item.DepId.{DepId}
use Rattle.boot_read.specs.declared.row.BootRow.{BootRow}
use Rattle.boot_read.specs.Rows.{AreRowsOf}
use Rattle.durable_list.specs.Standing.{ListStands}
use Rattle.durable_deployments.specs.Standing.{AreStanding, AreWhole}
use Rattle.rely_guarantee.specs.declared.books.Entry.{Entry}
use Rattle.rely_guarantee.specs.declared.books.Pending.{Pending}
use Rattle.rely_guarantee.specs.declared.event.Event.{Event}
use Rattle.rely_guarantee.specs.State.{SystemState, events_of, list_in, opening_state, pending_of, stored}
use Rattle.command.specs.declared.ended.Ended.{Ended}
use Rattle.command.specs.BootLaws.{ChangesNoList}
use Rattle.command.specs.MayBoot.{coming_of}
use Rattle.command.specs.Meaning.{Meaning}
use Rattle.command.specs.Since.{begun_in, placed}
use Rattle.lane_system.specs.declared.lane.Lane.{Lane}
use Rattle.lane_system.specs.Booting.{AreUnlisted, BootsOne, BootsStill, KeepsBoots, MayBootBy}
use Rattle.lane_system.specs.Family.{FsSpec}
use Rattle.lane_system.specs.Lanes.{IsAt}
use Rattle.lane_system.specs.Replied.{Replied}
use Rattle.lane_system.specs.Replies.{Answers, IfAnswer}
use Rattle.lane_system.specs.States.{state_after}
use Rattle.lane_system.specs.System.{System}
use Rattle.lane_system.proofs.Changing.{one_command}
use Rattle.lane_system.proofs.Giving.{is_answer}
use Rattle.lane_system.proofs.Places.{front_last}

entries_none : (entries : List Entry) → ((k : ℕ) (e : Entry) → IsAt entries k e → list_in e.event ≡ None) → AreUnlisted (events_of entries)
entries_none [] each x has = absurd (omega (arith, has.1))
entries_none (e ∷ rest) each x (zero, lt, is) = subst (λ (y : Event). list_in y ≡ None) is (each 0 e (omega arith, refl))
entries_none (e ∷ rest) each x (suc k, lt, is) = entries_none rest (λ i y at. each (suc i) y (omega (arith, at.0), at.1)) x (k, omega (arith, lt), is)

pending_none : (pending : Option Pending) → ((p : Pending) → pending ≡ Some p → list_in p.event ≡ None) → AreUnlisted (pending_of pending)
pending_none None each x has = absurd (omega (arith, has.1))
pending_none (Some p) each x (zero, lt, is) = subst (λ (y : Event). list_in y ≡ None) is (each p refl)
pending_none (Some p) each x (suc k, lt, is) = absurd (omega (arith, lt))

module _ {T W A : Type 0} (told : Type 0) (m : Meaning W A) (limits : Limits) (start : SystemState) (entries : List Entry) (pending : Option Pending) (lanes : List (Lane T W A)) (replied : Replied told m limits start entries pending lanes) (none : ChangesNoList m) where
  -- each change is one of a command
  entry_none : (k : ℕ) (e : Entry) → IsAt entries k e → list_in e.event ≡ None
  entry_none k e at =
      let was = replied.made k e at in
      let its = replied.each e.lane e.command was.0 was.1 in
      let same : was.3 ≡ its.0 = one_command lanes e.lane e.command was.3 its.0 was.4 its.1 in
      let a = is_answer (λ x. m.makes x was.3) was.0.answer was.5 in
      let begun = state_after start entries was.0.start in
      let says = subst (λ (x : Ended A). IfAnswer (Answers m e.lane e.command (placed (begun_in limits begun) (state_after start entries was.0.place)) (take was.0.place entries) its.0) x) a.1 its.2.answer in
      let made = says.1 (subst (λ (w : W). m.makes a.0 w) same a.2) in
      let front : take (k + 1) entries ≡ made.0 ++ made.1 ∷ [] = ap (λ n. take n entries) (sym was.2) ∙ made.2 in
      let last : e ≡ made.1 = front_last entries made.0 k e made.1 at front in
      subst (λ (x : Entry). list_in x.event ≡ None) (sym last) (none (begun_in limits begun) its.0 made.1.event made.5.0)

  shown_none : (p : Pending) → pending ≡ Some p → list_in p.event ≡ None
  shown_none p is =
      let shown = replied.shown p is in
      ⊎_elim
      (λ runs. none (begun_in limits (state_after start entries runs.0.start)) shown.0 p.event runs.2)
      (λ cut. none (begun_in limits (state_after start entries cut.0.start)) shown.0 p.event cut.3)
      shown.2

  pub none_relisted : AreUnlisted (stored entries pending)
  none_relisted x has = ⊎_elim (entries_none entries entry_none x) (pending_none pending shown_none x) (Contains-append_cases (events_of entries) (pending_of pending) x has)

coming_none : (entries : List Entry) (pending : Option Pending) → AreUnlisted (stored entries pending) → coming_of pending ≡ None
coming_none entries None none = refl
coming_none entries (Some p) none = none p.event (Contains-push (events_of entries) p.event)

-- so the list that booted at the opening does, with the same deployments
module _ {F T W A : Type 0} (f : FsSpec F) (opening : List BootRow) (s : System F T W A) (v : View) (is : BootsStill f opening s v) (none : AreUnlisted (stored s.base.books.history.items s.base.books.pending)) where
  abbrev begin : SystemState
  begin = opening_state s.base.books.start

  one : BootsOne s.limits opening begin (events_of s.base.books.history.items) v
  one = subst (λ (o : Option (List DepId)). MayBootBy s.limits opening begin (events_of s.base.books.history.items) o v) (coming_none s.base.books.history.items s.base.books.pending none) is.now

  same : one.rows ≡ opening
  same = one.are.same (λ e has. none e (Contains-append_left (events_of s.base.books.history.items) (pending_of s.base.books.pending) e has))

  left_with : (t : ℕ) (d : Disk) → s.base.books.opened ≤ t → Left (f.was s.base.fs) t d → AreRowsOf d opening × AreWhole s.limits d opening
  left_with t d from left =
      let x = is.since t d from left in
      let rows : x.rows ≡ opening = x.listed.same (λ e has. none e (subst (λ (l : List Event). Contains l e) x.fits.split (Contains-append_left x.fits.past x.fits.rest e has))) in
      (subst (AreRowsOf d) rows x.are, subst (AreWhole s.limits d) rows x.whole)

  pub boots_same : KeepsBoots (f.was s.base.fs) s.limits opening s.base.books.opened v
  boots_same = record {
    list = record { stands = subst (λ (rows : List BootRow). ListStands rows v) same one.boots.list; since = λ t d from left. (left_with t d from left).0 };
    deployments = record { stands = subst (λ (rows : List BootRow). AreStanding s.limits rows v) same one.boots.deployments; since = λ t d from left. (left_with t d from left).1 };
    left_over = is.left_over;
  }

-- What the replies say, and what the commands that run hold, by what a system keeps.
use Rattle.std.proofs.Common.{◌≡◌, ⊎_elim, ℕ, sym, subst, arith, List}
use Rattle.ost_types.specs.declared.limits.Limits.{Limits}
use Rattle.rely_guarantee.specs.declared.books.Base.{Base}
use Rattle.rely_guarantee.specs.Books.{books_of}
use Rattle.ref_book.specs.declared.book.RefBook.{RefBook}
use Rattle.lane_system.specs.declared.lane.Lane.{Lane}
use Rattle.lane_system.specs.declared.lane.Reply.{Reply}
use Rattle.lane_system.specs.Booked.{IsReplied}
use Rattle.lane_system.specs.Family.{Family, FsSpec}
use Rattle.lane_system.specs.Held.{Held}
use Rattle.lane_system.specs.Kept.{Kept, RunsIn}
use Rattle.lane_system.specs.Lanes.{IsAt, IsTo}
use Rattle.lane_system.specs.Ranks.{AreWithin}
use Rattle.lane_system.specs.Replies.{EndsBy}
use Rattle.lane_system.specs.States.{since_in}
use Rattle.lane_system.specs.Sweeping.{IsAllTold}
use Rattle.lane_system.specs.System.{System}
use Rattle.lane_system.proofs.Changing.{one_command}
use Rattle.lane_system.proofs.Family.{FamilyLaws}
use Rattle.lane_system.proofs.Places.{at_one}
use Rattle.lane_system.specs.Removals.{swept_in}
use Rattle.lane_system.proofs.Removals.{none_of}
use Rattle.lane_system.proofs.Sweeping.{swept_holder}

module _ {F T W A : Type 0} (f : FsSpec F) (c : Family T W A) (limits : Limits) (base : Base F) (refs : RefBook) (lanes : List (Lane T W A)) (given objects : ℕ) (kept : Kept f c limits base refs lanes given) where
  abbrev pub s : System F T W A
  s = record { base = base; lanes = lanes; limits = limits; objects = objects }

  pub replied_of : IsReplied f.view c.means s
  replied_of = record {
    each = λ lane number r to. (let x = (kept.each lane to.0 to.1).replies number r to.2 in (x.0, (to.0, to.1, x.1), x.2));
    in_order = λ lane number next r q to too lt.
        (let same : too.0 ≡ to.0 = at_one lanes lane too.0 to.0 too.1 to.1 in
        (kept.each lane to.0 to.1).in_order number next r q to.2 (subst (λ (l : Lane T W A). IsAt l.replies.items next q) same too.2) lt);
    made = kept.accounted.made;
    shown = kept.accounted.shown;
    untaken = kept.accounted.untaken;
    over = kept.accounted.over;
    numbered = kept.accounted.numbered;
    starts = λ lane number r is. ((kept.each lane is.0 is.1).started r is.3).early;
    begun = λ lane number next r q is to.
        (let same : to.0 ≡ is.0 = at_one lanes lane to.0 is.0 to.1 is.1 in
        ((kept.each lane is.0 is.1).started r is.3).later next q (subst (λ (l : Lane T W A). IsAt l.replies.items next q) same to.2));
  }

  pub within_of : AreWithin s
  within_of lane l at = (kept.each lane l at).is.within

  pub ends_of : (lane number : ℕ) (r : Reply A) → IsTo lanes lane number r → EndsBy base.books.halted (f.refused base.fs) (f.faults base.fs) r.answer
  ends_of lane number r to = (kept.each lane to.0 to.1).halts number r to.2

  -- what is pending is a running command's, or that of one that was cut short; so then no removal goes on
  pub told_of : IsAllTold f.view s
  told_of ended whole = none_of (swept_in base.books) (λ o has. (let h = swept_holder base.books o has in
      let x = kept.accounted.shown h.pending h.is in ⊎_elim
      (λ runs. (let r = runs.1 in absurd (omega (arith, ended h.pending.lane r.0 r.1, ((kept.each h.pending.lane r.0 r.1).started runs.0 r.3).next.0))))
      (λ cut. absurd (whole h.pending.lane h.pending.command cut.0 cut.1 cut.2))
      x.2))

  module _ (cl : FamilyLaws c) where
    pub held_of : Held f.view c s
    held_of = record {
      after = λ lane number r words is of.
          (let k = (kept.each lane is.0 is.1).started r is.3 in
          let same : k.words ≡ words = one_command lanes lane number k.words words (is.0, is.1, subst (λ n. IsAt is.0.words.items n k.words) (sym is.2) k.next) of in
          subst (λ (d : W). c.doing.pursues (since_in limits base.books r.start) d r.work) same k.after);
      pins = kept.pins;
      holds = λ live v told lane number r is.
          (let runs = subst (RunsIn c lane (f.view base.fs) base.books) is.3 ((kept.each lane is.0 is.1).runs live) in
          cl.commands.store.holds lane r.work v (books_of base.books) (runs.facts v told));
    }

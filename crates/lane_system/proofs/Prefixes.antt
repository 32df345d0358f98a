-- The states after a front of the history don't change while it grows.
use Rattle.std.proofs.Common.{◌≡◌, ◌≤◌, ℕ, sym, ◌∙◌, ap, subst, arith, List, ◌++◌, take, length, length-append}
use Rattle.std.proofs.Math.Seq.{take-length, take-append-le}
use Rattle.ost_types.specs.declared.limits.Limits.{Limits}
use Rattle.rely_guarantee.specs.declared.books.Start.{Start}
use Rattle.rely_guarantee.specs.declared.books.Books as rust
use Rattle.rely_guarantee.specs.declared.books.Entry.{Entry}
use Rattle.rely_guarantee.specs.Books.{Spared, books_of}
use Rattle.rely_guarantee.specs.State.{SystemState, after, events_of, opening_state}
use Rattle.command.specs.Meaning.{Meaning}
use Rattle.command.specs.Since.{begun_in, placed}
use Rattle.lane_system.specs.declared.lane.Reply.{Reply}
use Rattle.lane_system.specs.Replies.{Answers, IfAnswer, IsReply, Knows}
use Rattle.lane_system.specs.States.{now_of, since_in, state_after, state_in}

pub state_stays : (begin : SystemState) (h more : List Entry) (k : ℕ) → k ≤ length h → state_after begin (h ++ more) k ≡ state_after begin h k
state_stays begin h more k le = ap (λ (l : List Entry). after (events_of l) begin) (take-append-le k h more le)

-- where all changes are counted
pub state_all : (b : rust.Books) (n : ℕ) → n ≡ length b.history.items → state_in b n ≡ now_of b
state_all b n at = ap (λ (l : List Entry). after (events_of l) (opening_state b.start)) (ap (λ k. take k b.history.items) at ∙ take-length b.history.items)

module _ (actor lane : ℕ) (b b' : rust.Books) (spared : Spared actor lane (books_of b) (books_of b')) where
  pub state_is : (k : ℕ) → k ≤ length b.history.items → state_in b' k ≡ state_in b k
  state_is k le =
      ap (λ (x : Start). state_after (opening_state x) b'.history.items k) spared.start
      ∙ ap (λ (h : List Entry). state_after (opening_state b.start) h k) spared.grows
      ∙ state_stays (opening_state b.start) b.history.items spared.more k le

  pub since_is : (limits : Limits) (k : ℕ) → k ≤ length b.history.items → since_in limits b' k ≡ since_in limits b k
  since_is limits k le = ap (begun_in limits) (state_is k le)

  pub longer : length b.history.items ≤ length b'.history.items
  longer = omega (arith, ap length spared.grows, length-append b.history.items spared.more)

-- a reply stays one while the history grows
pub reply_stays : {W A : Type 0} (told : Type 0) (m : Meaning W A) (limits : Limits) (begin : SystemState) (h more : List Entry) (lane number : ℕ) (c : W) (r : Reply A) → IsReply told m limits begin h lane number c r → IsReply told m limits begin (h ++ more) lane number c r
reply_stays {W} {A} told m limits begin h more lane number c r is = record {
  begun = is.begun;
  within = omega (arith, is.within, length-append h more);
  answer =
      subst (λ (s : SystemState). IfAnswer (Answers m lane number (placed (begun_in limits s) (state_after begin (h ++ more) r.place)) (take r.place (h ++ more)) c) r.answer) (sym (state_stays begin h more r.start (omega (arith, is.begun, is.within))))
      (subst (λ (l : List Entry). IfAnswer (Answers m lane number (placed (begun_in limits (state_after begin h r.start)) (after (events_of l) begin)) l c) r.answer) (sym (take-append-le r.place h more is.within)) is.answer);
  known = λ t.
      subst (λ (s : SystemState). Knows m (placed (begun_in limits s) (state_after begin (h ++ more) r.place)) c r.answer) (sym (state_stays begin h more r.start (omega (arith, is.begun, is.within))))
      (subst (λ (p : SystemState). Knows m (placed (begun_in limits (state_after begin h r.start)) p) c r.answer) (sym (state_stays begin h more r.place is.within)) (is.known t));
}

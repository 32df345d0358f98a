-- The objects of a commit that a change is of are brought by its command.
use Rattle.std.proofs.Common.{◌≡◌, inl, ◌+◌, ℕ, refl, sym, ◌∙◌, ap, subst, List, [], ◌∷◌, ◌++◌, take, Option}
use Rattle.ost_types.specs.declared.limits.Limits.{Limits}
use Rattle.fs_trait.specs.View.{Disk}
use Rattle.commit_build.specs.declared.message.Message.{Message}
use Rattle.commit_durability.specs.Lasting.{IsAloneOn, IsOf}
use Rattle.rely_guarantee.specs.declared.books.Entry.{Entry}
use Rattle.rely_guarantee.specs.declared.books.Pending.{Pending}
use Rattle.rely_guarantee.specs.declared.either.Either.TheVariants.{Left, Right}
use Rattle.rely_guarantee.specs.State.{State, RefOf, SystemState}
use Rattle.durable_store.specs.Brought.{NoHashCollisionOn}
use Rattle.command.specs.declared.ended.Ended.{Ended}
use Rattle.command.specs.Since.{begun_in, placed}
use Rattle.commit_family.specs.declared.words.CommitWords.{CommitWords}
use Rattle.commit_family.specs.Commits.{message_in, message_of}
use Rattle.commit_family.specs.Family.{commit_changes}
use Rattle.lane_system.specs.Lanes.{IsAt, IsCommand, IsTo}
use Rattle.lane_system.specs.Replied.{Replied}
use Rattle.lane_system.specs.Replies.{Answers, HasMade, IfAnswer}
use Rattle.lane_system.specs.States.{state_after}
use Rattle.lane_system.specs.Storing.{IsBroughtIn}
use Rattle.lane_system.proofs.Giving.{is_answer}
use Rattle.lane_system.proofs.Places.{at_one, front_last}
use Rattle.commands.specs.Family.{Answer, Lane, Reply, Words, means}

one_command : (lanes : List Lane) (lane number : ℕ) (c d : Words) → IsCommand lanes lane number c → IsCommand lanes lane number d → c ≡ d
one_command lanes lane number c d one two =
    let same = at_one lanes lane one.0 two.0 one.1 two.1 in
    at_one two.0.words.items number c d (subst (λ (l : Lane). IsAt l.words.items number c) same one.2) two.2

-- a commit as words of the program
abbrev pub as_words : CommitWords → Words
as_words c = Right (Left c)

module _ (told : Type 0) (limits : Limits) (start : SystemState) (history : List Entry) (by : Option Pending) (lanes : List Lane) (replied : Replied told means limits start history by lanes)
    (k : ℕ) (e : Entry) (c : CommitWords) (at : IsAt history k e) (is : IsCommand lanes e.lane e.command (as_words c)) where
  -- the reply to the command says that it made the change
  abbrev reply : Reply
  reply = (replied.made k e at).0

  to : IsTo lanes e.lane e.command reply
  to = (replied.made k e at).1

  abbrev begun : SystemState
  begun = state_after start history reply.start

  made : (a : Answer) × HasMade e.lane e.command (λ x. means.changes (begun_in limits begun) (as_words c) x × means.tells a x) (take reply.place history)
  made =
      let was = replied.made k e at in
      let its = replied.each e.lane e.command reply to in
      let same : was.3 ≡ as_words c = one_command lanes e.lane e.command was.3 (as_words c) was.4 is in
      let own : its.0 ≡ as_words c = one_command lanes e.lane e.command its.0 (as_words c) its.1 is in
      let a = is_answer (λ x. means.makes x was.3) reply.answer was.5 in
      let says = subst (λ (x : Ended Answer). IfAnswer (Answers means e.lane e.command (placed (begun_in limits begun) (state_after start history reply.place)) (take reply.place history) its.0) x) a.1 its.2.answer in
      (a.0, subst (λ (w : Words). HasMade e.lane e.command (λ x. means.changes (begun_in limits begun) w x × means.tells a.0 x) (take reply.place history)) own (says.1 (subst (λ (w : Words). means.makes a.0 w) (same ∙ sym own) a.2)))

  changes : commit_changes begun.refs c e.event
  changes =
      let front : take (k + 1) history ≡ made.1.0 ++ made.1.1 ∷ [] = ap (λ n. take n history) (sym (replied.made k e at).2) ∙ made.1.2 in
      let last : e ≡ made.1.1 = front_last history made.1.0 k e made.1.1 at front in
      subst (λ (x : Entry). commit_changes begun.refs c x.event) (sym last) made.1.5.0

  -- which names the commit of any state that the change is of
  one_message : (s : State) → commit_changes s c e.event → message_in s c ≡ message_in begun.refs c
  one_message s change =
      let one = sym change ∙ changes in
      let parent : s (RefOf c.branch) ≡ begun.refs (RefOf c.branch) = cc in
      ap (λ p. message_of p c) parent

  pub alone_on : (s : State) → commit_changes s c e.event → (d : Disk) → NoHashCollisionOn (IsBroughtIn means limits start history lanes) d → IsAloneOn d c.tree.items (message_in s c)
  alone_on s change d alone o of bytes stored = alone o.name o.bytes bytes (record {
    lane = e.lane;
    number = e.command;
    command = as_words c;
    is = is;
    start = reply.start;
    begun = inl (reply, to, refl);
    brings = (o, subst (λ (m : Message). IsOf c.tree.items m o) (one_message s change) of, refl, refl);
  }) stored

-- What an act keeps of what was so since the opening, for each way that it may end.
use Rattle.std.proofs.Common.{◌≡◌, ◌≢◌, ◌⊎◌, inl, inr, ⊎_elim, ◌<◌, ◌≤◌, ◌+◌, ℕ, refl, sym, ◌∙◌, ap, subst, arith, List, [], ◌∷◌, ◌++◌, length, set, Some, None}
use Rattle.ost_types.specs.declared.limits.Limits.{Limits}
use Rattle.ost_types.specs.Path.{Name}
use Rattle.fs_trait.specs.Image.{Told}
use Rattle.fs_trait.specs.Seen.{Vacant, shows}
use Rattle.fs_trait.specs.View.{Disk, View}
use Rattle.repo_layout.specs.BootPaths.{checkout_path}
use Rattle.rely_guarantee.specs.State.{SystemState}
use Rattle.rely_guarantee.specs.declared.books.Base.{Base}
use Rattle.rely_guarantee.specs.declared.books.Entry.{Entry}
use Rattle.rely_guarantee.specs.declared.kind.Outcome.TheVariants as came
use Rattle.rely_guarantee.specs.Books.{books_of}
use Rattle.ref_book.specs.declared.book.RefBook.{RefBook}
use Rattle.command.specs.declared.ended.Ended.{Ended}
use Rattle.command.specs.declared.ended.Ended.TheVariants as ended
use Rattle.command.specs.ChangeLaws.{IsRightSince}
use Rattle.durable_store.specs.Brought.{NoHashCollisionOn}
use Rattle.durable_store.specs.Full.{HasAsMany, IsFull}
use Rattle.command.specs.CommitFiles.{CommitsAreFiles}
use Rattle.command.specs.Since.{Since, placed as placed_at}
use Rattle.command.specs.Sound.{IsSoundStore}
use Rattle.command.proofs.Files.{stands_files}
use Rattle.lane_system.specs.declared.act.Came.TheVariants.{Answered, More}
use Rattle.lane_system.specs.declared.lane.Lane.{Lane}
use Rattle.lane_system.specs.declared.lane.Reply.{Reply}
use Rattle.lane_system.specs.declared.lane.Running.{Running}
use Rattle.lane_system.specs.Acts.{Acts}
use Rattle.lane_system.specs.Causes.{AreCaused}
use Rattle.lane_system.specs.Counts.{AreCounted}
use Rattle.lane_system.specs.Family.{Family, FsSpec}
use Rattle.lane_system.specs.Folders.{AreFolders, IsTaken}
use Rattle.lane_system.specs.Founded.{RefsNameDurableCommits}
use Rattle.lane_system.specs.Inside.{NoExternalChange}
use Rattle.lane_system.specs.Kept.{Kept}
use Rattle.boot_read.specs.declared.row.BootRow.{BootRow}
use Rattle.lane_system.specs.Booting.{BootsStill}
use Rattle.lane_system.proofs.Booting.{list_still}
use Rattle.lane_system.specs.Known.{AreKnown}
use Rattle.lane_system.specs.LaneActs.{LaneActs, task_start}
use Rattle.lane_system.specs.Lanes.{IsAt, IsCommand, IsTo}
use Rattle.lane_system.specs.Lasting.{AreKept}
use Rattle.lane_system.specs.Preserves.{Preserves}
use Rattle.lane_system.specs.Remaining.{IsLast, LastRemains}
use Rattle.lane_system.specs.Replies.{IfAnswer, IsOutside, Knows, OfAnswer}
use Rattle.lane_system.specs.Said.{RepliesHeldAtAPoint}
use Rattle.lane_system.specs.States.{now_of, since_in, state_in}
use Rattle.lane_system.specs.Staying.{AreStaying}
use Rattle.lane_system.specs.Storing.{AreStored, IsConfigured, WasBrought}
use Rattle.lane_system.specs.System.{System}
use Rattle.lane_system.proofs.Acting.{given_acts, given_within, gives, more_acts, start_within, within}
use Rattle.lane_system.proofs.Clearing.{IsMadeNow, clear_on, made_ended, made_going, made_more, made_over, none_made, stands_on}
use Rattle.lane_system.proofs.Changing.{command_was, one_command, running_here, to_new, to_same, to_split, to_stays, to_was}
use Rattle.lane_system.proofs.Counting.{full_by}
use Rattle.lane_system.proofs.Endings.{more_history}
use Rattle.lane_system.proofs.Family.{FamilyLaws, FsLaws}
use Rattle.lane_system.proofs.Folding.{comes, made_goes, made_still, none_in_the_way, stands_in_the_way, taken_by, taken_stays}
use Rattle.lane_system.proofs.Giving.{Gives, is_answer}
use Rattle.lane_system.proofs.Places.{at_set, at_split}
use Rattle.lane_system.proofs.Prefixes.{longer, since_is, state_all}
use Rattle.lane_system.proofs.Preserving.{SaysNow, founded_on, inside_on, lasts_on, said_on, staying_on}
use Rattle.lane_system.proofs.StoreByEnding.{alone_given, alone_more, counted_given, counted_more, known_given, known_more, no_outside_given, sound_given, stored_given, stored_more}
use Rattle.lane_system.proofs.Taking.{told}

-- What acts keep.
pub record ActKeeps {F T W A : Type 0} (f : FsSpec F) (c : Family T W A) (old new : System F T W A) (v : View) : Type 0 where
  pub lasts : (opening : View) → AreKept c.means f.was opening old v → Told (f.view new.base.fs) (λ w. AreKept c.means f.was opening new w)
  pub good : AreStored f c.means old v → Told (f.view new.base.fs) (λ w. AreStored f c.means new w)
  pub inside : AreStored f c.means old v → NoExternalChange f c.means old → NoExternalChange f c.means new
  pub folders : (opening : Disk) → AreFolders c.means c.doing opening old v → Told (f.view new.base.fs) (λ w. AreFolders c.means c.doing opening new w)
  pub counted : AreCounted old v → Told (f.view new.base.fs) (λ w. AreCounted new w)
  pub said : AreStored f c.means old v → AreCounted old v → RepliesHeldAtAPoint c.means f.was old → RepliesHeldAtAPoint c.means f.was new
  pub stays : AreStored f c.means old v → AreStaying c.means old v → Told (f.view new.base.fs) (λ w. AreStaying c.means new w)
  pub remains : LastRemains c.means old v → Told (f.view new.base.fs) (λ w. LastRemains c.means new w)
  pub founded : (opening : View) → AreStored f c.means old v → CommitsAreFiles v.now → RefsNameDurableCommits c.means opening old v → Told (f.view new.base.fs) (λ w. RefsNameDurableCommits c.means opening new w)
  pub known : (opening : Disk) → AreKnown f c.means opening old v → Told (f.view new.base.fs) (λ w. AreKnown f c.means opening new w)
  pub boots : (rows : List BootRow) → BootsStill f rows old v → Told (f.view new.base.fs) (λ w. BootsStill f rows new w)

module _ {F T W A : Type 0} (f : FsSpec F) (c : Family T W A) (fl : FsLaws f) (cl : FamilyLaws c) (limits : Limits) (lane : ℕ) (refs refs' : RefBook) (objects objects' : ℕ) (old new : Base F) (lanes : List (Lane T W A)) (given : ℕ) (l : Lane T W A)
    (kept : Kept f c limits old refs lanes given) (at : IsAt lanes lane l) (v : View) (told_v : f.view old.fs ≡ Some v) where
  placed : (a n : ℕ) (r : Reply A) → IsTo lanes a n r → r.place ≤ length old.books.history.items
  placed a n r is = ((kept.each a is.0 is.1).replies n r is.2).2.within

  -- each reply is to a command
  commands_of : (l' : Lane T W A) (given' : ℕ) → Kept f c limits new refs' (set lanes lane l') given' → (a n : ℕ) (r : Reply A) → IsTo (set lanes lane l') a n r → (words : W) × IsCommand (set lanes lane l') a n words
  commands_of l' given' kept' a n r to = (let x = (kept'.each a to.0 to.1).replies n r to.2 in (x.0, (to.0, to.1, x.1)))

  -- it goes on
  module _ (l' : Lane T W A) (x : LaneActs f c limits lane lane refs refs' objects objects' old new l l' More) (kept' : Kept f c limits new refs' (set lanes lane l') given) where
    acts : Acts f limits lane lane refs refs' old new
    acts = more_acts f c fl cl limits lane refs refs' objects objects' old new lanes given l l' kept at x

    abbrev None_ : Reply A → W → Type 0
    None_ r words = ⊥

    split : (a n : ℕ) (r : Reply A) (words : W) → IsTo (set lanes lane l') a n r → IsCommand (set lanes lane l') a n words → IsTo lanes a n r ⊎ None_ r words
    split a n r words to is = inl (to_was lanes lane l l' at x.same x.replies a n r to)

    begin : task_start old.books.history.items l.task ≤ length old.books.history.items
    begin = start_within f c fl cl limits lane refs refs' objects objects' old new lanes given l l' kept at

    starts : (a n : ℕ) (r : Reply A) → IsTo lanes a n r → r.start ≤ length old.books.history.items
    starts = within f c fl cl limits lane refs refs' objects objects' old new lanes given l l' kept at

    history : new.books.history.items ≡ old.books.history.items
    history = more_history lane (length l.replies.items) (f.clock new.fs) old.books new.books (c.tasks.kind (told f c fl cl limits lane lane (length l.replies.items) refs refs' objects old new x.words l.task came.More x.did.0 x.did.3)) x.did.3.step.booked

    abbrev w : View
    w = (acts.does v told_v).0

    -- it has made a folder only where it had, or makes it here
    going : (name : Name) (r : Running T) → l'.task ≡ Some r → c.doing.made r.work name → IsMadeNow name v.now w.now ⊎ ((q : Running T) × (l.task ≡ Some q) × c.doing.made q.work name)
    going name r task made =
        let e : Some r ≡ Some (record { work = x.did.0; start = task_start old.books.history.items l.task }) = sym task ∙ x.did.1 in
        let one : r ≡ record { work = x.did.0; start = task_start old.books.history.items l.task } = cc in
        made_more f c fl cl limits lane (length l.replies.items) refs refs' objects old new x.words l.task v w told_v (acts.does v told_v).1 name x.did.0 x.did.3 (subst (λ (q : Running T). c.doing.made q.work name) one made)

    -- it has a command left
    still_has : length l'.replies.items < length l'.words.items
    still_has = omega (arith, ap (λ z. length z.items) x.replies, ap (λ z. length z.items) x.same, x.next.0)

    pub more_keeps : ActKeeps f c (record { base = old; lanes = lanes; limits = limits; objects = objects }) (record { base = new; lanes = set lanes lane l'; limits = limits; objects = objects' }) v
    unfolding acts
    more_keeps = record {
      lasts = λ opening is. lasts_on f c fl cl limits lane lane refs refs' objects objects' old new lanes (set lanes lane l') acts kept.sound.ordered (command_was lanes lane l l' at x.same) (length l.replies.items) _ begin None_ split (λ r words n. absurd n) starts v told_v opening
          (λ k e words at_k late of right. absurd (omega (arith, at_k.0, ap length history, late))) is;
      good = λ stored. (w, (acts.does v told_v).1, stored_more f c fl cl limits lane refs refs' objects objects' old new lanes given l kept at v told_v l' x stored);
      inside = λ stored was. record {
        unrefused = inside_on f c fl cl limits lane lane refs refs' objects objects' old new lanes (set lanes lane l') acts kept.sound.ordered (command_was lanes lane l l' at x.same) (length l.replies.items) _ begin None_ split (λ r words n. absurd n) starts v told_v
            (λ r words n. absurd n) (commands_of l' given kept') was.unrefused;
        seen = λ alone a n r to. was.seen (alone_more f c fl cl limits lane refs refs' objects objects' old new lanes given l kept at v told_v l' x alone) a n r (to_was lanes lane l l' at x.same x.replies a n r to);
      };
      folders = λ opening was. (
        w,
        (acts.does v told_v).1,
        record {
          made = made_still c.means c.doing lanes lane l l' at x.same x.words x.next (to_same lanes lane l l' at x.same x.replies) (c.doing.made x.did.0)
              (λ name made. inr (record { work = x.did.0; start = task_start old.books.history.items l.task }, running_here lanes lane l l' at x.same (length l.replies.items) _ (ap (λ z. length z.items) (sym x.replies)) x.did.1, made))
              (λ name r task made. made_goes f c cl limits lane lane (length l.replies.items) refs refs' objects old new x.words l.task x.did.0 x.did.3 v told_v name r task made)
              opening v w
              (λ name. ⊎_elim
              (λ same. inl same)
              (λ claims. inr (claims.0, (let k = x.did.3.step.tells v told_v in cl.commands.folders.made (told f c fl cl limits lane lane (length l.replies.items) refs refs' objects old new x.words l.task came.More x.did.0 x.did.3) x.did.0 v k.0 name k.2 claims.1)))
              (comes f c fl cl limits lane lane (length l.replies.items) refs refs' objects old new x.words l.task came.More x.did.0 x.did.3 v w told_v (acts.does v told_v).1 name))
              was.made;
          taken = λ a n q words name to is found. taken_stays c.means c.doing lanes lane l l' at x.same opening name a n (was.taken a n q words name (to_was lanes lane l l' at x.same x.replies a n q to) (command_was lanes lane l l' at x.same a n words is) found);
          clear = clear_on c.means c.doing lanes (set lanes lane l') lane (length l.replies.items) opening v.now w.now
              (stands_on (books_of old.books) v w lane lane (acts.does v told_v).2.writes)
              (λ name. made_going c.means c.doing lanes lane l l' at x.words x.next x.same name x.replies (IsMadeNow name v.now w.now) (going name))
              was.clear;
        },
      );
      counted = λ has. (w, (acts.does v told_v).1, counted_more f c fl cl limits lane refs refs' objects objects' old new lanes given l kept at v told_v l' x has);
      said = λ stored has. said_on f c fl cl limits lane lane refs refs' objects objects' old new lanes (set lanes lane l') acts kept.sound.ordered (command_was lanes lane l l' at x.same) (length l.replies.items) _ begin None_ split (λ r words n. absurd n) starts v told_v kept.sound (λ r words n. absurd n) placed;
      known = λ opening is. (w, (acts.does v told_v).1, known_more f c fl cl limits lane refs refs' objects objects' old new lanes given l kept at v told_v l' x opening is);
      boots = λ rows is. (w, (acts.does v told_v).1, list_still f fl limits lane lane refs refs' old new acts v told_v rows lanes (set lanes lane l') objects objects' is);
      stays = λ stored. staying_on f c fl cl limits lane lane refs refs' objects objects' old new lanes (set lanes lane l') acts kept.sound.ordered (command_was lanes lane l l' at x.same) (length l.replies.items) _ begin None_ split (λ r words n. absurd n) starts v told_v placed (λ r words n. absurd n);
      remains = λ was. (w, (acts.does v told_v).1, λ over. absurd (over lane (l', at_set lanes lane l' at.0, still_has)));
      founded = λ opening stored files. founded_on f c fl cl limits lane lane refs refs' objects objects' old new lanes (set lanes lane l') acts kept.sound.ordered (command_was lanes lane l l' at x.same) (length l.replies.items) _ begin None_ split (λ r words n. absurd n) starts v told_v opening files
          (λ r words n. absurd n) (commands_of l' given kept') placed (λ r words n. absurd n) (λ r words commit n sum. absurd n);
    }

  -- it has an answer
  module _ (l' : Lane T W A) (z : Ended A) (start : ℕ) (x : LaneActs f c limits lane lane refs refs' objects objects' old new l l' (Answered z start)) (l'' : Lane T W A) (r : Reply A) (same : l''.words ≡ l.words) (free : l''.task ≡ None) (grows : l''.replies.items ≡ l.replies.items ++ r ∷ [])
      (answered : r.answer ≡ z) (begun : r.start ≡ start) (place : r.place ≡ length new.books.history.items) (kept' : Kept f c limits new refs' (set lanes lane l'') (given + 1)) (order : r.order ≡ given) where
    acts_ : Acts f limits lane lane refs refs' old new
    acts_ = given_acts f c fl cl limits lane refs refs' objects objects' old new lanes given l l' kept at z start x

    g : Gives f c limits lane (length l.replies.items) objects old new x.words start z
    g = gives f c fl cl limits lane refs refs' objects objects' old new lanes given l l' kept at z start x

    is_start : start ≤ length old.books.history.items
    is_start = given_within f c fl cl limits lane refs refs' objects objects' old new lanes given l l' kept at z start x

    starts_ : (a n : ℕ) (q : Reply A) → IsTo lanes a n q → q.start ≤ length old.books.history.items
    starts_ = within f c fl cl limits lane refs refs' objects objects' old new lanes given l l' kept at

    -- the reply that it gave
    abbrev IsNew : Reply A → W → Type 0
    IsNew q words = (q ≡ r) × (words ≡ x.words)

    split_ : (a n : ℕ) (q : Reply A) (words : W) → IsTo (set lanes lane l'') a n q → IsCommand (set lanes lane l'') a n words → IsTo lanes a n q ⊎ IsNew q words
    split_ a n q words to is = ⊎_elim
        (λ before. inl before)
        (λ new_one. inr (
          new_one.2,
          (let was = command_was lanes lane l l'' at same a n words is in
              one_command lanes lane (length l.replies.items) words x.words (subst (λ i. IsCommand lanes lane i words) new_one.1 (subst (λ i. IsCommand lanes i n words) new_one.0 was)) (l, at, x.next)),
        ))
        (to_split lanes lane l l'' at same r grows a n q to)

    -- of that one
    of_new : (P : ℕ → W → Ended A → Type 0) → P start x.words z → (q : Reply A) (words : W) → IsNew q words → P q.start words q.answer
    of_new P is q words new_one = subst (λ (y : Reply A). P y.start words y.answer) (sym new_one.0)
        (subst (λ (d : W). P r.start d r.answer) (sym new_one.1) (subst (λ n. P n x.words r.answer) (sym begun) (subst (P start x.words) (sym answered) is)))

    shows_new : IsSoundStore limits v.now → (q : Reply A) (words : W) → IsNew q words → IfAnswer (λ a. c.means.shows (placed_at (since_in limits old.books q.start) (now_of old.books)) v a words) q.answer
    shows_new sound = of_new (λ n d y. IfAnswer (λ a. c.means.shows (placed_at (since_in limits old.books n) (now_of old.books)) v a d) y) (g.shown.0 v told_v sound)

    -- it tells of the view before the act
    says_now : IsSoundStore limits v.now → HasAsMany v.now objects → (q : Reply A) (words : W) → IsNew q words → SaysNow c.means (placed_at (since_in limits old.books q.start) (now_of old.books)) limits v (length old.books.history.items) q words
    says_now sound has q words n = record {
      shows = shows_new sound q words n;
      full = of_new (λ k d y. IfAnswer (λ a. c.means.full a → IsFull limits v.now) y) (full_by c.means.full limits objects v z has g.full) q words n;
      place = omega (arith, ap (λ (y : Reply A). y.place) n.0, place, longer lane lane old.books new.books acts_.books);
    }

    abbrev w_ : View
    w_ = (acts_.does v told_v).0

    outside_not : (y : Ended A) → Knows c.means (placed_at (since_in limits old.books start) (now_of new.books)) x.words y → ¬ (IsOutside y)
    outside_not (ended.Outside path) knows is = knows
    outside_not (ended.Answered a) knows is = is
    outside_not ended.NoMemory knows is = is
    outside_not ended.DiskFault knows is = is
    outside_not (ended.Halted n) knows is = is

    -- behind the act its reply is the last one
    last_remains : (a n : ℕ) (q : Reply A) (words : W) → IsTo (set lanes lane l'') a n q → IsCommand (set lanes lane l'') a n words → IsLast (set lanes lane l'') q → IfAnswer (λ a. c.means.remains (placed_at (since_in limits new.books q.start) (state_in new.books q.place)) w_ a words) q.answer
    last_remains a n q words to is last = ⊎_elim
        (λ before. absurd (let least = last lane (length l.replies.items) r (to_new lanes lane l l'' at same r grows) in omega (arith, least, order, kept.accounted.count, kept.accounted.numbered.below a n q before)))
        (λ one. subst (λ (p : SystemState). IfAnswer (λ b. c.means.remains (placed_at (since_in limits new.books q.start) p) w_ b words) q.answer) (sym (state_all new.books q.place (ap (λ (y : Reply A). y.place) one.0 ∙ place)))
        (subst (λ (s : Since). IfAnswer (λ b. c.means.remains (placed_at s (now_of new.books)) w_ b words) q.answer) (sym (since_is lane lane old.books new.books acts_.books limits q.start (omega (arith, ap (λ (y : Reply A). y.start) one.0, begun, is_start))))
        (of_new (λ k d y. IfAnswer (λ b. c.means.remains (placed_at (since_in limits old.books k) (now_of new.books)) w_ b d) y) (g.remains v w_ told_v (acts_.does v told_v).1) q words one)))
        (split_ a n q words to is)

    -- its change is its command's
    lasts_new : (opening : View) → IsRightSince opening v → (k : ℕ) (e : Entry) (words : W) → IsAt new.books.history.items k e → length old.books.history.items ≤ k → IsCommand (set lanes lane l'') e.lane e.command words
        → c.means.changes (since_in limits old.books start) words e.event × c.means.keeps (since_in limits old.books start) opening [] words w_
    lasts_new opening right k e words at_k late of =
        let its : (e.lane ≡ lane) × (e.command ≡ length l.replies.items) = ⊎_elim
        (λ none. absurd (let there = subst (λ (h : List Entry). IsAt h k e) none.0 at_k in omega (arith, there.0, late)))
        (λ one. ⊎_elim
        (λ before. absurd (omega (arith, before.0, late)))
        (λ here. (
          ap (λ (y : Entry). y.lane) here.1 ∙ one.2,
          ap (λ (y : Entry). y.command) here.1 ∙ one.3,
        ))
        (at_split old.books.history.items one.0 e k (subst (λ (h : List Entry). IsAt h k e) one.1 at_k)))
        g.grows in
        let was = command_was lanes lane l l'' at same e.lane e.command words of in
        let same_words : words ≡ x.words = one_command lanes lane (length l.replies.items) words x.words (subst (λ i. IsCommand lanes lane i words) its.1 (subst (λ i. IsCommand lanes i e.command words) its.0 was)) (l, at, x.next) in
        let y = g.kept opening v w_ told_v (acts_.does v told_v).1 right k e at_k late in
        (subst (λ (d : W). c.means.changes (since_in limits old.books start) d e.event) (sym same_words) y.0, subst (λ (d : W). c.means.keeps (since_in limits old.books start) opening [] d w_) (sym same_words) y.1)

    -- a folder comes only where the last step claimed it; at once nothing comes
    comes_new : (name : Name) → (shows w_.now (checkout_path name) ≡ shows v.now (checkout_path name)) ⊎ (c.means.claims x.words name × Unit {0})
    comes_new name = ⊎_elim
        (λ once. (let same_view = subst (λ (b : Base F). f.view b.fs ≡ Some w_) once.0 (acts_.does v told_v).1 in
        let one : Some v ≡ Some w_ = sym told_v ∙ same_view in
        let e : v ≡ w_ = cc in
        inl (ap (λ (u : View). shows u.now (checkout_path name)) (sym e))))
        (λ over. ⊎_elim
        (λ still. inl still)
        (λ claims. inr (claims.0, tt))
        (comes f c fl cl limits lane lane (length l.replies.items) refs refs' objects old new x.words l.task over.0 over.1 over.4 v w_ told_v (acts_.does v told_v).1 name))
        x.did.3

    -- what it says to stand in the way is taken
    in_the_way : (name : Name) → OfAnswer (λ a. c.means.finds a x.words name) z → (shows v.now (checkout_path name) ≢ Vacant) × ((m : Running T) → l.task ≡ Some m → c.doing.made m.work name → ⊥)
    in_the_way name found = ⊎_elim
        (λ once. absurd (none_in_the_way f c.means limits old x.words l.task z once.1 name found))
        (λ over. stands_in_the_way f c fl cl limits lane lane (length l.replies.items) refs refs' objects old new x.words l.task over.0 over.1 over.4 v w_ told_v (acts_.does v told_v).1 z over.3 name found)
        x.did.3

    taken_of : (opening : Disk) → AreFolders c.means c.doing opening (record { base = old; lanes = lanes; limits = limits; objects = objects }) v → (a n : ℕ) (q : Reply A) (words : W) (name : Name)
        → IsTo (set lanes lane l'') a n q → IsCommand (set lanes lane l'') a n words → OfAnswer (λ a. c.means.finds a words name) q.answer → IsTaken c.means lanes opening name a n
    taken_of opening was a n q words name to is found =
        let before = command_was lanes lane l l'' at same a n words is in
        ⊎_elim
        (λ old_one. was.taken a n q words name old_one before found)
        (λ new_one.
        (let its : words ≡ x.words = one_command lanes lane (length l.replies.items) words x.words (subst (λ i. IsCommand lanes lane i words) new_one.1 (subst (λ i. IsCommand lanes i n words) new_one.0 before)) (l, at, x.next) in
        let said : OfAnswer (λ a. c.means.finds a x.words name) z = subst (OfAnswer (λ a. c.means.finds a x.words name)) (ap (λ (y : Reply A). y.answer) new_one.2 ∙ answered) (subst (λ (d : W). OfAnswer (λ a. c.means.finds a d name) q.answer) its found) in
        subst (λ i. IsTaken c.means lanes opening name i n) (sym new_one.0) (subst (λ i. IsTaken c.means lanes opening name lane i) (sym new_one.1) (taken_by c.means c.doing lanes lane l l'' at same opening v name was.made (in_the_way name said)))))
        (to_split lanes lane l l'' at same r grows a n q to)

    -- who says that it made a folder had made it
    had_made : (name : Name) → OfAnswer (λ a. c.means.checks_out a x.words name) z → (q : Running T) × (l.task ≡ Some q) × c.doing.made q.work name
    had_made name said = ⊎_elim
        (λ once. absurd (none_made f c cl limits old x.words l.task z once.1 name said))
        (λ over. made_ended f c fl cl limits lane (length l.replies.items) refs refs' objects old new x.words l.task v w_ told_v (acts_.does v told_v).1 name over.0 over.1 z (f.refused new.fs) over.4 over.3 said)
        x.did.3

    sound_of : AreStored f c.means (record { base = old; lanes = lanes; limits = limits; objects = objects }) v → IsSoundStore limits v.now
    sound_of stored = sound_given f c fl cl limits lane refs refs' objects objects' old new lanes given l kept at v told_v l' z start x l'' r same grows begun stored

    -- where the store is good no answer tells otherwise
    seen_given : AreStored f c.means (record { base = old; lanes = lanes; limits = limits; objects = objects }) v → NoExternalChange f c.means (record { base = old; lanes = lanes; limits = limits; objects = objects })
        → ((u : View) → f.was new.fs new.books.opened u → NoHashCollisionOn (WasBrought c.means (record { base = new; lanes = set lanes lane l''; limits = limits; objects = objects' })) u.now) → (a n : ℕ) (q : Reply A) → IsTo (set lanes lane l'') a n q → ¬ (OfAnswer c.means.outside q.answer)
    seen_given stored was alone a n q to is = ⊎_elim
        (λ before. was.seen (alone_given f c fl cl limits lane refs refs' objects objects' old new lanes given l kept at v told_v l' z start x l'' r same grows begun alone) a n q before is)
        (λ new_one.
        (let answer = is_answer c.means.outside q.answer is in
        let shown = shows_new (sound_of stored) q x.words (new_one.2, refl) in
        no_outside_given f c fl cl limits lane refs refs' objects objects' old new lanes given l kept at v told_v l' z start x l'' r same grows begun stored alone q.start answer.0 (subst (IfAnswer (λ y. c.means.shows (placed_at (since_in limits old.books q.start) (now_of old.books)) v y x.words)) answer.1 shown) answer.2))
        (to_split lanes lane l l'' at same r grows a n q to)

    pub given_keeps : ActKeeps f c (record { base = old; lanes = lanes; limits = limits; objects = objects }) (record { base = new; lanes = set lanes lane l''; limits = limits; objects = objects' }) v
    unfolding acts_
    given_keeps = record {
      lasts = λ opening is. lasts_on f c fl cl limits lane lane refs refs' objects objects' old new lanes (set lanes lane l'') acts_ kept.sound.ordered (command_was lanes lane l l'' at same) (length l.replies.items) start is_start IsNew split_ (λ q words n. ap (λ (y : Reply A). y.start) n.0 ∙ begun) starts_ v told_v opening
          (λ k e words at_k late of right. lasts_new opening right k e words at_k late of) is;
      good = λ stored. (w_, (acts_.does v told_v).1, stored_given f c fl cl limits lane refs refs' objects objects' old new lanes given l kept at v told_v l' z start x l'' r same grows begun stored);
      inside = λ stored was. record {
        unrefused = inside_on f c fl cl limits lane lane refs refs' objects objects' old new lanes (set lanes lane l'') acts_ kept.sound.ordered (command_was lanes lane l l'' at same) (length l.replies.items) start is_start IsNew split_ (λ q words n. ap (λ (y : Reply A). y.start) n.0 ∙ begun) starts_ v told_v
            (of_new (λ n d y. ¬ (IsOutside y)) (outside_not z (g.known (old.fs, v, told_v)))) (commands_of l'' (given + 1) kept') was.unrefused;
        seen = seen_given stored was;
      };
      folders = λ opening was. (
        w_,
        (acts_.does v told_v).1,
        record {
          made = made_still c.means c.doing lanes lane l l'' at same x.words x.next (to_stays lanes lane l l'' at same r grows) (λ name. Unit {0})
              (λ name made. inl (r, to_new lanes lane l l'' at same r grows))
              (λ name q task made. tt)
              opening v w_ comes_new was.made;
          taken = λ a n q words name to is found. taken_stays c.means c.doing lanes lane l l'' at same opening name a n (taken_of opening was a n q words name to is found);
          clear = clear_on c.means c.doing lanes (set lanes lane l'') lane (length l.replies.items) opening v.now w_.now
              (stands_on (books_of old.books) v w_ lane lane (acts_.does v told_v).2.writes)
              (λ name a n is. inl (made_over c.means c.doing lanes lane l l'' at x.words x.next same name free r grows (λ said. had_made name (subst (OfAnswer (λ b. c.means.checks_out b x.words name)) answered said)) a n is))
              was.clear;
        },
      );
      counted = λ has. (w_, (acts_.does v told_v).1, counted_given f c fl cl limits lane refs refs' objects objects' old new lanes given l kept at v told_v l' z start x l'' r same grows begun has);
      said = λ stored has. said_on f c fl cl limits lane lane refs refs' objects objects' old new lanes (set lanes lane l'') acts_ kept.sound.ordered (command_was lanes lane l l'' at same) (length l.replies.items) start is_start IsNew split_ (λ q words n. ap (λ (y : Reply A). y.start) n.0 ∙ begun) starts_ v told_v kept.sound (says_now (sound_of stored) has) placed;
      known = λ opening is. (w_, (acts_.does v told_v).1, known_given f c fl cl limits lane refs refs' objects objects' old new lanes given l kept at v told_v l' z start x l'' r same grows begun opening is);
      boots = λ rows is. (w_, (acts_.does v told_v).1, list_still f fl limits lane lane refs refs' old new acts_ v told_v rows lanes (set lanes lane l'') objects objects' is);
      stays = λ stored. staying_on f c fl cl limits lane lane refs refs' objects objects' old new lanes (set lanes lane l'') acts_ kept.sound.ordered (command_was lanes lane l l'' at same) (length l.replies.items) start is_start IsNew split_ (λ q words n. ap (λ (y : Reply A). y.start) n.0 ∙ begun) starts_ v told_v placed
          (of_new (λ n d y. IfAnswer (λ a. c.means.stays (since_in limits old.books n) [] a d w_ (books_of new.books)) y) (g.stays v w_ told_v (acts_.does v told_v).1 (sound_of stored)));
      remains = λ was. (w_, (acts_.does v told_v).1, λ over. last_remains);
      founded = λ opening stored files. founded_on f c fl cl limits lane lane refs refs' objects objects' old new lanes (set lanes lane l'') acts_ kept.sound.ordered (command_was lanes lane l l'' at same) (length l.replies.items) start is_start IsNew split_ (λ q words n. ap (λ (y : Reply A). y.start) n.0 ∙ begun) starts_ v told_v opening files
          (shows_new (sound_of stored)) (commands_of l'' (given + 1) kept') placed (λ q words n. ap (λ (y : Reply A). y.place) n.0 ∙ place)
          (λ q words commit n sum lacks. g.alone v told_v commit sum (subst (OfAnswer (λ a. c.means.lacks a commit)) (ap (λ (y : Reply A). y.answer) n.0 ∙ answered) lacks));
    }

-- so it is of a whole act
pub preserves_by : {F T W A : Type 0} (f : FsSpec F) (c : Family T W A) (s s' : System F T W A) → ((v : View) → f.view s.base.fs ≡ Some v → ActKeeps f c s s' v) → ((before : ℕ) → AreCaused f.faults before s → AreCaused f.faults before s') → Preserves f c s s'
preserves_by f c s s' keeps caused = record {
  lasts = λ opening v told is. (keeps v told).lasts opening is;
  good = λ v told is. (keeps v told).good is;
  caused = caused;
  inside = λ v told stored is. (keeps v told).inside stored is;
  folders = λ opening v told is. (keeps v told).folders opening is;
  counted = λ v told is. (keeps v told).counted is;
  said = λ v told stored has is. (keeps v told).said stored has is;
  stays = λ v told stored is. (keeps v told).stays stored is;
  remains = λ v told is. (keeps v told).remains is;
  founded = λ opening v told stored is. (keeps v told).founded opening stored (stands_files s.limits (WasBrought c.means s) IsConfigured stored.names v stored.keeps.now) is;
  known = λ opening v told is. (keeps v told).known opening is;
  boots = λ rows v told is. (keeps v told).boots rows is;
}

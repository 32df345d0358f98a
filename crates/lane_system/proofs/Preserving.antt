-- What an act keeps of what was so since the opening.
use Rattle.std.proofs.Common.{◌≡◌, ◌⊎◌, ⊎_elim, ◌<◌, ◌≤◌, ◌+◌, ℕ, zero, suc, sym, ◌∙◌, ap, subst, arith, List, [], ◌∷◌, ◌++◌, length, Contains, Some, refl}
use Rattle.std.proofs.lemmas.List.Elements.{Contains-append_cases, Contains-append_right}
use Rattle.ost_types.specs.declared.limits.Limits.{Limits}
use Rattle.ost_types.specs.declared.object.Kind.TheVariants.{Commit}
use Rattle.ost_types.specs.declared.object.ObjName.{ObjName}
use Rattle.fs_trait.specs.Change.{Left}
use Rattle.fs_trait.specs.Image.{Image, Told}
use Rattle.fs_trait.specs.View.{Disk, View}
use Rattle.repo_model.specs.Trees.{name_of}
use Rattle.rely_guarantee.specs.declared.books.Start.{Start}
use Rattle.rely_guarantee.specs.declared.books.Base.{Base}
use Rattle.rely_guarantee.specs.declared.books.Entry.{Entry}
use Rattle.rely_guarantee.specs.declared.event.Event.{Event}
use Rattle.rely_guarantee.specs.declared.event.Event.TheVariants.{SetRef, DropRef, Pruned, SetDeployments}
use Rattle.rely_guarantee.specs.Books.{books_of}
use Rattle.rely_guarantee.specs.Lasting.{Outlasts, StaysFinished, StaysOn}
use Rattle.rely_guarantee.specs.Rely.{Interference}
use Rattle.repo_layout.specs.RefFile.{IsSum}
use Rattle.rely_guarantee.specs.State.{IsRun, IsValid, SystemState, events_of, next, pending_of, stored, opening_state}
use Rattle.rely_guarantee.specs.SystemInvariant.{Ordered, SystemInvariant}
use Rattle.rely_guarantee.proofs.Finished.{finished_stays}
use Rattle.rely_guarantee.proofs.Lasting.{none_out, stays_image}
use Rattle.ref_book.specs.declared.book.RefBook.{RefBook}
use Rattle.durable_store.specs.Full.{IsFull}
use Rattle.command.specs.CommitFiles.{CommitsAreFiles}
use Rattle.command.specs.ChangeLaws.{Founds, IsRightSince}
use Rattle.command.specs.Meaning.{Meaning}
use Rattle.command.specs.Removed.{AreAmong, RemovesOnly}
use Rattle.command.specs.Removing.{IsPrune}
use Rattle.command.specs.Since.{Since, begun_in, placed}
use Rattle.lane_system.specs.declared.lane.Lane.{Lane}
use Rattle.lane_system.specs.declared.lane.Reply.{Reply}
use Rattle.lane_system.specs.Acts.{Acts, ComesFrom}
use Rattle.lane_system.specs.Family.{Family, FsSpec}
use Rattle.lane_system.specs.Founded.{RefsNameDurableCommits, IsOut, Sets}
use Rattle.lane_system.specs.Inside.{AreUnrefused}
use Rattle.lane_system.specs.Lanes.{IsAt, IsCommand, IsTo}
use Rattle.lane_system.specs.Lasting.{AreKept, IsChangeKept}
use Rattle.lane_system.specs.Removals.{gone_since, removed_in, swept_in}
use Rattle.lane_system.specs.Replies.{IfAnswer, IsOutside, OfAnswer}
use Rattle.lane_system.specs.Said.{RepliesHeldAtAPoint, WasSeen}
use Rattle.lane_system.specs.States.{now_of, since_in, state_in}
use Rattle.lane_system.specs.Staying.{AreStaying}
use Rattle.lane_system.specs.System.{System}
use Rattle.lane_system.proofs.Family.{FamilyLaws, FsLaws}
use Rattle.lane_system.proofs.Giving.{if_answer, is_answer}
use Rattle.lane_system.proofs.Moments.{moment_by, opened_by}
use Rattle.lane_system.proofs.Prefixes.{since_is, state_all, state_is}
use Rattle.lane_system.proofs.Removals.{gone_on, none_among, removed_before}
use Rattle.lane_system.proofs.RefsSeen.{sees_now, sees_stay}

-- a commit that a change sets its ref to lasts
pub set_lasts : (v : View) (commit : List ℕ) (e : Event) → Founds v e → Sets commit e → StaysFinished v commit
set_lasts v commit (SetRef name seen to) founds sets = subst (StaysFinished v) sets founds
set_lasts v commit (DropRef name seen) founds sets = absurd sets
set_lasts v commit (Pruned depth roots held removed) founds sets = absurd sets
set_lasts v commit (SetDeployments change list) founds sets = absurd sets

sets_sum : (commit : List ℕ) (e : Event) → Sets commit e → IsValid e → IsSum commit
sets_sum commit (SetRef name seen to) sets valid = subst IsSum sets valid.1
sets_sum commit (DropRef name seen) sets valid = absurd sets
sets_sum commit (Pruned depth roots held removed) sets valid = absurd sets
sets_sum commit (SetDeployments change list) sets valid = absurd sets

-- each change of the history can be
valid_at : (entries : List Entry) (more : List Event) (s : SystemState) (k : ℕ) (e : Entry) → IsRun (events_of entries ++ more) s → IsAt entries k e → IsValid e.event
valid_at [] more s k e run at = absurd (omega (arith, at.0))
valid_at (x ∷ rest) more s zero e run at = subst (λ (y : Entry). IsValid y.event) at.1 run.0.valid
valid_at (x ∷ rest) more s (suc k) e run at = valid_at rest more (next x.event s) k e run.1 (omega (arith, at.0), at.1)

-- no change that sets a ref removes objects
sets_no_prune : (commit : List ℕ) (e : Event) → Sets commit e → IsPrune e → ⊥
sets_no_prune commit (SetRef name seen to) sets prune = prune
sets_no_prune commit (DropRef name seen) sets prune = sets
sets_no_prune commit (Pruned depth roots held removed) sets prune = sets
sets_no_prune commit (SetDeployments change list) sets prune = sets

-- A reply that an act gives tells of the view before it; its place is no earlier than all changes that lasted there.
pub record SaysNow {W A : Type 0} (m : Meaning W A) (since : Since) (limits : Limits) (v : View) (past : ℕ) (r : Reply A) (words : W) : Type 0 where
  pub shows : IfAnswer (λ a. m.shows since v a words) r.answer
  pub full : IfAnswer (λ a. m.full a → IsFull limits v.now) r.answer
  pub place : past ≤ r.place

-- One act of one lane: the replies of the lanes behind it are those of before, or the one that it gave.
module _ {F T W A : Type 0} (f : FsSpec F) (c : Family T W A) (fl : FsLaws f) (cl : FamilyLaws c) (limits : Limits) (actor lane : ℕ) (refs refs' : RefBook) (objects objects' : ℕ) (old new : Base F) (lanes lanes' : List (Lane T W A))
    (acts : Acts f limits actor lane refs refs' old new) (ordered : Ordered f.clock f.spare old)
    (commands : (a n : ℕ) (words : W) → IsCommand lanes' a n words → IsCommand lanes a n words) (number start : ℕ) (early : start ≤ length old.books.history.items)
    (IsNew : Reply A → W → Type 0) (split : (a n : ℕ) (r : Reply A) (words : W) → IsTo lanes' a n r → IsCommand lanes' a n words → IsTo lanes a n r ⊎ IsNew r words) (its_start : (r : Reply A) (words : W) → IsNew r words → r.start ≡ start)
    (within : (a n : ℕ) (r : Reply A) → IsTo lanes a n r → r.start ≤ length old.books.history.items)
    (v : View) (told : f.view old.fs ≡ Some v) where
  abbrev pub before : System F T W A
  before = record { base = old; lanes = lanes; limits = limits; objects = objects }

  abbrev pub behind : System F T W A
  behind = record { base = new; lanes = lanes'; limits = limits; objects = objects' }

  abbrev pub w : View
  w = (acts.does v told).0

  pub told_w : f.view new.fs ≡ Some w
  told_w = (acts.does v told).1

  does : Interference actor lane v (books_of old.books) w (books_of new.books)
  does = (acts.does v told).2

  out : Outlasts acts.out f.clock f.was old.fs new.fs v w
  out =
      let l = acts.lasts v told in
      let one : Some l.0 ≡ Some w = sym l.1 ∙ told_w in
      let e : l.0 ≡ w = cc in
      subst (Outlasts acts.out f.clock f.was old.fs new.fs v) e l.2

  since_same : (n : ℕ) → n ≤ length old.books.history.items → since_in limits new.books n ≡ since_in limits old.books n
  since_same n le = since_is actor lane old.books new.books acts.books limits n le

  state_same : (n : ℕ) → n ≤ length old.books.history.items → state_in new.books n ≡ state_in old.books n
  state_same n le = state_is actor lane old.books new.books acts.books n le

  entry_was : (n : ℕ) (e : Entry) → IsAt new.books.history.items n e → n < length old.books.history.items → IsAt old.books.history.items n e
  entry_was n e at lt = ⊎_elim (λ was. was) (λ late. absurd (omega (arith, late.0, lt))) (acts.moments n e at)

  -- ---- what was removed

  abbrev gone_before : ℕ → List ObjName
  gone_before k = gone_since old.books.history.items (swept_in old.books) k

  abbrev gone_now : ℕ → List ObjName
  gone_now k = gone_since new.books.history.items (swept_in new.books) k

  only_grows : (k : ℕ) → k ≤ length old.books.history.items → AreAmong (gone_before k) (gone_now k)
  only_grows k le = subst (λ (h : List Entry). AreAmong (gone_before k) (gone_since h (swept_in new.books) k)) (sym acts.books.grows) (gone_on old.books.history.items acts.books.more k (swept_in old.books) (swept_in new.books) acts.removal.still le)

  -- what the act removed is gone since any change
  taken_now : (k : ℕ) → AreAmong acts.out (gone_now k)
  taken_now k o has = Contains-append_right (removed_in new.books.history.items k (length new.books.history.items)) (swept_in new.books) o (acts.removal.told o has)

  with_taken : (k : ℕ) → k ≤ length old.books.history.items → AreAmong (acts.out ++ gone_before k) (gone_now k)
  with_taken k le o has = ⊎_elim (λ took. taken_now k o took) (λ was. only_grows k le o was) (Contains-append_cases acts.out (gone_before k) o has)

  removed_same : (from to : ℕ) → to ≤ length old.books.history.items → removed_in new.books.history.items from to ≡ removed_in old.books.history.items from to
  removed_same from to le = ap (λ (h : List Entry). removed_in h from to) acts.books.grows ∙ removed_before old.books.history.items acts.books.more from to le

  -- where no removal goes on the changes before the end tell all that is gone
  told_at_end : swept_in new.books ≡ [] → (k place : ℕ) → k ≤ length old.books.history.items → place ≡ length new.books.history.items → AreAmong (gone_before k) (removed_in new.books.history.items k place)
  told_at_end none k place le at o has = ⊎_elim
      (λ entered. subst (λ n. Contains (removed_in new.books.history.items k n) o) (sym at) entered)
      (λ swept. absurd (none_out o (subst (λ (l : List ObjName). Contains l o) none swept)))
      (Contains-append_cases (removed_in new.books.history.items k (length new.books.history.items)) (swept_in new.books) o (only_grows k le o has))

  only : RemovesOnly acts.out v w
  only =
      let k = acts.removal.only v told in
      let e : Some k.0 ≡ Some w = sym k.1 ∙ told_w in
      let one : k.0 ≡ w = cc in
      subst (RemovesOnly acts.out v) one k.2

  -- what replies say of the disk
  abbrev pub WasSeenIn : Base F → Reply A → W → Type 0
  WasSeenIn base r words = WasSeen c.means (f.was base.fs) base.books.opened limits (opening_state base.books.start) base.books.history.items base.books.pending r words

  still_seen : (r : Reply A) (words : W) → r.start ≤ length old.books.history.items → (x : WasSeenIn old r words) → x.place ≤ length old.books.history.items → WasSeenIn new r words
  still_seen r words le x short = record {
    moment = x.moment;
    shown = x.shown;
    since = omega (arith, acts.books.opened, x.since);
    begun = λ k e at lt. x.begun k e (entry_was k e at (omega (arith, lt, le))) lt;
    had = acts.time.keeps x.moment x.shown (fl.is.bound old.fs x.moment x.shown x.had) x.had;
    place = x.place;
    from = x.from;
    to = x.to;
    refs = sees_stay (opening_state old.books.start) (opening_state new.books.start) (stored old.books.history.items old.books.pending) (stored new.books.history.items new.books.pending) acts.grows.0 x.place x.shown.now
        (ap (λ (s : Start). opening_state s) acts.books.start) acts.grows.1 x.refs;
    seen = subst (λ (p : SystemState). IfAnswer (λ a. c.means.shows (placed (since_in limits new.books r.start) p) x.shown a words) r.answer) (sym (state_same x.place short))
        (subst (λ (s : Since). IfAnswer (λ a. c.means.shows (placed s (state_in old.books x.place)) x.shown a words) r.answer) (sym (since_same r.start le)) x.seen);
    full = x.full;
  }

  module _ (sound : SystemInvariant f.view f.clock f.spare f.was old) (says : (r : Reply A) (words : W) → IsNew r words → SaysNow c.means (placed (since_in limits old.books r.start) (now_of old.books)) limits v (length old.books.history.items) r words) where
    seen_now : (r : Reply A) (words : W) → IsNew r words → WasSeenIn old r words
    seen_now r words given =
        let said = says r words given in
        record {
          moment = f.clock old.fs;
          shown = v;
          since = opened_by old.books.opened old.books.history.items (f.clock old.fs) ordered.ascends;
          begun = λ k e at lt. moment_by old.books.opened old.books.history.items (f.clock old.fs) ordered.ascends k e at;
          had = fl.counts_now old.fs (f.clock old.fs) v (omega arith) told;
          place = length old.books.history.items;
          from = omega (arith, its_start r words given, early);
          to = said.place;
          refs = sees_now f fl old sound v told;
          seen = subst (λ (p : SystemState). IfAnswer (λ a. c.means.shows (placed (since_in limits old.books r.start) p) v a words) r.answer) (sym (state_all old.books (length old.books.history.items) refl)) said.shows;
          full = said.full;
        }

    place_now : (r : Reply A) (words : W) (given : IsNew r words) → (seen_now r words given).place ≡ length old.books.history.items
    unfolding seen_now
    place_now r words given = refl

    pub said_on : ((a n : ℕ) (r : Reply A) → IsTo lanes a n r → r.place ≤ length old.books.history.items) → RepliesHeldAtAPoint c.means f.was before → RepliesHeldAtAPoint c.means f.was behind
    said_on ends said a n r words to is = ⊎_elim
        (λ was. (let x = said a n r words was (commands a n words is) in still_seen r words (within a n r was) x (omega (arith, x.to, ends a n r was))))
        (λ given. still_seen r words (omega (arith, its_start r words given, early)) (seen_now r words given) (omega (arith, place_now r words given)))
        (split a n r words to is)

  -- what they left outside of the store
  pub staying_on : ((a n : ℕ) (r : Reply A) → IsTo lanes a n r → r.place ≤ length old.books.history.items) → ((r : Reply A) (words : W) → IsNew r words → IfAnswer (λ a. c.means.stays (since_in limits old.books r.start) [] a words w (books_of new.books)) r.answer)
      → AreStaying c.means before v → Told (f.view new.fs) (λ u. AreStaying c.means behind u)
  staying_on placed new_one was = (
    w,
    told_w,
    λ a n r words to is. ⊎_elim
        (λ there. here r words (within a n r there) (on r words (placed a n r there) (was a n r words there (commands a n words is))))
        (λ given. here r words (omega (arith, its_start r words given, early)) (at_first r words (new_one r words given)))
        (split a n r words to is),
  )
    where
      since : Reply A → Since
      since r = since_in limits old.books r.start

      here : (r : Reply A) (words : W) → r.start ≤ length old.books.history.items → IfAnswer (λ x. c.means.stays (since r) (gone_now r.place) x words w (books_of new.books)) r.answer
          → IfAnswer (λ x. c.means.stays (since_in limits new.books r.start) (gone_now r.place) x words w (books_of new.books)) r.answer
      here r words le = subst (λ (s : Since). IfAnswer (λ x. c.means.stays s (gone_now r.place) x words w (books_of new.books)) r.answer) (sym (since_same r.start le))

      on : (r : Reply A) (words : W) → r.place ≤ length old.books.history.items → IfAnswer (λ x. c.means.stays (since r) (gone_before r.place) x words v (books_of old.books)) r.answer → IfAnswer (λ x. c.means.stays (since r) (gone_now r.place) x words w (books_of new.books)) r.answer
      on r words le so = if_answer _ r.answer (λ x is. cl.commands.answers.stays_wider (since r) (acts.out ++ gone_before r.place) (gone_now r.place) x words w (books_of new.books) (with_taken r.place le)
          (cl.commands.answers.stays (since r) actor lane (gone_before r.place) acts.out x words v w (books_of old.books) (books_of new.books) does only (subst (IfAnswer _) is so)))

      at_first : (r : Reply A) (words : W) → IfAnswer (λ x. c.means.stays (since r) [] x words w (books_of new.books)) r.answer → IfAnswer (λ x. c.means.stays (since r) (gone_now r.place) x words w (books_of new.books)) r.answer
      at_first r words so = if_answer _ r.answer (λ x is. cl.commands.answers.stays_wider (since r) [] (gone_now r.place) x words w (books_of new.books) (none_among (gone_now r.place)) (subst (IfAnswer _) is so))

  pub inside_on : ((r : Reply A) (words : W) → IsNew r words → ¬ (IsOutside r.answer)) → ((a n : ℕ) (r : Reply A) → IsTo lanes' a n r → (words : W) × IsCommand lanes' a n words) → AreUnrefused lanes → AreUnrefused lanes'
  inside_on new_one has was a n r to is = (let x = has a n r to in ⊎_elim (λ there. was a n r there is) (λ given. new_one r x.0 given is) (split a n r x.0 to x.1))

  -- what the changes made
  pub lasts_on : (opening : View) → ((k : ℕ) (e : Entry) (words : W) → IsAt new.books.history.items k e → length old.books.history.items ≤ k → IsCommand lanes' e.lane e.command words → IsRightSince opening v → c.means.changes (since_in limits old.books start) words e.event × c.means.keeps (since_in limits old.books start) opening [] words w)
      → AreKept c.means f.was opening before v → Told (f.view new.fs) (λ u. AreKept c.means f.was opening behind u)
  lasts_on opening new_one was = (
    w,
    told_w,
    record {
      right = λ name is. out.now.right name (was.right name is);
      each = λ k e words at is. ⊎_elim
          (λ there. on k e words there (was.each k e words there (commands e.lane e.command words is)))
          (λ late. (let x = new_one k e words at late.0 is was.right in record {
            start = state_in old.books start;
            makes = x.0;
            now = cl.commands.changes.keeps_wider (since_in limits old.books start) opening [] (gone_now (k + 1)) words w (none_among (gone_now (k + 1))) x.1;
            since = λ t d le left. cl.commands.changes.keeps_on_wider (since_in limits old.books start) opening [] (gone_now (k + 1)) words d (none_among (gone_now (k + 1)))
                (cl.commands.changes.keeps_on (since_in limits old.books start) opening [] [] words w d (image_of t d (omega (arith, le, late.1)) left) x.1);
          }))
          (acts.moments k e at);
    },
  )
    where
      on : (k : ℕ) (e : Entry) (words : W) → IsAt old.books.history.items k e → IsChangeKept c.means (f.was old.fs) opening limits old.books.history.items (swept_in old.books) k e words v
          → IsChangeKept c.means (f.was new.fs) opening limits new.books.history.items (swept_in new.books) k e words w
      on k e words at x =
          let since = begun_in limits x.start in
          let grows = only_grows (k + 1) (omega (arith, at.0)) in
          let taken = with_taken (k + 1) (omega (arith, at.0)) in
          record {
            start = x.start;
            makes = x.makes;
            now = cl.commands.changes.keeps_wider since opening (acts.out ++ gone_before (k + 1)) (gone_now (k + 1)) words w taken (cl.commands.changes.keeps since opening (gone_before (k + 1)) acts.out words v w was.right out.now x.now);
            since = λ t d le left. ⊎_elim
                (λ earlier. cl.commands.changes.keeps_on_wider since opening (gone_before (k + 1)) (gone_now (k + 1)) words d grows (x.since t d le earlier))
                (λ later. cl.commands.changes.keeps_on_wider since opening (acts.out ++ gone_before (k + 1)) (gone_now (k + 1)) words d taken (cl.commands.changes.keeps_on since opening (gone_before (k + 1)) acts.out words v d later x.now))
                (out.earlier t d left);
          }

      image_of : (t : ℕ) (d : Disk) → f.clock new.fs ≤ t → Left (f.was new.fs) t d → StaysOn [] w d
      image_of t d le left =
          let is = fl.is.only_now new.fs t left.0 le left.1 in
          let one : Some w ≡ Some left.0 = sym told_w ∙ is in
          let e : left.0 ≡ w = cc in
          stays_image w d (subst (λ u. Image u d) e left.2)

  -- and which commits are there
  pub founded_on : (opening : View) → CommitsAreFiles v.now → ((r : Reply A) (words : W) → IsNew r words → IfAnswer (λ a. c.means.shows (placed (since_in limits old.books r.start) (now_of old.books)) v a words) r.answer) → ((a n : ℕ) (r : Reply A) → IsTo lanes' a n r → (words : W) × IsCommand lanes' a n words)
      → ((a n : ℕ) (r : Reply A) → IsTo lanes a n r → r.place ≤ length old.books.history.items) → ((r : Reply A) (words : W) → IsNew r words → r.place ≡ length new.books.history.items) → ((r : Reply A) (words : W) (commit : List ℕ) → IsNew r words → IsSum commit → OfAnswer (λ a. c.means.lacks a commit) r.answer → swept_in new.books ≡ [])
      → RefsNameDurableCommits c.means opening before v → Told (f.view new.fs) (λ u. RefsNameDurableCommits c.means opening behind u)
  founded_on opening files new_one has places ends alone was = (
    w,
    told_w,
    record {
      stays = λ commit still is. on commit (λ took. still (taken_now 0 (name_of Commit commit) took)) (was.stays commit (λ gone. still (only_grows 0 (omega arith) (name_of Commit commit) gone)) is);
      each = λ k e at commit sets still. on commit (λ took. still (taken_now (k + 1) (name_of Commit commit) took)) (set_before k e at commit sets (λ there gone. still (only_grows (k + 1) (omega (arith, there.0)) (name_of Commit commit) gone)));
      shown = λ p is commit sets still. on commit (λ took. sets_no_prune commit p.event sets (acts.removal.prunes (name_of Commit commit) took p is)) (⊎_elim (λ before. was.shown p before commit sets still) (λ founds. set_lasts v commit p.event founds sets) (come.shown p is));
      present = record {
        finished = λ a n r commit to lacks still is. (let x = has a n r to in ⊎_elim
            (λ there. was.present.finished a n r commit there lacks (λ gone. still (subst (λ (l : List ObjName). IsOut l commit) (sym (removed_same 0 r.place (places a n r there))) gone)) is)
            (λ given. never r x.0 commit given lacks (was.stays commit (λ gone. still (told_at_end (alone r x.0 commit given is.there.sum lacks) 0 r.place (omega arith) (ends r x.0 given) (name_of Commit commit) gone)) is))
            (split a n r x.0 to x.1));
        set = λ a n r commit to lacks k e at lt still sets. (let x = has a n r to in ⊎_elim
            (λ there. was.present.set a n r commit there lacks k e (entry_was k e at (omega (arith, lt, places a n r there))) lt (λ gone. still (subst (λ (l : List ObjName). IsOut l commit) (sym (removed_same (k + 1) r.place (places a n r there))) gone)) sets)
            (λ given. never r x.0 commit given lacks (set_before k e at commit sets (λ there gone. still (told_at_end (alone r x.0 commit given (set_sum k e at commit sets) lacks) (k + 1) r.place (omega (arith, there.0)) (ends r x.0 given) (name_of Commit commit) gone))))
            (split a n r x.0 to x.1));
      };
    },
  )
    where
      come : ComesFrom (Founds v) old.books new.books
      come = acts.founded v told

      on : (commit : List ℕ) → ¬ (IsOut acts.out commit) → StaysFinished v commit → StaysFinished w commit
      on commit = finished_stays acts.out v w commit out.now

      -- a commit that a change set its ref to lasted before the act, if it wasn't removed
      set_before : (k : ℕ) (e : Entry) → IsAt new.books.history.items k e → (commit : List ℕ) → Sets commit e.event → (IsAt old.books.history.items k e → ¬ (IsOut (gone_before (k + 1)) commit)) → StaysFinished v commit
      set_before k e at commit sets still = ⊎_elim
          (λ there. was.each k e there commit sets (still there))
          (λ pending. was.shown pending.0 pending.1 commit (subst (Sets commit) pending.2 sets) (none_out (name_of Commit commit)))
          (come.lasting k e at)

      -- what a change sets its ref to is a sum
      set_sum : (k : ℕ) (e : Entry) → IsAt new.books.history.items k e → (commit : List ℕ) → Sets commit e.event → IsSum commit
      set_sum k e at commit sets = sets_sum commit e.event sets (valid_at new.books.history.items (pending_of new.books.pending) (opening_state new.books.start) k e (acts.sound.stands w told_w).run at)

      never : (r : Reply A) (words : W) (commit : List ℕ) → IsNew r words → OfAnswer (λ a. c.means.lacks a commit) r.answer → StaysFinished v commit → ⊥
      never r words commit given lacks lasts =
          let a = is_answer (λ a. c.means.lacks a commit) r.answer lacks in
          cl.commands.answers.lacks (placed (since_in limits old.books r.start) (now_of old.books)) v a.0 words commit files (subst (IfAnswer _) a.1 (new_one r words given)) a.2 lasts

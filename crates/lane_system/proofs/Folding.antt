-- Whose the folders of checkouts are, over an act.
use Rattle.std.proofs.Common.{◌≡◌, ◌≢◌, ◌⊎◌, inl, inr, ⊎_elim, ◌<◌, ℕ, refl, sym, ◌∙◌, ap, subst, arith, List, length, set, Option, Some}
use Rattle.ost_types.specs.declared.limits.Limits.{Limits}
use Rattle.ost_types.specs.Path.{Name}
use Rattle.fs_trait.specs.Change.{Writes}
use Rattle.fs_trait.specs.Seen.{Vacant, shows}
use Rattle.fs_trait.specs.View.{Disk, View}
use Rattle.repo_layout.specs.BootPaths.{checkout_path}
use Rattle.rely_guarantee.specs.declared.books.Base.{Base}
use Rattle.rely_guarantee.specs.declared.kind.Outcome.{Outcome}
use Rattle.rely_guarantee.specs.declared.kind.Outcome.TheVariants as came
use Rattle.rely_guarantee.specs.Books.{books_of}
use Rattle.rely_guarantee.specs.Laws.{Claim}
use Rattle.ref_book.specs.declared.book.RefBook.{RefBook}
use Rattle.command.specs.declared.ended.Ended.{Ended}
use Rattle.command.specs.declared.ended.Ended.TheVariants as ended
use Rattle.command.specs.Doing.{Doing}
use Rattle.command.specs.Meaning.{Meaning}
use Rattle.lane_system.specs.declared.lane.Lane.{Lane}
use Rattle.lane_system.specs.declared.lane.Reply.{Reply}
use Rattle.lane_system.specs.declared.lane.Running.{Running}
use Rattle.lane_system.specs.Family.{Family, FsSpec}
use Rattle.lane_system.specs.Folders.{HasMadeIt, IsMade, IsTaken}
use Rattle.lane_system.specs.LaneActs.{IsAtOnce, IsTaskOf, Takes, task_start, told_by}
use Rattle.lane_system.specs.Lanes.{IsAt, IsNext, IsRunning, IsTo}
use Rattle.lane_system.specs.Replies.{OfAnswer}
use Rattle.lane_system.specs.States.{since_in}
use Rattle.lane_system.specs.Steps.{IsEndedAs, Stepped}
use Rattle.lane_system.proofs.Changing.{command_stays, running_apart, running_was}
use Rattle.lane_system.proofs.Endings.{answer_only}
use Rattle.lane_system.proofs.Family.{FamilyLaws, FsLaws}
use Rattle.lane_system.proofs.Giving.{is_answer}
use Rattle.lane_system.proofs.Places.{at_one, here_or_apart}
use Rattle.lane_system.proofs.Taking.{told, told_after, told_facts}

module _ {T W A : Type 0} (m : Meaning W A) (d : Doing T W A) (lanes : List (Lane T W A)) (lane : ℕ) (l l' : Lane T W A) (at : IsAt lanes lane l) (same : l'.words ≡ l.words) (words : W) (next : IsNext l words)
    (stays : (a n : ℕ) (q : Reply A) → IsTo lanes a n q → IsTo (set lanes lane l') a n q) (Made : Name → Type 0)
    (has : (name : Name) → Made name → ((r : Reply A) × IsTo (set lanes lane l') lane (length l.replies.items) r) ⊎ ((r : Running T) × IsRunning (set lanes lane l') lane (length l.replies.items) r × d.made r.work name))
    (goes_on : (name : Name) (r : Running T) → l.task ≡ Some r → d.made r.work name → Made name) where
  -- a command that made one has made it
  made_on : (name : Name) (a n : ℕ) → HasMadeIt m d lanes name a n → HasMadeIt m d (set lanes lane l') name a n
  made_on name a n is = (
    (is.0.0, command_stays lanes lane l l' at same a n is.0.0 is.0.1, is.0.2),
    ⊎_elim
        (λ reply. inl (reply.0, stays a n reply.0 reply.1))
        (λ runs. here_or_apart a lane
        (λ e. (let w = running_was lanes lane l l' at same n runs.0 (subst (λ i. IsRunning lanes i n runs.0) e runs.1) in
        let h = has name (goes_on name runs.0 w.1 runs.2) in
        subst (λ i. ((r : Reply A) × IsTo (set lanes lane l') i n r) ⊎ ((r : Running T) × IsRunning (set lanes lane l') i n r × d.made r.work name)) (sym e)
        (subst (λ i. ((r : Reply A) × IsTo (set lanes lane l') lane i r) ⊎ ((r : Running T) × IsRunning (set lanes lane l') lane i r × d.made r.work name)) (sym w.0) h)))
        (λ ne. inr (runs.0, running_apart lanes lane l l' at same a n runs.0 ne runs.1, runs.2)))
        is.1,
  )

  pub made_still : (opening : Disk) (v w : View) → ((name : Name) → (shows w.now (checkout_path name) ≡ shows v.now (checkout_path name)) ⊎ (m.claims words name × Made name))
      → ((name : Name) → shows v.now (checkout_path name) ≢ Vacant → IsMade m d lanes opening name) → (name : Name) → shows w.now (checkout_path name) ≢ Vacant → IsMade m d (set lanes lane l') opening name
  made_still opening v w comes was name there = ⊎_elim
      (λ still. ⊎_elim
      (λ stood. inl stood)
      (λ made. inr (made.0, made.1, made_on name made.0 made.1 made.2))
      (was name (λ vacant. there (still ∙ vacant))))
      (λ new. inr (lane, length l.replies.items, ((words, command_stays lanes lane l l' at same lane (length l.replies.items) words (l, at, next), new.0), has name new.1)))
      (comes name)

-- What was taken stays so.
module _ {T W A : Type 0} (m : Meaning W A) (d : Doing T W A) (lanes : List (Lane T W A)) (lane : ℕ) (l l' : Lane T W A) (at : IsAt lanes lane l) (same : l'.words ≡ l.words) where
  pub taken_stays : (opening : Disk) (name : Name) (a n : ℕ) → IsTaken m lanes opening name a n → IsTaken m (set lanes lane l') opening name a n
  taken_stays opening name a n taken = ⊎_elim
      (λ stood. inl stood)
      (λ by. inr (by.0, by.1, (by.2.0, command_stays lanes lane l l' at same by.0 by.1 by.2.0 by.2.1, by.2.2), by.3))
      taken

  -- who made it before the lane's next command is another one
  made_before : (name : Name) (a n : ℕ) → ((r : Running T) → l.task ≡ Some r → d.made r.work name → ⊥) → HasMadeIt m d lanes name a n → a ≡ lane → n < length l.replies.items
  made_before name a n not made here = ⊎_elim
      (λ reply. (let there : IsAt lanes lane reply.1.0 = subst (λ i. IsAt lanes i reply.1.0) here reply.1.1 in
      let one : reply.1.0 ≡ l = at_one lanes lane reply.1.0 l there at in
      omega (arith, reply.1.2.0, ap (λ (x : Lane T W A). length x.replies.items) one)))
      (λ runs. absurd (not runs.0 (running_was lanes lane l l at refl n runs.0 (subst (λ i. IsRunning lanes i n runs.0) here runs.1)).1 runs.2))
      made.1

  -- what stands in the way of the lane's next command, which hasn't made it, is taken
  pub taken_by : (opening : Disk) (v : View) (name : Name) → ((other : Name) → shows v.now (checkout_path other) ≢ Vacant → IsMade m d lanes opening other)
      → (shows v.now (checkout_path name) ≢ Vacant) × ((r : Running T) → l.task ≡ Some r → d.made r.work name → ⊥) → IsTaken m lanes opening name lane (length l.replies.items)
  taken_by opening v name was way = ⊎_elim
      (λ stood. inl stood)
      (λ made. inr (made.0, made.1, made.2.0, here_or_apart made.0 lane (λ here. inr (made_before name made.0 made.1 way.1 made.2 here)) (λ apart. inl apart)))
      (was name way.0)

module _ {F T W A : Type 0} (f : FsSpec F) (c : Family T W A) (fl : FsLaws f) (cl : FamilyLaws c) (limits : Limits) (actor lane number : ℕ) (refs refs' : RefBook) (objects : ℕ) (old new : Base F) (words : W) (task : Option (Running T)) (outcome : Outcome) (t' : T)
    (x : Takes f c limits actor lane number refs refs' objects old new words task outcome t') (v w : View) (told_v : f.view old.fs ≡ Some v) (told_w : f.view new.fs ≡ Some w) where
  abbrev t : T
  t = told f c fl cl limits actor lane number refs refs' objects old new words task outcome t' x

  -- a folder comes only of a step that claims it, for a command that does
  pub comes : (name : Name) → (shows w.now (checkout_path name) ≡ shows v.now (checkout_path name)) ⊎ (c.means.claims words name × (c.tasks.kind t ≡ Claim name))
  comes name = ⊎_elim
      (λ same. inl same)
      (λ wrote. (let k = cl.commands.folders.claims actor lane t v (books_of old.books) name (shows w.now (checkout_path name)) (told_facts f c fl cl limits actor lane number refs refs' objects old new words task outcome t' x v told_v) wrote in
      inr (cl.commands.folders.claimed (since_in limits old.books (task_start old.books.history.items task)) words t name (told_after f c fl cl limits actor lane number refs refs' objects old new words task outcome t' x) k, k)))
      (writes.now (checkout_path name))
    where
      writes : Writes (c.tasks.writes actor t v) v w
      writes =
          let y = x.step.wrote v told_v in
          let one : Some y.0 ≡ Some w = sym y.1 ∙ told_w in
          let e : y.0 ≡ w = cc in
          subst (Writes (c.tasks.writes actor t v) v) e y.2

  -- what an answer says to stand in the way stands there, and the task hasn't made it
  pub stands_in_the_way : (z : Ended A) → IsEndedAs c.doing.answer (f.refused new.fs) outcome t' (f.faults new.fs) z → (name : Name) → OfAnswer (λ a. c.means.finds a words name) z → (shows v.now (checkout_path name) ≢ Vacant) × ((r : Running T) → task ≡ Some r → c.doing.made r.work name → ⊥)
  stands_in_the_way z by name found =
      let a = is_answer (λ b. c.means.finds b words name) z found in
      let only = answer_only c.doing.answer (f.refused new.fs) t' (f.faults new.fs) outcome a.0 (subst (IsEndedAs c.doing.answer (f.refused new.fs) outcome t' (f.faults new.fs)) a.1 by) in
      let done = subst (λ (o : Outcome). Stepped f c.tasks actor lane number x.between refs' o t t' old new) only.0 x.step in
      let k = done.tells v told_v in
      let way = cl.commands.folders.finds (since_in limits old.books (task_start old.books.history.items task)) lane words t t' v k.0 (books_of old.books) a.0 name
      (told_after f c fl cl limits actor lane number refs refs' objects old new words task outcome t' x) (told_facts f c fl cl limits actor lane number refs refs' objects old new words task outcome t' x v told_v) k.2 only.1 a.2 in (
        way.0,
        λ r is made. way.1 (cl.commands.hears.made (record { objects = objects }) x.work name (subst (λ u. c.doing.made u name) (sym (subst (λ o. IsTaskOf c.doing lane o x.work) is x.is)) made)),
      )

-- and an answer at once says so of nothing
pub none_in_the_way : {F T W A : Type 0} (f : FsSpec F) (m : Meaning W A) (limits : Limits) (old : Base F) (words : W) (task : Option (Running T)) (z : Ended A) → IsAtOnce f m limits old words task z → (name : Name) → ¬ (OfAnswer (λ a. m.finds a words name) z)
none_in_the_way f m limits old words task (ended.Answered a) is name found = is.2.4 name found
none_in_the_way f m limits old words task ended.NoMemory is name found = found
none_in_the_way f m limits old words task (ended.Halted n) is name found = found
none_in_the_way f m limits old words task ended.DiskFault is name found = found
none_in_the_way f m limits old words task (ended.Outside path) is name found = found

-- what a task has made goes on to be made, and what it claims now it has made then
pub made_goes : {F T W A : Type 0} (f : FsSpec F) (c : Family T W A) (cl : FamilyLaws c) (limits : Limits) (actor lane number : ℕ) (refs refs' : RefBook) (objects : ℕ) (old new : Base F) (words : W) (task : Option (Running T)) (t' : T)
    (x : Takes f c limits actor lane number refs refs' objects old new words task came.More t') (v : View) → f.view old.fs ≡ Some v → (name : Name) (r : Running T) → task ≡ Some r → c.doing.made r.work name → c.doing.made t' name
made_goes f c cl limits actor lane number refs refs' objects old new words task t' x v told_v name r is made =
    let same : x.work ≡ r.work = subst (λ o. IsTaskOf c.doing lane o x.work) is x.is in
    let l = x.step.tells v told_v in
    cl.commands.folders.goes_on (told_by c.doing objects x.work) t' v l.0 name l.2 (cl.commands.hears.made (record { objects = objects }) x.work name (subst (λ u. c.doing.made u name) (sym same) made))

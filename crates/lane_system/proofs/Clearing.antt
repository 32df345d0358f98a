-- Who makes the folder of a checkout finds nothing there, and is alone.
use Rattle.std.proofs.Common.{◌≡◌, ◌≢◌, ◌⊎◌, inl, inr, ⊎_elim, ℕ, refl, sym, ◌∙◌, subst, List, [], ◌∷◌, ◌++◌, length, set, Option, Some, None}
use Rattle.ost_types.specs.declared.limits.Limits.{Limits}
use Rattle.ost_types.specs.Path.{Name, Path}
use Rattle.fs_trait.specs.declared.task.StepResult.TheVariants as turn
use Rattle.fs_trait.specs.Change.{Writes}
use Rattle.fs_trait.specs.Seen.{Seen, Vacant, Directory, Symlink, Leaf, shows}
use Rattle.fs_trait.specs.View.{Disk, View}
use Rattle.repo_layout.specs.BootPaths.{checkout_path}
use Rattle.repo_layout.proofs.Places.{place-checkout}
use Rattle.rely_guarantee.specs.declared.books.Base.{Base}
use Rattle.rely_guarantee.specs.declared.kind.Outcome.{Outcome}
use Rattle.rely_guarantee.specs.declared.kind.Outcome.TheVariants as came
use Rattle.rely_guarantee.specs.Books.{Books, books_of}
use Rattle.rely_guarantee.specs.Rely.{Guarantee}
use Rattle.ref_book.specs.declared.book.RefBook.{RefBook}
use Rattle.command.specs.declared.ended.Ended.{Ended}
use Rattle.command.specs.declared.ended.Ended.TheVariants as ended
use Rattle.command.specs.Doing.{Doing}
use Rattle.command.specs.Meaning.{Meaning}
use Rattle.lane_system.specs.declared.lane.Lane.{Lane}
use Rattle.lane_system.specs.declared.lane.Reply.{Reply}
use Rattle.lane_system.specs.declared.lane.Running.{Running}
use Rattle.lane_system.specs.Family.{Family, FsSpec}
use Rattle.lane_system.specs.Folders.{AreClear, HasItself}
use Rattle.lane_system.specs.LaneActs.{IsAtOnce, IsTaskOf, Takes, task_start}
use Rattle.lane_system.specs.Lanes.{IsAt, IsCommand, IsNext}
use Rattle.lane_system.specs.Replies.{OfAnswer}
use Rattle.lane_system.specs.States.{since_in}
use Rattle.lane_system.specs.Steps.{IsEndedAs, Stepped}
use Rattle.lane_system.proofs.Changing.{command_was, one_command, running_split, to_split, to_was}
use Rattle.lane_system.proofs.Endings.{answer_only}
use Rattle.lane_system.proofs.Family.{FamilyLaws, FsLaws}
use Rattle.lane_system.proofs.Giving.{is_answer}
use Rattle.lane_system.proofs.Taking.{told, told_after, told_facts}

vacant_or : (s : Seen) → (s ≡ Vacant) ⊎ (s ≢ Vacant)
vacant_or Vacant = inl refl
vacant_or (Directory m) = inr (λ e. cc)
vacant_or (Symlink m t) = inr (λ e. cc)
vacant_or (Leaf n m b) = inr (λ e. cc)

-- what stands at the path of a checkout goes on to stand
pub stands_on : (b : Books) (v w : View) (actor lane : ℕ) → Writes (Guarantee b v actor lane) v w → (name : Name) → shows v.now (checkout_path name) ≢ Vacant → shows w.now (checkout_path name) ≢ Vacant
stands_on b v w actor lane writes name there none = ⊎_elim
    (λ same. there (sym same ∙ none))
    (λ wrote. there (wrote.checkouts name (place-checkout name [])))
    (writes.now (checkout_path name))

-- the folder is made where nothing stood
abbrev pub IsMadeNow : Name → Disk → Disk → Type 0
IsMadeNow name v w = (shows v (checkout_path name) ≡ Vacant) × (shows w (checkout_path name) ≢ Vacant)

-- whoever has made a folder made it before, or is the one that makes it now
module _ {T W A : Type 0} (m : Meaning W A) (d : Doing T W A) (before after : List (Lane T W A)) (lane number : ℕ) (opening v w : Disk)
    (keeps : (name : Name) → shows v (checkout_path name) ≢ Vacant → shows w (checkout_path name) ≢ Vacant)
    (comes : (name : Name) (a n : ℕ) → HasItself m d after name a n → HasItself m d before name a n ⊎ ((a ≡ lane) × (n ≡ number) × IsMadeNow name v w))
    (was : AreClear m d before opening v) where
  free_first : (name : Name) → shows v (checkout_path name) ≡ Vacant → shows opening (checkout_path name) ≡ Vacant
  free_first name none = ⊎_elim (λ free. free) (λ there. absurd (was.stood name there none)) (vacant_or (shows opening (checkout_path name)))

  free_on : (name : Name) (a n : ℕ) → HasItself m d after name a n → (shows opening (checkout_path name) ≡ Vacant) × (shows w (checkout_path name) ≢ Vacant)
  free_on name a n is = ⊎_elim
      (λ old. (let f = was.free name a n old in (f.0, keeps name f.1)))
      (λ new. (free_first name new.2.0, new.2.1))
      (comes name a n is)

  one_on : (name : Name) (a n b k : ℕ) → HasItself m d after name a n → HasItself m d after name b k → (b ≡ a) × (k ≡ n)
  one_on name a n b k is too = ⊎_elim
      (λ old. ⊎_elim
      (λ other. was.one name a n b k old other)
      (λ new. absurd ((was.free name a n old).1 new.2.0))
      (comes name b k too))
      (λ new. ⊎_elim
      (λ other. absurd ((was.free name b k other).1 new.2.0))
      (λ both. (both.0 ∙ sym new.0, both.1 ∙ sym new.1))
      (comes name b k too))
      (comes name a n is)

  pub clear_on : AreClear m d after opening w
  clear_on = record { stood = λ name there. keeps name (was.stood name there); free = free_on; one = one_on }

-- a task that has made one and takes its next step is that of a command that runs
task_made : {T W A : Type 0} (c : Family T W A) (cl : FamilyLaws c) (lane : ℕ) (task : Option (Running T)) (work : T) (name : Name) → IsTaskOf c.doing lane task work → c.doing.made work name → (r : Running T) × (task ≡ Some r) × c.doing.made r.work name
task_made c cl lane None work name is made = absurd (cl.commands.folders.begun lane work name is.0 made)
task_made c cl lane (Some r) work name is made = (r, refl, subst (λ u. c.doing.made u name) is made)

module _ {F T W A : Type 0} (f : FsSpec F) (c : Family T W A) (fl : FsLaws f) (cl : FamilyLaws c) (limits : Limits) (lane number : ℕ) (refs refs' : RefBook) (objects : ℕ) (old new : Base F) (words : W) (task : Option (Running T)) (v w : View) (told_v : f.view old.fs ≡ Some v) (told_w : f.view new.fs ≡ Some w) (name : Name) where
  -- a step that goes on makes a folder where nothing stood
  pub made_more : (t' : T) → Takes f c limits lane lane number refs refs' objects old new words task came.More t' → c.doing.made t' name
      → IsMadeNow name v.now w.now ⊎ ((r : Running T) × (task ≡ Some r) × c.doing.made r.work name)
  made_more t' x made =
      let t = told f c fl cl limits lane lane number refs refs' objects old new words task came.More t' x in
      let k = x.step.tells v told_v in
      let e : Some k.0 ≡ Some w = sym k.1 ∙ told_w in
      let same : k.0 ≡ w = cc in
      let leaves = subst (λ u. c.tasks.leaves t turn.More t' v u) same k.2 in
      ⊎_elim
      (λ claims. inl (cl.claims lane t t' v w (books_of old.books) name claims (told_facts f c fl cl limits lane lane number refs refs' objects old new words task came.More t' x v told_v) leaves))
      (λ had. inr (task_made c cl lane task x.work name x.is (cl.commands.hears.unmade (record { objects = objects }) x.work name had)))
      (cl.commands.folders.by_claim t t' v w name leaves made)

  -- and an answer that one was made is given by who has made it
  pub made_ended : (outcome : Outcome) (t' : T) (z : Ended A) (path : Option Path) → Takes f c limits lane lane number refs refs' objects old new words task outcome t' → IsEndedAs c.doing.answer path outcome t' (f.faults new.fs) z → OfAnswer (λ a. c.means.checks_out a words name) z
      → (r : Running T) × (task ≡ Some r) × c.doing.made r.work name
  made_ended outcome t' z path x by said =
      let a = is_answer (λ b. c.means.checks_out b words name) z said in
      let only = answer_only c.doing.answer path t' (f.faults new.fs) outcome a.0 (subst (IsEndedAs c.doing.answer path outcome t' (f.faults new.fs)) a.1 by) in
      let t = told f c fl cl limits lane lane number refs refs' objects old new words task outcome t' x in
      let done = subst (λ (o : Outcome). Stepped f c.tasks lane lane number x.between refs' o t t' old new) only.0 x.step in
      let k = done.tells v told_v in
      let made = cl.commands.folders.ends (since_in limits old.books (task_start old.books.history.items task)) lane words t t' v k.0 (books_of old.books) a.0 name
      (told_after f c fl cl limits lane lane number refs refs' objects old new words task outcome t' x) (told_facts f c fl cl limits lane lane number refs refs' objects old new words task outcome t' x v told_v) k.2 only.1 a.2 in
      task_made c cl lane task x.work name x.is (cl.commands.hears.unmade (record { objects = objects }) x.work name made)

-- none is made by the books alone
pub none_made : {F T W A : Type 0} (f : FsSpec F) (c : Family T W A) (cl : FamilyLaws c) (limits : Limits) (old : Base F) (words : W) (task : Option (Running T)) (z : Ended A) → IsAtOnce f c.means limits old words task z → (name : Name) → OfAnswer (λ a. c.means.checks_out a words name) z → ⊥
none_made f c cl limits old words task (ended.Answered a) is name said = cl.commands.folders.late (since_in limits old.books (length old.books.history.items)) words a name is.2 said
none_made f c cl limits old words task ended.NoMemory is name said = said
none_made f c cl limits old words task (ended.Halted n) is name said = said
none_made f c cl limits old words task ended.DiskFault is name said = said
none_made f c cl limits old words task (ended.Outside path) is name said = said

-- who has made one behind an act of a lane
module _ {T W A : Type 0} (m : Meaning W A) (d : Doing T W A) (lanes : List (Lane T W A)) (lane : ℕ) (l l' : Lane T W A) (at : IsAt lanes lane l) (words : W) (next : IsNext l words) (same : l'.words ≡ l.words) (name : Name) where
  -- the lane's command, which runs
  runs_here : (a n : ℕ) → a ≡ lane → n ≡ length l.replies.items → (r : Running T) × (l.task ≡ Some r) × d.made r.work name → HasItself m d lanes name a n
  runs_here a n here number r =
      subst (λ i. HasItself m d lanes name i n) (sym here) (subst (λ i. HasItself m d lanes name lane i) (sym number) (inr (r.0, (l, at, refl, r.1), r.2)))

  -- one that goes on
  module _ (replies : l'.replies ≡ l.replies) (P : Type 0) (goes : (r : Running T) → l'.task ≡ Some r → d.made r.work name → P ⊎ ((q : Running T) × (l.task ≡ Some q) × d.made q.work name)) where
    pub made_going : (a n : ℕ) → HasItself m d (set lanes lane l') name a n → HasItself m d lanes name a n ⊎ ((a ≡ lane) × (n ≡ length l.replies.items) × P)
    made_going a n (inl (r, words_r, to, is, said)) = inl (inl (r, words_r, to_was lanes lane l l' at same replies a n r to, command_was lanes lane l l' at same a n words_r is, said))
    made_going a n (inr (r, runs, made)) = ⊎_elim
        (λ apart. inl (inr (r, apart.1, made)))
        (λ here. (let number : n ≡ length l.replies.items = subst (λ xs. n ≡ length xs.items) replies here.1 in
        ⊎_elim
        (λ new. inr (here.0, number, new))
        (λ had. inl (runs_here a n here.0 number had))
        (goes r here.2 made)))
        (running_split lanes lane l l' at same a n r runs)

  -- one that has its answer
  module _ (over : l'.task ≡ None) (r : Reply A) (grows : l'.replies.items ≡ l.replies.items ++ r ∷ []) (ends : OfAnswer (λ a. m.checks_out a words name) r.answer → (q : Running T) × (l.task ≡ Some q) × d.made q.work name) where
    pub made_over : (a n : ℕ) → HasItself m d (set lanes lane l') name a n → HasItself m d lanes name a n
    made_over a n (inl (q, words_q, to, is, said)) =
        let before = command_was lanes lane l l' at same a n words_q is in
        ⊎_elim
        (λ was. inl (q, words_q, was, before, said))
        (λ new.
        (let its : words_q ≡ words = one_command lanes lane (length l.replies.items) words_q words (subst (λ i. IsCommand lanes lane i words_q) new.1 (subst (λ i. IsCommand lanes i n words_q) new.0 before)) (l, at, next) in
        runs_here a n new.0 new.1 (ends (subst (λ (y : Reply A). OfAnswer (λ a. m.checks_out a words name) y.answer) new.2 (subst (λ (x : W). OfAnswer (λ a. m.checks_out a x name) q.answer) its said)))))
        (to_split lanes lane l l' at same r grows a n q to)
    made_over a n (inr (q, runs, made)) = ⊎_elim
        (λ apart. inr (q, apart.1, made))
        (λ here. absurd (let no : None ≡ Some q = sym over ∙ here.2 in cc))
        (running_split lanes lane l l' at same a n q runs)

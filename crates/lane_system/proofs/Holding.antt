-- Which lane holds another off.
use Rattle.std.proofs.Common.{◌≡◌, ◌≢◌, ◌⊎◌, inl, inr, ⊎_elim, ℕ, Bool, true, false, refl, sym, ◌∙◌, ap, subst, List, [], ◌∷◌, All, Contains, arith, length, Option, Some, None}
use Rattle.ost_types.specs.declared.limits.Limits.{Limits}
use Rattle.rely_guarantee.specs.declared.books.Base.{Base}
use Rattle.rely_guarantee.specs.declared.books.Books as rust
use Rattle.rely_guarantee.specs.declared.books.Share.{Share}
use Rattle.rely_guarantee.specs.declared.kind.Outcome.{Outcome}
use Rattle.rely_guarantee.specs.declared.kind.Halt.TheVariants as halt
use Rattle.rely_guarantee.specs.declared.kind.Outcome.TheVariants as came
use Rattle.rely_guarantee.specs.declared.kind.Wants.{Wants}
use Rattle.rely_guarantee.specs.Books.{Books, Free, Frees, books_of}
use Rattle.rely_guarantee.specs.Exact.{Opens}
use Rattle.rely_guarantee.specs.Laws.{Kind, Quiet, Store, Take, Claim, Publish, Published, Remove, MakeDurable}
use Rattle.ref_book.specs.declared.book.RefBook.{RefBook}
use Rattle.command.specs.declared.ended.Ended.{Ended}
use Rattle.command.specs.declared.ended.Ended.TheVariants as ended
use Rattle.command.specs.LockLaws.{AsksInOrder, AsksList, AsksListAlone}
use Rattle.lane_system.specs.declared.act.Came.TheVariants.{Answered, Blocked, More}
use Rattle.lane_system.specs.declared.lane.Lane.{Lane}
use Rattle.lane_system.specs.declared.lane.Running.{Running}
use Rattle.lane_system.specs.Booked.{HasCommand}
use Rattle.lane_system.specs.Family.{Family, FsSpec}
use Rattle.lane_system.specs.Kept.{AreInOrder, Kept}
use Rattle.lane_system.specs.LaneActs.{IsAtOnce, IsTaskOf, LaneActs, Takes, told_by}
use Rattle.lane_system.specs.Lanes.{IsAt, IsRunning}
use Rattle.lane_system.specs.Ranks.{Asks, AsksRefLock, IsHeldOff, LacksRefLock}
use Rattle.lane_system.specs.Steps.{HasEnded}
use Rattle.lane_system.specs.System.{System}
use Rattle.lane_system.proofs.Changing.{running_was}
use Rattle.lane_system.proofs.Family.{FamilyLaws, FsLaws}
use Rattle.lane_system.proofs.Places.{at_one, here_or_apart}
use Rattle.lane_system.proofs.Taking.{told_after}

-- a step of this kind asks for locks in order
abbrev AsksSo : Kind → Type 0
AsksSo k = (wants : Wants) → k ≡ Take wants → AsksInOrder wants ⊎ AsksListAlone wants

free_none : (lock : Option ℕ) (lane : ℕ) → lock ≡ None → Free lock lane
free_none lock lane none a is = let z : None ≡ Some a = sym none ∙ is in cc

all_of_none : {X : Type 0} (P : X → Type 0) (xs : List X) → ((x : X) → ¬ (Contains xs x)) → All P xs
all_of_none P [] none = λ k d less. absurd (omega (arith, less))
all_of_none P (x ∷ xs) none = absurd (none x (0, omega arith, refl))

asks_or : (b : Bool) → (b ≡ true) ⊎ (b ≡ false)
asks_or true = inl refl
asks_or false = inr refl

-- where the ref lock is free for the lane, and the lock on the list where it is asked for, the step may be taken
module _ (b : rust.Books) (lane : ℕ) (order : AreInOrder b) (free : Free b.turn lane) where
  alone_free : Free b.exclusive lane
  alone_free a is = free a (order.alone a is)

  frees_by : (wants : Wants) → AsksInOrder wants ⊎ AsksListAlone wants → (wants.sysroot ≡ true → Free b.sysroot lane) → Frees wants lane (books_of b)
  frees_by wants asks list = record {
    exclusive = λ is. (alone_free, free, all_of_none (λ (x : Share). x.lane ≡ lane) b.shared.items order.unshared);
    turn = λ is. (alone_free, free);
    shared = λ is. alone_free;
    pin = λ is. alone_free;
    sysroot = list;
    hold = λ is. free;
  }

  opens_by : (k : Kind) → AsksSo k → (AsksList k → Free b.sysroot lane) → Opens k lane (books_of b)
  opens_by Quiet asks list = tt
  opens_by Store asks list = alone_free
  opens_by (Take wants) asks list = frees_by wants (asks wants refl) (λ on. list (wants, refl, on))
  opens_by (Claim name) asks list = tt
  opens_by (Publish e) asks list = (alone_free, free)
  opens_by (Published e n) asks list = tt
  opens_by (Remove e n) asks list = tt
  opens_by (MakeDurable e) asks list = tt

-- a lock is free for the lane, or another has it
free_or : (lock : Option ℕ) (lane : ℕ) → Free lock lane ⊎ ((other : ℕ) × (other ≢ lane) × (lock ≡ Some other))
free_or None lane = inl (free_none None lane refl)
free_or (Some a) lane = here_or_apart a lane
    (λ e. inl (λ x is. (let y : Some a ≡ Some x = is in let z : a ≡ x = cc in sym z ∙ e)))
    (λ ne. inr (a, ne, refl))

-- a step asks for the lock on the list, or it doesn't
list_or : (k : Kind) → AsksList k ⊎ ¬ (AsksList k)
list_or (Take wants) = ⊎_elim (λ on. inl (wants, refl, on)) (λ off. inr (λ asks. (let same : wants ≡ asks.0 = cc in let z : false ≡ true = sym off ∙ ap (λ (w : Wants). w.sysroot) same ∙ asks.2 in cc))) (asks_or wants.sysroot)
list_or Quiet = inr (λ asks. (let z = asks.1 in cc))
list_or Store = inr (λ asks. (let z = asks.1 in cc))
list_or (Claim name) = inr (λ asks. (let z = asks.1 in cc))
list_or (Publish e) = inr (λ asks. (let z = asks.1 in cc))
list_or (Published e n) = inr (λ asks. (let z = asks.1 in cc))
list_or (Remove e n) = inr (λ asks. (let z = asks.1 in cc))
list_or (MakeDurable e) = inr (λ asks. (let z = asks.1 in cc))

asks_free : (k : Kind) (lane : ℕ) (b : Books) → AsksRefLock k → Opens k lane b → Free b.turn lane
asks_free (Take wants) lane b asks opens = (opens.turn asks).1
asks_free (Publish e) lane b asks opens = opens.1
asks_free Quiet lane b asks opens = absurd asks
asks_free Store lane b asks opens = absurd asks
asks_free (Claim name) lane b asks opens = absurd asks
asks_free (Published e n) lane b asks opens = absurd asks
asks_free (Remove e n) lane b asks opens = absurd asks
asks_free (MakeDurable e) lane b asks opens = absurd asks

module _ {F T W A : Type 0} (f : FsSpec F) (c : Family T W A) (fl : FsLaws f) (cl : FamilyLaws c) (limits : Limits) (lane : ℕ) (refs refs' : RefBook) (objects objects' : ℕ) (old new : Base F) (lanes : List (Lane T W A)) (given : ℕ) (l l' : Lane T W A)
    (kept : Kept f c limits old refs lanes given) (at : IsAt lanes lane l) where
  abbrev pub s : System F T W A
  s = record { base = old; lanes = lanes; limits = limits; objects = objects }

  -- who has a lock has a command
  has_by : (other n : ℕ) (r : Running T) → IsRunning lanes other n r → HasCommand s other
  has_by other n r runs = (runs.0, runs.1, ((kept.each other runs.0 runs.1).started r runs.3).next.0)

  holder_has : (other : ℕ) → old.books.halted ≡ None → old.books.turn ≡ Some other → HasCommand s other
  holder_has other live is = let w = (kept.locked live).turn other is in has_by other w.0 w.1 w.2

  lister_has : (other : ℕ) → old.books.halted ≡ None → old.books.sysroot ≡ Some other → HasCommand s other
  lister_has other live is = let w = (kept.locked live).sysroot other is in has_by other w.0 w.1 w.2

  -- a lane whose step asks for the lock on the list hasn't the ref lock
  lister_free : (u : T) → IsTaskOf c.doing lane l.task u → old.books.halted ≡ None → AsksList (c.tasks.kind (told_by c.doing objects u)) → ¬ (old.books.turn ≡ Some lane)
  lister_free u is live asks mine =
      let w = (kept.locked live).turn lane mine in
      let same = running_was lanes lane l l at refl w.0 w.1 w.2 in
      let its : u ≡ w.1.work = subst (λ (o : Option (Running T)). IsTaskOf c.doing lane o u) same.1 is in
      w.3 (subst (λ (x : T). AsksList (c.tasks.kind x)) its (cl.commands.locks.heard (record { objects = objects }) u asks))

  pub held_off : LaneActs f c limits lane lane refs refs' objects objects' old new l l' Blocked → IsHeldOff s lane
  held_off x =
      let y = x.did.3 in
      let closed = (y.step.blocked refl).1 in
      let asks : AsksSo (c.tasks.kind (told_by c.doing objects y.work)) = λ wants is. cl.commands.locks.asks _ x.words _ wants (told_after f c fl cl limits lane lane (length l.replies.items) refs refs' objects old new x.words l.task came.Blocked x.did.2 y) is in
      ⊎_elim
      (λ free. ⊎_elim
      (λ unlisted. absurd (closed (opens_by old.books lane kept.ordered free _ asks (λ list. unlisted))))
      (λ other. ⊎_elim
      (λ list. (other.0, other.1, inr (other.2, lister_free y.work y.is y.live list), lister_has other.0 y.live other.2))
      (λ not. absurd (closed (opens_by old.books lane kept.ordered free _ asks (λ list. absurd (not list)))))
      (list_or (c.tasks.kind (told_by c.doing objects y.work))))
      (free_or old.books.sysroot lane))
      (λ other. (other.0, other.1, inl other.2, holder_has other.0 y.live other.2))
      (free_or old.books.turn lane)

  -- a step that asks for the lock isn't taken while another has it
  module _ (words : W) (asks : Asks c s lane) (off : LacksRefLock s lane) where
    its_task : l.task ≡ Some asks.1
    its_task = sym (ap (λ (y : Lane T W A). y.task) (at_one lanes lane asks.0 l asks.2 at)) ∙ asks.3

    not_taken : (outcome : Outcome) (t' : T) → (outcome ≡ came.Blocked → ⊥) → Takes f c limits lane lane (length l.replies.items) refs refs' objects old new words l.task outcome t' → ⊥
    not_taken outcome t' went y =
        let same : y.work ≡ asks.1.work = subst (λ o. IsTaskOf c.doing lane o y.work) its_task y.is in
        let free = asks_free (c.tasks.kind (told_by c.doing objects y.work)) lane (books_of old.books) (subst (λ u. AsksRefLock (c.tasks.kind (told_by c.doing objects u))) (sym same) asks.4) (y.step.opens went) in
        off.1 (free off.0 off.2)

  pub waits_more : Asks c s lane → LacksRefLock s lane → LaneActs f c limits lane lane refs refs' objects objects' old new l l' More → ⊥
  waits_more asks off x = not_taken x.words asks off came.More x.did.0 (λ is. cc) x.did.3

  pub waits_given : Asks c s lane → LacksRefLock s lane → old.books.halted ≡ None → (z : Ended A) (start : ℕ) → LaneActs f c limits lane lane refs refs' objects objects' old new l l' (Answered z start) → ⊥
  waits_given asks off live z start x = ⊎_elim
      (λ once. at_once z once.1)
      (λ over. not_taken x.words asks off over.0 over.1 (λ is. subst HasEnded is over.2) over.4)
      x.did.3
    where
      at_once : (y : Ended A) → IsAtOnce f c.means limits old x.words l.task y → ⊥
      at_once (ended.Answered a) is = let z : None ≡ Some asks.1 = sym is.1 ∙ its_task x.words asks off in cc
      at_once ended.NoMemory (inl is) = let z : None ≡ Some asks.1 = sym is.1 ∙ its_task x.words asks off in cc
      at_once ended.NoMemory (inr strayed) = let z : Some halt.Strayed ≡ None = sym strayed ∙ live in cc
      at_once (ended.Halted n) is = let z : Some halt.Failed ≡ None = sym is.0 ∙ live in cc
      at_once ended.DiskFault is = is
      at_once (ended.Outside path) is = let z : Some halt.Strayed ≡ None = sym is.0 ∙ live in cc

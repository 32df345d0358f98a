-- The table of locks, and what others hold.
use Rattle.std.proofs.Common.{◌≡◌, ◌≢◌, ◌⊎◌, inl, inr, ⊎_elim, ℕ, Bool, true, false, nat_eq, refl, sym, ◌∙◌, ap, subst, arith, List, [], ◌++◌, append-nil, append_assoc, Option, Some, None, IsTrue, IsSome, Contains}
use Rattle.std.proofs.lemmas.Bool.Decides.{nat_tests}
use Rattle.std.proofs.lemmas.List.Elements.{All-contains}
use Rattle.ost_types.specs.declared.object.ObjName.{ObjName}
use Rattle.rely_guarantee.specs.declared.books.Books as rust
use Rattle.rely_guarantee.specs.declared.books.Entry.{Entry}
use Rattle.rely_guarantee.specs.declared.books.Hold.{Hold}
use Rattle.rely_guarantee.specs.declared.books.Pending.{Pending}
use Rattle.rely_guarantee.specs.declared.books.Pin.{Pin}
use Rattle.rely_guarantee.specs.declared.books.Share.{Share}
use Rattle.rely_guarantee.specs.declared.event.Event.{Event}
use Rattle.rely_guarantee.specs.declared.event.Event.TheVariants.{SetRef, DropRef, Pruned, SetDeployments}
use Rattle.rely_guarantee.specs.declared.kind.Wants.{Wants}
use Rattle.rely_guarantee.specs.Books.{Books, books_of, doomed_of, listed_in, Free, Frees, Agrees, Spared}
use Rattle.rely_guarantee.specs.Change.{Dooms}
use Rattle.rely_guarantee.specs.Exact.{NoNewShares, lock_taken}
use Rattle.rely_guarantee.specs.State.{list_in, removed_by}
use Rattle.rely_guarantee.proofs.Lists.{all_of}

-- which deployments boot goes by the history
pub listed_same : (b b' : rust.Books) → b'.history ≡ b.history → b'.start ≡ b.start → listed_in (books_of b') ≡ listed_in (books_of b)
listed_same b b' history start = rw (history, start) refl

-- another list is published by who works on it
pub relisted_by : (e : Event) (lane : ℕ) (b : Books) → Dooms lane b e → IsSome (list_in e) → b.sysroot ≡ Some lane
relisted_by (SetRef name seen commit) lane b dooms some = let z : false ≡ true = some in cc
relisted_by (DropRef name seen) lane b dooms some = let z : false ≡ true = some in cc
relisted_by (Pruned depth roots held removed) lane b dooms some = let z : false ≡ true = some in cc
relisted_by (SetDeployments change list) lane b dooms some = dooms

-- behind a step that left those that store as they were
pub shares_since : (old mid new : rust.Books) → mid.shared.items ≡ old.shared.items → NoNewShares mid new → NoNewShares old new
shares_since old mid new same fewer x has = subst (λ (l : List Share). Contains l x) same (fewer x has)

-- what was free of others is, once the lane has more
pub free_before : (lock lock' : Option ℕ) (lane : ℕ) → ((x : ℕ) → x ≢ lane → lock ≡ Some x → lock' ≡ Some x) → Free lock' lane → Free lock lane
free_before lock lock' lane kept free x is = by (nat_eq x lane) refl
  where
    by : (t : Bool) → nat_eq x lane ≡ t → x ≡ lane
    by true e = grind (arith, nat_tests)
    by false e = let other : x ≢ lane = (λ same. let z : true ≡ false = sym (let k : nat_eq lane lane ≡ true = grind (arith, nat_tests) in k) ∙ ap (λ y. nat_eq y lane) (sym same) ∙ e in cc) in free x (kept x other is)

-- What is to be removed, by who has the lock for it and by what is shown.
module _ (x : ℕ) (p : Pending) where
  doomed_own : x ≡ p.lane → doomed_of (Some x) (Some p) ≡ removed_by p.event
  doomed_own is = let e : nat_eq x p.lane ≡ true = grind (arith, nat_tests) in rw e refl

  doomed_others : x ≢ p.lane → doomed_of (Some x) (Some p) ≡ []
  doomed_others other = by (nat_eq x p.lane) refl
    where
      by : (t : Bool) → nat_eq x p.lane ≡ t → doomed_of (Some x) (Some p) ≡ []
      by true e = absurd (other (let k : x ≡ p.lane = grind (arith, nat_tests) in k))
      by false e = rw e refl

pub doomed_idle : (lock : Option ℕ) → doomed_of lock None ≡ []
doomed_idle None = refl
doomed_idle (Some x) = refl

-- its lock is held
pub doomed_held : (lock : Option ℕ) (pending : Option Pending) (o : ObjName) → Contains (doomed_of lock pending) o → IsSome lock
doomed_held None pending o has = absurd (omega (arith, has.1))
doomed_held (Some x) pending o has = refl

-- nothing where its holder shows nothing
pub doomed_apart : (x : ℕ) (pending : Option Pending) → ((p : Pending) → pending ≡ Some p → p.lane ≢ x) → doomed_of (Some x) pending ≡ []
doomed_apart x None none = refl
doomed_apart x (Some p) none = doomed_others x p (λ e. none p refl (sym e))

-- who takes the lock, and shows nothing, changes none of it
pub doomed_taken : (asks : Bool) (lane : ℕ) (lock : Option ℕ) (pending : Option Pending) → (IsTrue asks → Free lock lane) → ((p : Pending) → pending ≡ Some p → p.lane ≢ lane) → doomed_of (lock_taken asks lane lock) pending ≡ doomed_of lock pending
doomed_taken false lane lock pending free none = refl
doomed_taken true lane None pending free none = doomed_apart lane pending none
doomed_taken true lane (Some x) pending free none = ap (λ n. doomed_of (Some n) pending) (sym (free refl x refl))

-- once a change is published it is what that one removes
pub doomed_published : (lane command : ℕ) (e : Event) (b : Books) → Dooms lane b e → doomed_of b.exclusive (Some (record { lane = lane; command = command; event = e })) ≡ removed_by e
doomed_published lane command e b dooms = by e b.exclusive dooms refl
  where
    shown : Event → Pending
    shown d = record { lane = lane; command = command; event = d }

    none : (d : Event) → removed_by d ≡ [] → (lock : Option ℕ) → doomed_of lock (Some (shown d)) ≡ removed_by d
    none d is None = sym is
    none d is (Some x) = at (nat_eq x lane) refl
      where
        at : (t : Bool) → nat_eq x lane ≡ t → doomed_of (Some x) (Some (shown d)) ≡ removed_by d
        at true e = rw e refl
        at false e = rw e (sym is)

    by : (d : Event) (lock : Option ℕ) → Dooms lane b d → b.exclusive ≡ lock → doomed_of lock (Some (shown d)) ≡ removed_by d
    by (SetRef name seen commit) lock dooms is = none (SetRef name seen commit) refl lock
    by (DropRef name seen) lock dooms is = none (DropRef name seen) refl lock
    by (SetDeployments change list) lock dooms is = none (SetDeployments change list) refl lock
    by (Pruned depth roots held removed) lock dooms is =
        subst (λ (l : Option ℕ). doomed_of l (Some (shown (Pruned depth roots held removed))) ≡ removed) (sym dooms ∙ is) (doomed_own lane (shown (Pruned depth roots held removed)) refl)

pub agrees_granted : (w : Wants) (lane : ℕ) (b b' : Books) → Frees w lane b → ((o : ObjName) → Contains b'.doomed o → IsSome b'.exclusive)
    → ((x : ℕ) → b'.exclusive ≡ Some x → (b.exclusive ≡ Some x) ⊎ (IsTrue w.exclusive × (x ≡ lane)))
    → ((x : ℕ) → b'.turn ≡ Some x → (b.turn ≡ Some x) ⊎ (IsTrue w.turn × (x ≡ lane)))
    → ((x : Share) → Contains b'.shared x → Contains b.shared x ⊎ (IsTrue w.shared × (x.lane ≡ lane)))
    → Agrees b → Agrees b'
agrees_granted w lane b b' frees doomed alone turn shared agrees = record {
  turn = λ x y ex tu. ⊎_elim
      (λ e. ⊎_elim (λ t. agrees.turn x y e t) (λ t. t.1 ∙ sym ((frees.turn t.0).0 x e)) (turn y tu))
      (λ e. ⊎_elim (λ t. (frees.exclusive e.0).1 y t ∙ sym e.1) (λ t. t.1 ∙ sym e.1) (turn y tu))
      (alone x ex);
  shared = λ x ex. all_of (λ (s : Share). s.lane ≡ x) b'.shared (λ s has. ⊎_elim
      (λ e. ⊎_elim (λ h. All-contains (λ (s : Share). s.lane ≡ x) b.shared s (agrees.shared x e) h) (λ h. h.1 ∙ sym (frees.shared h.0 x e)) (shared s has))
      (λ e. ⊎_elim (λ h. All-contains (λ (s : Share). s.lane ≡ lane) b.shared s ((frees.exclusive e.0).2) h ∙ sym e.1) (λ h. h.1 ∙ sym e.1) (shared s has))
      (alone x ex));
  doomed = doomed;
}

pub spared_refl : (actor lane : ℕ) (b : Books) → Spared actor lane b b
spared_refl actor lane b = record {
  shared = λ x a l has. has;
  exclusive = λ x other is. is;
  turn = λ x other is. is;
  sysroot = λ x other is. is;
  holds = λ h other has. has;
  wants = λ w a l has. has;
  pins = λ p other has. has;
  pinned = λ p has. inl has;
  doomed = λ x other is. (refl, refl);
  claims = λ c other has. has;
  claimers = λ c other has. has;
  uses = λ u other has. has;
  pending = λ p other is. is;
  shown = λ p is. inl is;
  owed = λ p other is. refl;
  more = [];
  grows = sym (append-nil b.history);
  replies = omega arith;
  opened = refl;
  start = refl;
  listed = λ x other held. refl;
}

pub spared_then : (actor lane : ℕ) (a b c : Books) → Spared actor lane a b → Spared actor lane b c → Spared actor lane a c
spared_then actor lane a b c p q = record {
  shared = λ x n l has. q.shared x n l (p.shared x n l has);
  exclusive = λ x other is. q.exclusive x other (p.exclusive x other is);
  turn = λ x other is. q.turn x other (p.turn x other is);
  sysroot = λ x other is. q.sysroot x other (p.sysroot x other is);
  holds = λ h other has. q.holds h other (p.holds h other has);
  wants = λ w n l has. q.wants w n l (p.wants w n l has);
  pins = λ x other has. q.pins x other (p.pins x other has);
  pinned = λ x has. ⊎_elim (λ was. p.pinned x was) (λ new. inr (new.0, free_before a.exclusive b.exclusive lane p.exclusive new.1)) (q.pinned x has);
  doomed = λ x other is.
      let one = p.doomed x other is in
      let two = q.doomed x other (p.exclusive x other is) in
      (two.0 ∙ one.0, two.1 ∙ one.1);
  claims = λ c other has. q.claims c other (p.claims c other has);
  claimers = λ c other has. p.claimers c other (q.claimers c other has);
  uses = λ u other has. q.uses u other (p.uses u other has);
  pending = λ x other is. q.pending x other (p.pending x other is);
  shown = λ x is. ⊎_elim (λ k. p.shown x k) (λ k. inr k) (q.shown x is);
  owed = λ x other is. q.owed x other (p.pending x other is) ∙ p.owed x other is;
  more = p.more ++ q.more;
  grows = q.grows ∙ ap (λ (l : List Entry). l ++ q.more) p.grows ∙ append_assoc a.history p.more q.more;
  replies = omega (arith, p.replies, q.replies);
  opened = q.opened ∙ p.opened;
  start = q.start ∙ p.start;
  listed = λ x other is. q.listed x other (p.exclusive x other is) ∙ p.listed x other is;
}

-- it stays while another has the lock, and what is shown stays
pub doomed_kept : (x : ℕ) (lock lock' : Option ℕ) (pending pending' : Option Pending) → lock ≡ Some x → lock' ≡ Some x → pending' ≡ pending → doomed_of lock' pending' ≡ doomed_of lock pending
doomed_kept x lock lock' pending pending' before now same = ap (λ l. doomed_of l pending') (now ∙ sym before) ∙ ap (doomed_of lock) same

-- what is granted to a lane takes nothing from the others
pub granted_spared : (w : Wants) (actor lane : ℕ) (b b' : rust.Books) → b' ≡ record b { shared = b'.shared; exclusive = b'.exclusive; turn = b'.turn; sysroot = b'.sysroot; holds = b'.holds; pins = b'.pins } → Frees w lane (books_of b)
    → ((x : Share) → Contains b.shared.items x → Contains b'.shared.items x) → ((x : ℕ) → b.exclusive ≡ Some x → b'.exclusive ≡ Some x) → ((x : ℕ) → b.turn ≡ Some x → b'.turn ≡ Some x) → ((x : ℕ) → b.sysroot ≡ Some x → b'.sysroot ≡ Some x)
    → ((h : Hold) → Contains b.holds.items h → Contains b'.holds.items h) → ((p : Pin) → Contains b.pins.items p → Contains b'.pins.items p) → ((p : Pin) → Contains b'.pins.items p → Contains b.pins.items p ⊎ (IsSome w.pin × (p.lane ≡ lane)))
    → Spared actor lane (books_of b) (books_of b')
granted_spared w actor lane b b' same frees shared exclusive turn sysroot holds pins pinned = record {
  shared = λ x a l has. shared x has;
  exclusive = λ x other is. exclusive x is;
  turn = λ x other is. turn x is;
  sysroot = λ x other is. sysroot x is;
  holds = λ h other has. holds h has;
  wants = λ x a l has. subst (λ (y : rust.Books). Contains y.wants.items x) (sym same) has;
  pins = λ p other has. pins p has;
  pinned = λ p has. ⊎_elim (λ was. inl was) (λ new. inr (new.1, frees.pin new.0)) (pinned p has);
  doomed = λ x other is. (doomed_kept x b.exclusive b'.exclusive b.pending b'.pending is (exclusive x is) (ap (λ (y : rust.Books). y.pending) same), ap (λ (y : rust.Books). y.gone) same);
  uses = λ u other has. subst (λ (y : rust.Books). Contains y.uses.items u) (sym same) has;
  claims = λ x other has. subst (λ (y : rust.Books). Contains y.claims.items x) (sym same) has;
  claimers = λ x other has. subst (λ (y : rust.Books). Contains y.claims.items x) same has;
  pending = λ p other is. ap (λ (y : rust.Books). y.pending) same ∙ is;
  shown = λ p is. inl (sym (ap (λ (y : rust.Books). y.pending) same) ∙ is);
  owed = λ p other is. ap (λ (y : rust.Books). y.owed) same;
  more = [];
  grows = ap (λ (y : rust.Books). y.history.items) same ∙ sym (append-nil b.history.items);
  replies = (let e : b'.replies ≡ b.replies = ap (λ (y : rust.Books). y.replies) same in omega (arith, e));
  opened = ap (λ (y : rust.Books). y.opened) same;
  start = ap (λ (y : rust.Books). y.start) same;
  listed = λ x other is. ap (λ (y : rust.Books). listed_in (books_of y)) same;
}

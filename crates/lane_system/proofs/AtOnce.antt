-- An answer that was given by the books alone.
use Rattle.std.proofs.Common.{◌≡◌, inl, inr, ℕ, refl, sym, ◌∙◌, ap, subst, arith, length, Option, Some, None}
use Rattle.ost_types.specs.declared.limits.Limits.{Limits}
use Rattle.rely_guarantee.specs.declared.books.Base.{Base}
use Rattle.rely_guarantee.specs.declared.kind.Halt.{Halt}
use Rattle.rely_guarantee.specs.declared.kind.Halt.TheVariants as halt
use Rattle.rely_guarantee.specs.Books.{books_of}
use Rattle.rely_guarantee.specs.Laws.{NotPending}
use Rattle.rely_guarantee.specs.State.{SystemState}
use Rattle.command.specs.declared.ended.Ended.{Ended}
use Rattle.command.specs.declared.ended.Ended.TheVariants as ended
use Rattle.command.specs.Doing.{IsAnswer}
use Rattle.command.specs.Meaning.{Meaning}
use Rattle.command.specs.Since.{Since, placed}
use Rattle.lane_system.specs.declared.lane.Running.{Running}
use Rattle.lane_system.specs.Family.{Family, FsSpec}
use Rattle.lane_system.specs.Kept.{RunsIn}
use Rattle.lane_system.specs.LaneActs.{IsAtOnce, task_start}
use Rattle.lane_system.specs.Replies.{EndsBy, EndsToo, IfAnswer, IsCaused, IsCutOff, IsTold, Knows, OfAnswer}
use Rattle.lane_system.specs.States.{now_of, since_in}
use Rattle.lane_system.proofs.Family.{FamilyLaws}
use Rattle.lane_system.proofs.Giving.{Gives}
use Rattle.lane_system.proofs.Prefixes.{state_all}

module _ {F T W A : Type 0} (f : FsSpec F) (c : Family T W A) (cl : FamilyLaws c) (limits : Limits) (lane number objects : ℕ) (base : Base F) (words : W) (task : Option (Running T)) (runs : base.books.halted ≡ None → RunsIn c lane (f.view base.fs) base.books task)
    (never : base.books.halted ≡ Some halt.Strayed → ¬ (IsTold f.view)) where
  -- a lane without a task has nothing pending
  idle : task ≡ None → base.books.halted ≡ None → NotPending lane (books_of base.books)
  idle none live = subst (RunsIn c lane (f.view base.fs) base.books) none (runs live)

  abbrev at_end : ℕ
  at_end = length base.books.history.items

  -- the state at the beginning is the one now
  now_is : since_in limits base.books at_end ≡ placed (since_in limits base.books at_end) (now_of base.books)
  now_is = ap (λ (s : SystemState). placed (since_in limits base.books at_end) s) (state_all base.books at_end refl)

  here : (a : A) → IsAnswer c.means (since_in limits base.books at_end) words a → c.means.says (placed (since_in limits base.books at_end) (now_of base.books)) a words × c.means.knows (placed (since_in limits base.books at_end) (now_of base.books)) a words
  here a is = (subst (λ (s : Since). c.means.says s a words) now_is is.0, subst (λ (s : Since). c.means.knows s a words) now_is is.1)

  -- so is one that was given since no command goes on
  over_gives : (why : Halt) → base.books.halted ≡ Some why → (x : Ended A) → EndsBy base.books.halted (f.refused base.fs) (f.faults base.fs) x → (IsTold f.view → Knows c.means (placed (since_in limits base.books (task_start base.books.history.items task)) (now_of base.books)) words x)
      → IfAnswer (λ a. ⊥) x × IsCaused base.books.halted (f.faults base.fs) (f.faults base.fs) x → IsCutOff (IsTold f.view) x → Gives f c limits lane number objects base base words (task_start base.books.history.items task) x
  over_gives why over x ends knows caused cut = record {
    answer = no_answer _ x caused.0;
    known = knows;
    shown = (λ v told sound. no_answer _ x caused.0, caused.1);
    remains = λ v w is_v is_w. no_answer _ x caused.0;
    full = no_answer _ x caused.0;
    idle = λ live. absurd (let z : Some why ≡ None = sym over ∙ live in cc);
    halts = ends;
    over = λ reason is. refl;
    explained = λ live strayed. absurd (let z : Some why ≡ None = sym over ∙ live in cc);
    stays = λ v w is_v is_w sound. no_answer _ x caused.0;
    alone = λ v is_v commit sum lacks. absurd (none_made _ x caused.0 lacks);
    grows = inl (refl, λ makes. none_made _ x caused.0 makes);
    pending = λ p at. inl at;
    left = λ p at mine. cut;
    kept = λ opening v w is_v is_w right k e at late. absurd (omega (arith, at.0, late));
  }
    where
      no_answer : (P : A → Type 0) (y : Ended A) → IfAnswer (λ a. ⊥) y → IfAnswer P y
      no_answer P (ended.Answered a) none = absurd none
      no_answer P ended.NoMemory none = tt
      no_answer P ended.DiskFault none = tt
      no_answer P (ended.Outside path) none = tt
      no_answer P (ended.Halted n) none = tt

      none_made : (P : A → Type 0) (y : Ended A) → IfAnswer (λ a. ⊥) y → OfAnswer P y → ⊥
      none_made P (ended.Answered a) none makes = none
      none_made P ended.NoMemory none makes = makes
      none_made P ended.DiskFault none makes = makes
      none_made P (ended.Outside path) none makes = makes
      none_made P (ended.Halted n) none makes = makes

  pub at_once_gives : (x : Ended A) → IsAtOnce f c.means limits base words task x → Gives f c limits lane number objects base base words (task_start base.books.history.items task) x
  at_once_gives (ended.Answered a) is = subst (λ (o : Option (Running T)). Gives f c limits lane number objects base base words (task_start base.books.history.items o) (ended.Answered a)) (sym is.1) (record {
    answer = ((here a is.2).0, λ makes. absurd (is.2.2 makes));
    known = λ told. (here a is.2).1;
    shown = (λ v told sound. subst (λ (s : Since). c.means.shows s v a words) now_is (is.2.5 v), tt);
    remains = λ v w is_v is_w. subst (λ (s : Since). c.means.remains s w a words) now_is (cl.commands.answers.remains_at_once (since_in limits base.books at_end) words a w is.2);
    full = λ full. absurd (is.2.3 full);
    idle = idle is.1;
    halts = tt;
    over = λ why over. refl;
    explained = λ live strayed. absurd (let z : None ≡ Some halt.Strayed = sym live ∙ strayed in cc);
    stays = λ v w is_v is_w sound. is.2.6 w (books_of base.books);
    alone = λ v is_v commit sum lacks. absurd (is.2.7 commit lacks);
    grows = inl (refl, λ makes. is.2.2 makes);
    pending = λ p at. inl at;
    left = λ p at mine. absurd (idle is.1 is.0 p at mine);
    kept = λ opening v w is_v is_w right k e at late. absurd (omega (arith, at.0, late));
  })
  at_once_gives ended.NoMemory (inl is) = subst (λ (o : Option (Running T)). Gives f c limits lane number objects base base words (task_start base.books.history.items o) ended.NoMemory) (sym is.1) (record {
    answer = tt;
    known = λ told. tt;
    shown = (λ v told sound. tt, tt);
    remains = λ v w is_v is_w. tt;
    full = tt;
    idle = idle is.1;
    halts = tt;
    over = λ why over. refl;
    explained = λ live strayed. absurd (let z : None ≡ Some halt.Strayed = sym live ∙ strayed in cc);
    stays = λ v w is_v is_w sound. tt;
    alone = λ v is_v commit sum lacks. absurd lacks;
    grows = inl (refl, λ makes. makes);
    pending = λ p at. inl at;
    left = λ p at mine. absurd (idle is.1 is.0 p at mine);
    kept = λ opening v w is_v is_w right k e at late. absurd (omega (arith, at.0, late));
  })
  at_once_gives ended.NoMemory (inr strayed) = over_gives halt.Strayed strayed ended.NoMemory tt (λ told. tt) (tt, tt) (never strayed)
  at_once_gives (ended.Halted n) is = over_gives halt.Failed is.0 (ended.Halted n) is (λ told. tt) (tt, inl is.0) tt
  at_once_gives ended.DiskFault is = absurd is
  at_once_gives (ended.Outside path) is = over_gives halt.Strayed is.0 (ended.Outside path) is (never is.0) (tt, tt) (never is.0)

-- where all commands were ended, one that is answered at once is answered so
pub ends_too : {F T W A : Type 0} (f : FsSpec F) (m : Meaning W A) (limits : Limits) (old : Base F) (words : W) (task : Option (Running T)) (y : Ended A) → EndsBy old.books.halted (f.refused old.fs) (f.faults old.fs) y → (z : Ended A) → IsAtOnce f m limits old words task z → EndsToo y z
ends_too f m limits old words task (ended.Halted n) by (ended.Halted k) is = ap ended.Halted (is.1 ∙ sym by.1)
ends_too f m limits old words task (ended.Halted n) by (ended.Answered a) is = absurd (let z : None ≡ Some halt.Failed = sym is.0 ∙ by.0 in cc)
ends_too f m limits old words task (ended.Halted n) by ended.NoMemory (inl is) = absurd (let z : None ≡ Some halt.Failed = sym is.0 ∙ by.0 in cc)
ends_too f m limits old words task (ended.Halted n) by ended.NoMemory (inr is) = absurd (let z : Some halt.Strayed ≡ Some halt.Failed = sym is ∙ by.0 in cc)
ends_too f m limits old words task (ended.Halted n) by ended.DiskFault is = absurd is
ends_too f m limits old words task (ended.Halted n) by (ended.Outside path) is = absurd (let z : Some halt.Strayed ≡ Some halt.Failed = sym is.0 ∙ by.0 in cc)
ends_too f m limits old words task (ended.Outside path) by (ended.Outside other) is = inl (let one : Some other ≡ Some path = sym is.1 ∙ by.1 in let same : other ≡ path = cc in ap ended.Outside same)
ends_too f m limits old words task (ended.Outside path) by (ended.Answered a) is = absurd (let z : None ≡ Some halt.Strayed = sym is.0 ∙ by.0 in cc)
ends_too f m limits old words task (ended.Outside path) by ended.NoMemory is = inr refl
ends_too f m limits old words task (ended.Outside path) by ended.DiskFault is = absurd is
ends_too f m limits old words task (ended.Outside path) by (ended.Halted n) is = absurd (let z : Some halt.Failed ≡ Some halt.Strayed = sym is.0 ∙ by.0 in cc)
ends_too f m limits old words task (ended.Answered a) by z is = tt
ends_too f m limits old words task ended.NoMemory by z is = tt
ends_too f m limits old words task ended.DiskFault by z is = tt

-- and while commands go on none was ended so
pub none_too : {F A : Type 0} (f : FsSpec F) (old : Base F) (y z : Ended A) → old.books.halted ≡ None → EndsBy old.books.halted (f.refused old.fs) (f.faults old.fs) y → EndsToo y z
none_too f old (ended.Halted n) z live by = absurd (let z : None ≡ Some halt.Failed = sym live ∙ by.0 in cc)
none_too f old (ended.Outside path) z live by = absurd (let z : None ≡ Some halt.Strayed = sym live ∙ by.0 in cc)
none_too f old (ended.Answered a) z live by = tt
none_too f old ended.NoMemory z live by = tt
none_too f old ended.DiskFault z live by = tt

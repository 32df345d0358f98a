-- What may boot behind a step: as before it, or once another list is published one of two, or once that one lasts it alone.
use Rattle.std.proofs.Common.{◌≡◌, ◌⊎◌, inl, inr, ⊎_elim, ℕ, zero, suc, Bool, true, false, if◌then◌else◌, refl, sym, ◌∙◌, ap, subst, List, [], ◌∷◌, ◌++◌, take, drop, Option, Some, None, IsSome, Contains, nat_eq}
use Rattle.std.proofs.lemmas.List.Elements.{Contains-append_left, Contains-push}
use Rattle.ost_types.specs.declared.object.ObjName.{ObjName}
use Rattle.fs_trait.specs.declared.task.StepResult.TheVariants as turn
use Rattle.fs_trait.specs.declared.types.FsErr.{FsErr}
use Rattle.fs_trait.specs.Change.{Writes}
use Rattle.fs_trait.specs.Image.{IsTree, Told}
use Rattle.fs_trait.specs.View.{View}
use Rattle.boot_model.specs.declared.item.DepId.{DepId}
use Rattle.boot_read.specs.declared.row.BootRow.{BootRow}
use Rattle.durable_list.specs.Standing.{ids_of}
use Rattle.rely_guarantee.specs.declared.books.Base.{Base}
use Rattle.rely_guarantee.specs.declared.books.Books as rust
use Rattle.rely_guarantee.specs.declared.books.Entry.{Entry}
use Rattle.rely_guarantee.specs.declared.books.Pending.{Pending}
use Rattle.rely_guarantee.specs.declared.books.Start.{Start}
use Rattle.rely_guarantee.specs.declared.event.Event.{Event}
use Rattle.rely_guarantee.specs.declared.event.Event.TheVariants.{SetRef, DropRef, Pruned, SetDeployments}
use Rattle.rely_guarantee.specs.declared.kind.Outcome.{Outcome}
use Rattle.rely_guarantee.specs.declared.kind.Outcome.TheVariants as came
use Rattle.rely_guarantee.specs.Books.{Books, books_of, doomed_of}
use Rattle.rely_guarantee.specs.Exact.{IsBooked, IsEntered, IsHeldBy, IsMadeDurableBy, IsNoted, IsPublishedBy, IsUnbooked, Opens, Tells}
use Rattle.rely_guarantee.specs.Laws.{Holds, IsBy, Kind, Quiet, Store, Take, Claim, Publish, Published, Remove, MakeDurable, Runs}
use Rattle.rely_guarantee.specs.Rely.{Interference}
use Rattle.rely_guarantee.specs.Removing.{next_of}
use Rattle.rely_guarantee.specs.State.{SystemState, after, events_of, list_in, next_list, opening_state, removed_by}
use Rattle.rely_guarantee.specs.SystemInvariant.{SystemInvariant}
use Rattle.rely_guarantee.proofs.Acting.{told_same}
use Rattle.rely_guarantee.proofs.States.{events_push, list_push}
use Rattle.ref_book.specs.declared.book.RefBook.{RefBook}
use Rattle.command.specs.BootLaws.{BootLaws, IsTaken, no_list}
use Rattle.command.specs.Doing.{Doing}
use Rattle.command.specs.MayBoot.{Relists, coming_of}
use Rattle.command.specs.Since.{Since}
use Rattle.command.specs.Tasks.{TaskSpec}
use Rattle.lane_system.specs.Booting.{AreRowsBehind, AreUnlisted, BootsOne, BootsOneOrOther, MayBootBy, MayBootNow}
use Rattle.lane_system.specs.Family.{FsSpec}
use Rattle.lane_system.specs.Steps.{Stepped}
use Rattle.lane_system.proofs.Moments.{refused_named}
use Rattle.lane_system.proofs.Places.{held_or}
use Rattle.lane_system.proofs.Sparing.{either_stays, one_stays}

-- ---- what is removed while a list is published: nothing

list_removes : (e : Event) (ids : List DepId) → list_in e ≡ Some ids → removed_by e ≡ []
list_removes (SetRef name seen commit) ids is = refl
list_removes (DropRef name seen) ids is = refl
list_removes (Pruned depth roots held removed) ids is = absurd (let z : None ≡ Some ids = is in cc)
list_removes (SetDeployments change list) ids is = refl

list_dooms : (exclusive : Option ℕ) (pending : Option Pending) (ids : List DepId) → coming_of pending ≡ Some ids → doomed_of exclusive pending ≡ []
list_dooms None None ids is = refl
list_dooms None (Some p) ids is = refl
list_dooms (Some holder) None ids is = refl
list_dooms (Some holder) (Some p) ids is = by (nat_eq holder p.lane)
  where
    by : (b : Bool) → (if b then removed_by p.event else []) ≡ []
    by true = list_removes p.event ids is
    by false = refl

none_taken : (n : ℕ) (l : List ObjName) → l ≡ [] → take 1 (drop n l) ≡ []
none_taken zero l none = ap (take 1) none
none_taken (suc n) l none = ap (λ (x : List ObjName). take 1 (drop (suc n) x)) none

next_none : (b : rust.Books) (ids : List DepId) → coming_of b.pending ≡ Some ids → next_of (books_of b) ≡ []
next_none b ids is = none_taken b.gone (doomed_of b.exclusive b.pending) (list_dooms b.exclusive b.pending ids is)

-- ---- the rows behind one more change

unlisted_front : (entries : List Entry) (e : Entry) → AreUnlisted (events_of (entries ++ e ∷ [])) → AreUnlisted (events_of entries)
unlisted_front entries e none x has = none x (subst (λ (l : List Event). Contains l x) (sym (events_push entries e)) (Contains-append_left (events_of entries) (e.event ∷ []) x has))

-- of no other list
same_rows : (opening : List BootRow) (start : SystemState) (entries : List Entry) (e : Entry) (rows : List BootRow) → list_in e.event ≡ None → AreRowsBehind opening start (events_of entries) rows → AreRowsBehind opening start (events_of (entries ++ e ∷ [])) rows
same_rows opening start entries e rows none are = record {
  listed = list_push entries e start ∙ ap (λ (o : Option (List DepId)). next_list o (after (events_of entries) start).deployments) none ∙ are.listed;
  same = λ unlisted. are.same (unlisted_front entries e unlisted);
}

-- of another one
other_rows : (opening : List BootRow) (start : SystemState) (entries : List Entry) (e : Entry) (ids : List DepId) (rows : List BootRow) → list_in e.event ≡ Some ids → ids ≡ ids_of rows → AreRowsBehind opening start (events_of (entries ++ e ∷ [])) rows
other_rows opening start entries e ids rows is come = record {
  listed = list_push entries e start ∙ ap (λ (o : Option (List DepId)). next_list o (after (events_of entries) start).deployments) is ∙ come;
  same = λ unlisted. absurd (let z : None ≡ Some ids = sym (unlisted e.event (subst (λ (l : List Event). Contains l e.event) (sym (events_push entries e)) (Contains-push (events_of entries) e.event))) ∙ is in cc);
}

-- the lane's own actor takes its steps
own_step : (actor lane : ℕ) (e : Event) → IsBy (Publish e) actor lane → actor ≡ lane
own_step actor lane e (inl is) = is
own_step actor lane e (inr store) = cc

own_last : (actor lane : ℕ) (e : Event) → IsBy (MakeDurable e) actor lane → actor ≡ lane
own_last actor lane e (inl is) = is
own_last actor lane e (inr store) = cc

-- a change that is published stays so
held_books : (outcome : Outcome) (old new : rust.Books) → IsHeldBy outcome old new → IsUnbooked old new
held_books came.More old new is = is
held_books (came.Halted why) old new is = is
held_books came.Blocked old new is = absurd is
held_books came.Done old new is = absurd is
held_books (came.Refused e) old new is = absurd is

module _ {F T W A : Type 0} (f : FsSpec F) (k : TaskSpec T) (d : Doing T W A) (laws : BootLaws k d) (since : Since) (c : W) (actor lane number : ℕ) (refs refs' : RefBook) (opening : List BootRow) (outcome : Outcome) (t t' : T) (old new : Base F)
    (step : Stepped f k actor lane number refs refs' outcome t t' old new) (sound : SystemInvariant f.view f.clock f.spare f.was old) (after_ : d.pursues since c t) (runs : Runs k.kind k.facts lane t (f.view old.fs) (books_of old.books))
    (v : View) (told : f.view old.fs ≡ Some v) (tree : IsTree v.now) (not : outcome ≡ came.Blocked → ⊥) where
  abbrev w : View
  w = (step.acts.does v told).0

  told_w : f.view new.fs ≡ Some w
  told_w = (step.acts.does v told).1

  does : Interference actor lane v (books_of old.books) w (books_of new.books)
  does = (step.acts.does v told).2

  wrote : Writes (k.writes actor t v) v w
  wrote = told_same (f.view new.fs) w told_w (step.wrote v told)

  taken : IsTaken k d since c actor lane t v (books_of old.books)
  taken = record { after = after_; by = step.by not; holds = runs.holds; facts = runs.facts v told }

  abbrev begin : SystemState
  begin = opening_state old.books.start

  abbrev events : List Event
  events = events_of old.books.history.items

  -- by the list that is published, and the changes that last
  abbrev Now : Start → List Entry → Option Pending → View → Type 0
  Now start entries pending u = MayBootBy since.limits opening (opening_state start) (events_of entries) (coming_of pending) u

  start_is : new.books.start ≡ old.books.start
  start_is = step.acts.books.start

  -- a step that publishes no list
  stays : ¬ (Relists (k.kind t)) → MayBootNow since.limits opening old.books v → MayBootNow since.limits opening old.books w
  stays quiet may = by (coming_of old.books.pending) refl may
    where
      by : (o : Option (List DepId)) → coming_of old.books.pending ≡ o → MayBootBy since.limits opening begin events o v → MayBootBy since.limits opening begin events o w
      by None is x = record { rows = x.rows; are = x.are; boots = one_stays k d laws since c actor lane t v w (books_of old.books) (books_of new.books) taken quiet wrote does (sound.relists v told) since.limits x.rows x.are.listed x.boots }
      by (Some ids) is x = record {
        before = x.before;
        after = x.after;
        are = x.are;
        come = x.come;
        boots = either_stays k d laws since c actor lane t v w (books_of old.books) (books_of new.books) taken quiet wrote does (sound.relists v told) since.limits x.before x.after (is ∙ ap Some x.come) x.are.listed (next_none old.books ids is) x.boots;
      }

  -- where the books tell the same changes
  unbooked : IsUnbooked old.books new.books → MayBootNow since.limits opening old.books w → MayBootNow since.limits opening new.books w
  unbooked same may =
      subst (λ (o : Option Pending). Now new.books.start new.books.history.items o w) (sym same.1)
      (subst (λ (h : List Entry). Now new.books.start h old.books.pending w) (sym same.0)
      (subst (λ (s : Start). Now s old.books.history.items old.books.pending w) (sym start_is) may))

  still : ¬ (Relists (k.kind t)) → IsUnbooked old.books new.books → MayBootNow since.limits opening old.books v → MayBootNow since.limits opening new.books w
  still quiet same may = unbooked same (stays quiet may)

  -- the step that publishes a change
  module _ (e : Event) (kind : k.kind t ≡ Publish e) where
    abbrev here : Option Pending
    here = Some (record { lane = lane; command = number; event = e })

    nothing_pending : old.books.pending ≡ None
    nothing_pending = by old.books.pending refl
      where
        opens : Opens (Publish e) lane (books_of old.books)
        opens = subst (λ (y : Kind). Opens y lane (books_of old.books)) kind (step.opens not)

        holds : Holds (Publish e) lane (books_of old.books)
        holds = subst (λ (y : Kind). Holds y lane (books_of old.books)) kind runs.holds

        by : (o : Option Pending) → old.books.pending ≡ o → old.books.pending ≡ None
        by None is = is
        by (Some p) is = absurd (holds p is (opens.1 p.lane (sound.ordered.owner p is)))

    own : IsTaken k d since c lane lane t v (books_of old.books)
    own = subst (λ (a : ℕ). IsTaken k d since c a lane t v (books_of old.books)) (own_step actor lane e (subst (λ (y : Kind). IsBy y actor lane) kind taken.by)) taken

    own_wrote : Writes (k.writes lane t v) v w
    own_wrote = subst (λ (a : ℕ). Writes (k.writes a t v) v w) (own_step actor lane e (subst (λ (y : Kind). IsBy y actor lane) kind taken.by)) wrote

    noted : IsNoted lane number e old.books new.books → MayBootNow since.limits opening old.books v → MayBootNow since.limits opening new.books w
    noted booked may = by (list_in e) refl
      where
        -- on the new books
        moved : Now old.books.start old.books.history.items here w → MayBootNow since.limits opening new.books w
        moved x =
            subst (λ (o : Option Pending). Now new.books.start new.books.history.items o w) (sym booked.1)
            (subst (λ (h : List Entry). Now new.books.start h here w) (sym booked.0)
            (subst (λ (s : Start). Now s old.books.history.items here w) (sym start_is) x))

        -- no list was published before
        alone : (u : View) → MayBootNow since.limits opening old.books u → BootsOne since.limits opening begin events u
        alone u x = subst (λ (o : Option Pending). Now old.books.start old.books.history.items o u) nothing_pending x

        by : (o : Option (List DepId)) → list_in e ≡ o → MayBootNow since.limits opening new.books w
        by None is =
            let quiet : ¬ (Relists (k.kind t)) = (λ r. no_list (list_in e) is (subst Relists kind r)) in
            moved (subst (λ (o : Option (List DepId)). MayBootBy since.limits opening begin events o w) (sym is) (alone w (stays quiet may)))
        by (Some ids) is =
            let x = alone v may in
            let r = laws.publishes since c lane t v w (books_of old.books) e x.rows kind (subst IsSome (sym is) refl) own tree own_wrote x.are.listed x.boots in
            let come : ids ≡ ids_of r.after = (let z : Some ids ≡ Some (ids_of r.after) = sym is ∙ r.ids in cc) in
            moved (subst (λ (o : Option (List DepId)). MayBootBy since.limits opening begin events o w) (sym is) (record { before = x.rows; after = r.after; are = x.are; come = come; boots = r.boots }))

    -- one that was refused did nothing
    refused : (x : FsErr) → outcome ≡ came.Refused x → IsUnbooked old.books new.books → MayBootNow since.limits opening old.books v → MayBootNow since.limits opening new.books w
    refused x is same may =
        let tells : Tells k.leaves k.refuses t (came.Refused x) t' (f.view old.fs) (f.view new.fs) = subst (λ (o : Outcome). Tells k.leaves k.refuses t o t' (f.view old.fs) (f.view new.fs)) is step.tells in
        let still_v : f.view new.fs ≡ Some v = (tells v told).1 (refused_named (f.faults old.fs) (f.faults new.fs) outcome step.cause x is) in
        let one : Some w ≡ Some v = sym told_w ∙ still_v in
        let k : w ≡ v = cc in
        unbooked same (subst (MayBootNow since.limits opening old.books) (sym k) may)

    published_by : (o : Outcome) → outcome ≡ o → IsPublishedBy lane number e o old.books new.books → MayBootNow since.limits opening old.books v → MayBootNow since.limits opening new.books w
    published_by came.More is booked may = noted booked may
    published_by (came.Halted why) is booked may = noted booked may
    published_by came.Blocked is booked may = absurd (not is)
    published_by (came.Refused x) is booked may = refused x is booked may
    published_by came.Done is booked may = absurd booked

  -- the one that makes it durable
  module _ (e : Event) (kind : k.kind t ≡ MakeDurable e) where
    quiet : ¬ (Relists (k.kind t))
    quiet r = let z : Relists (MakeDurable e) = subst Relists kind r in absurd z

    holds : Holds (MakeDurable e) lane (books_of old.books)
    holds = subst (λ (y : Kind). Holds y lane (books_of old.books)) kind runs.holds

    abbrev entry : Entry
    entry = record { lane = lane; command = holds.command; event = e; moment = f.clock new.fs }

    entered : outcome ≡ came.Done → IsEntered (f.clock new.fs) old.books new.books → MayBootNow since.limits opening old.books v → MayBootNow since.limits opening new.books w
    entered is booked may = by (list_in e) refl
      where
        moved : BootsOne since.limits opening begin (events_of (old.books.history.items ++ entry ∷ [])) w → MayBootNow since.limits opening new.books w
        moved x =
            subst (λ (o : Option Pending). Now new.books.start new.books.history.items o w) (sym booked.0)
            (subst (λ (h : List Entry). Now new.books.start h None w) (sym (booked.1 _ holds.pending))
            (subst (λ (s : Start). Now s (old.books.history.items ++ entry ∷ []) None w) (sym start_is) x))

        by_pending : (u : View) → MayBootNow since.limits opening old.books u → MayBootBy since.limits opening begin events (list_in e) u
        by_pending u x = subst (λ (o : Option Pending). Now old.books.start old.books.history.items o u) holds.pending x

        by : (o : Option (List DepId)) → list_in e ≡ o → MayBootNow since.limits opening new.books w
        by None none =
            let x : BootsOne since.limits opening begin events w = subst (λ (o : Option (List DepId)). MayBootBy since.limits opening begin events o w) none (by_pending w (stays quiet may)) in
            moved (record { rows = x.rows; are = same_rows opening begin old.books.history.items entry x.rows none x.are; boots = x.boots })
        by (Some ids) some =
            let was : BootsOneOrOther since.limits opening begin events ids v = subst (λ (o : Option (List DepId)). MayBootBy since.limits opening begin events o v) some (by_pending v may) in
            let coming : coming_of old.books.pending ≡ Some ids = ap coming_of holds.pending ∙ some in
            let lane_is = own_last actor lane e (subst (λ (y : Kind). IsBy y actor lane) kind taken.by) in
            let own = subst (λ (a : ℕ). IsTaken k d since c a lane t v (books_of old.books)) lane_is taken in
            let own_wrote = subst (λ (a : ℕ). Writes (k.writes a t v) v w) lane_is wrote in
            let tells : Tells k.leaves k.refuses t came.Done t' (f.view old.fs) (f.view new.fs) = subst (λ (o : Outcome). Tells k.leaves k.refuses t o t' (f.view old.fs) (f.view new.fs)) is step.tells in
            let leaves : k.leaves t (turn.Done tt) t' v w = told_same (f.view new.fs) w told_w (tells v told) in
            let stands = laws.settles since c lane t t' v w (books_of old.books) e was.boots.link was.boots.old was.boots.new was.before was.after kind (some ∙ ap Some was.come) own own_wrote leaves was.are.listed was.boots.lists in
            let both = either_stays k d laws since c actor lane t v w (books_of old.books) (books_of new.books) taken quiet wrote does (sound.relists v told) since.limits was.before was.after (coming ∙ ap Some was.come) was.are.listed (next_none old.books ids coming) was.boots in
            moved (record { rows = was.after; are = other_rows opening begin old.books.history.items entry ids was.after some was.come; boots = record { list = stands; deployments = both.come } })

    durable_by : (o : Outcome) → outcome ≡ o → IsMadeDurableBy (f.clock new.fs) o old.books new.books → MayBootNow since.limits opening old.books v → MayBootNow since.limits opening new.books w
    durable_by came.Done is booked may = entered is booked may
    durable_by (came.Halted why) is booked may = still quiet booked may
    durable_by came.More is booked may = absurd booked
    durable_by came.Blocked is booked may = absurd booked
    durable_by (came.Refused x) is booked may = absurd booked

  quiet_by : (y : Kind) → k.kind t ≡ y → ¬ (Relists y) → ¬ (Relists (k.kind t))
  quiet_by y is none r = none (subst Relists is r)

  by_kind : (y : Kind) → k.kind t ≡ y → IsBooked y lane number (f.clock new.fs) outcome old.books new.books → MayBootNow since.limits opening old.books v → MayBootNow since.limits opening new.books w
  by_kind Quiet is booked may = still (quiet_by Quiet is (λ r. r)) booked may
  by_kind Store is booked may = still (quiet_by Store is (λ r. r)) booked may
  by_kind (Take wants) is booked may = still (quiet_by (Take wants) is (λ r. r)) booked may
  by_kind (Claim name) is booked may = still (quiet_by (Claim name) is (λ r. r)) booked may
  by_kind (Publish e) is booked may = published_by e is outcome refl booked may
  by_kind (Published e owed) is booked may = still (quiet_by (Published e owed) is (λ r. r)) (held_books outcome old.books new.books booked) may
  by_kind (Remove e owed) is booked may = still (quiet_by (Remove e owed) is (λ r. r)) (held_books outcome old.books new.books booked) may
  by_kind (MakeDurable e) is booked may = durable_by e is outcome refl booked may

  pub taken_boots : MayBootNow since.limits opening old.books v → Told (f.view new.fs) (λ u. MayBootNow since.limits opening new.books u)
  taken_boots may = (w, told_w, by_kind (k.kind t) refl step.booked may)

-- held off it leaves all as it was
pub step_boots : {F T W A : Type 0} (f : FsSpec F) (k : TaskSpec T) (d : Doing T W A) → BootLaws k d → (since : Since) (c : W) (actor lane number : ℕ) (refs refs' : RefBook) (opening : List BootRow) (outcome : Outcome) (t t' : T) (old new : Base F) → Stepped f k actor lane number refs refs' outcome t t' old new
    → SystemInvariant f.view f.clock f.spare f.was old → d.pursues since c t → Runs k.kind k.facts lane t (f.view old.fs) (books_of old.books) → (v : View) → f.view old.fs ≡ Some v → IsTree v.now → MayBootNow since.limits opening old.books v → Told (f.view new.fs) (λ u. MayBootNow since.limits opening new.books u)
step_boots f k d laws since c actor lane number refs refs' opening outcome t t' old new step sound after_ runs v told tree may = ⊎_elim
    (λ held. (let same = (step.blocked held).0 in (v, subst (λ (b : Base _). f.view b.fs ≡ Some v) (sym same) told, subst (λ (b : Base _). MayBootNow since.limits opening b.books v) (sym same) may)))
    (λ not. taken_boots f k d laws since c actor lane number refs refs' opening outcome t t' old new step sound after_ runs v told tree not may)
    (held_or outcome)

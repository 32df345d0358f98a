-- The store stays good over an act.
use Rattle.std.proofs.Common.{◌≡◌, ◌⊎◌, inl, inr, ⊎_elim, ◌<◌, ◌≤◌, ◌+◌, ◌^◌, ◌≢◌, ℕ, refl, sym, ◌∙◌, ap, subst, arith, List, [], ◌∷◌, Contains, length, length-append, Option, Some, None}
use Rattle.std.specs.Prelude.{min}
use Rattle.std.proofs.Math.Nat.{min-eq_left}
use Rattle.std.proofs.lemmas.List.Elements.{Contains-append_cases}
use Rattle.fs_trait.specs.declared.task.StepResult.TheVariants as turn
use Rattle.fs_trait.specs.Image.{Told as IfTold}
use Rattle.fs_trait.specs.View.{all_synced}
use Rattle.fs_trait.proofs.Effects.{may_now}
use Rattle.fs_trait.proofs.Facts.{vacant_absent}
use Rattle.repo_layout.specs.Place.{Object}
use Rattle.repo_layout.proofs.Places.{place-object}
use Rattle.store_check.specs.Listing.{IsThere}
use Rattle.rely_guarantee.specs.declared.event.Event.{Event}
use Rattle.rely_guarantee.specs.declared.event.Event.TheVariants.{SetRef, DropRef, Pruned, SetDeployments}
use Rattle.rely_guarantee.specs.Exact.{IsBooked, Locks, gone_in}
use Rattle.rely_guarantee.specs.Laws.{Holds, Kind, Quiet, Store, Take, Claim, Publish, Published, Remove, MakeDurable, StepObligation, Stood}
use Rattle.rely_guarantee.specs.Removing.{next_of}
use Rattle.rely_guarantee.proofs.Lasting.{none_out}
use Rattle.rely_guarantee.proofs.Mays.{at_place}
use Rattle.durable_store.specs.Removals.{Except}
use Rattle.durable_store.specs.Writing.{Adds}
use Rattle.command.specs.Removed.{AreAmong}
use Rattle.command.specs.Removing.{IsPrune, IsRemoving, Removes}
use Rattle.lane_system.specs.Removals.{swept_in}
use Rattle.lane_system.proofs.Sweeping.{next_some, removed_more, settled_none, published_same, storing_none, unremoving_same}
use Rattle.lane_system.proofs.Telling.{standing_less, standing_more, standing_none}
use Rattle.ost_types.specs.declared.limits.Limits.{Limits}
use Rattle.ost_types.specs.declared.object.ObjName.{ObjName}
use Rattle.ost_types.specs.Path.{Path}
use Rattle.fs_trait.specs.declared.types.FsErr.{FsErr}
use Rattle.fs_trait.specs.declared.types.FsErr.TheVariants as err
use Rattle.fs_trait.specs.Change.{Writes}
use Rattle.fs_trait.specs.Effect.{OfNone}
use Rattle.fs_trait.specs.Seen.{Seen, Vacant, shows}
use Rattle.fs_trait.specs.View.{Disk, View}
use Rattle.fs_trait.proofs.Images.{Image-now}
use Rattle.repo_layout.specs.RefFile.{IsSum}
use Rattle.repo_model.specs.Objects.{path_of}
use Rattle.repo_model.proofs.Named.{IsSum-named}
use Rattle.obj_store.specs.declared.phase.Put.{Put}
use Rattle.obj_store.specs.declared.phase.Put.TheVariants.{Present, Stored}
use Rattle.rely_guarantee.specs.declared.books.Base.{Base}
use Rattle.rely_guarantee.specs.declared.kind.Halt.{Halt}
use Rattle.rely_guarantee.specs.declared.kind.Outcome.{Outcome}
use Rattle.rely_guarantee.specs.declared.kind.Outcome.TheVariants as came
use Rattle.rely_guarantee.specs.Books.{books_of}
use Rattle.rely_guarantee.specs.Exact.{Tells}
use Rattle.rely_guarantee.specs.Lasting.{Outlasts, Stays}
use Rattle.rely_guarantee.specs.SystemInvariant.{SystemInvariant}
use Rattle.rely_guarantee.specs.State.{opening_state}
use Rattle.ref_book.specs.declared.book.RefBook.{RefBook}
use Rattle.command.specs.declared.told.Told.{Told}
use Rattle.command.specs.Since.{Since}
use Rattle.command.specs.Sound.{IsSoundStore}
use Rattle.store_check.specs.Good.{IsGoodStore}
use Rattle.durable_store.specs.Brought.{NoHashCollisionOn}
use Rattle.durable_store.specs.Keeping.{KeepsGood}
use Rattle.durable_store.specs.Known.{KeepsKnown, KnownBytes, MayHoldOnly}
use Rattle.durable_store.specs.Standing.{StoreStands}
use Rattle.durable_store.specs.Writing.{Grows, KeepsStore}
use Rattle.durable_store.proofs.Cutting.{all_now, cut_stands, fewer_names}
use Rattle.durable_store.proofs.Growing.{adds_still}
use Rattle.durable_store.proofs.Keepings.{good_on, good_store, good_wider}
use Rattle.durable_store.proofs.Knowing.{known_on, known_wider, may_only_on}
use Rattle.durable_store.proofs.Removing.{removal_stands}
use Rattle.durable_store.proofs.Steps.{keeps_wider, stands_kept}
use Rattle.lane_system.specs.declared.lane.Lane.{Lane}
use Rattle.lane_system.specs.declared.lane.Running.{Running}
use Rattle.lane_system.specs.Acts.{Acts}
use Rattle.lane_system.specs.Family.{Family, FsSpec}
use Rattle.lane_system.specs.Known.{AreKnown}
use Rattle.lane_system.specs.LaneActs.{Takes, task_start}
use Rattle.lane_system.specs.Lanes.{IsCommand}
use Rattle.lane_system.specs.States.{since_in}
use Rattle.lane_system.specs.Steps.{CountsAt, IsCounted, standing}
use Rattle.lane_system.specs.Storing.{AreStored, HasBegun, IsConfigured, WasBrought}
use Rattle.lane_system.specs.System.{System}
use Rattle.lane_system.proofs.Family.{FamilyLaws, FsLaws}
use Rattle.lane_system.proofs.Prefixes.{since_is}
use Rattle.lane_system.proofs.Taking.{told, told_after, told_facts, told_holds}

-- one more was counted, where 32 bits are enough
counted_one : (before most now : ℕ) (met : Option (ObjName × Put)) (name : ObjName) → met ≡ Some (name, Stored) → IsCounted before met now → before < most → most < 2 ^ 32 → now ≡ before + 1
counted_one before most now met name is counted room wide =
    let k : now ≡ min (before + 1) 4294967295 = subst (λ m. IsCounted before m now) is counted in
    k ∙ min-eq_left (omega (arith, room, wide))

-- nor are they fewer then
pub counted_up : (before most now : ℕ) (met : Option (ObjName × Put)) → IsCounted before met now → ((name : ObjName) → met ≡ Some (name, Stored) → before < most) → most < 2 ^ 32 → before ≤ now
counted_up before most now None is room wide = omega (arith, is)
counted_up before most now (Some (name, Stored)) is room wide = omega (arith, counted_one before most now (Some (name, Stored)) name refl is (room name refl) wide)
counted_up before most now (Some (name, Present)) is room wide = omega (arith, is)

event_or : (e : Event) → IsPrune e ⊎ ¬ (IsPrune e)
event_or (SetRef name seen commit) = inr (λ is. is)
event_or (DropRef name seen) = inr (λ is. is)
event_or (Pruned depth roots held removed) = inl tt
event_or (SetDeployments change list) = inr (λ is. is)

-- a step removes, or it doesn't
removing_or : (k : Kind) → IsRemoving k ⊎ ¬ (IsRemoving k)
removing_or (Remove e n) = inl tt
removing_or (Published e n) = event_or e
removing_or (MakeDurable e) = event_or e
removing_or Quiet = inr (λ is. is)
removing_or Store = inr (λ is. is)
removing_or (Take wants) = inr (λ is. is)
removing_or (Claim name) = inr (λ is. is)
removing_or (Publish e) = inr (λ is. is)

-- An act, by which no command is forgotten that began.
module _ {F T W A : Type 0} (f : FsSpec F) (c : Family T W A) (fl : FsLaws f) (cl : FamilyLaws c) (limits : Limits) (actor lane : ℕ) (refs refs' : RefBook) (objects objects' : ℕ) (old new : Base F) (lanes lanes' : List (Lane T W A))
    (acts : Acts f limits actor lane refs refs' old new) (commands : (a n : ℕ) (words : W) → IsCommand lanes a n words → IsCommand lanes' a n words) (begun : (a n start : ℕ) → HasBegun lanes a n start → HasBegun lanes' a n start)
    (early : (a n start : ℕ) → HasBegun lanes a n start → start ≤ length old.books.history.items) (v : View) (told_v : f.view old.fs ≡ Some v) where
  abbrev before : System F T W A
  before = record { base = old; lanes = lanes; limits = limits; objects = objects }

  abbrev behind : System F T W A
  behind = record { base = new; lanes = lanes'; limits = limits; objects = objects' }

  abbrev w : View
  w = (acts.does v told_v).0

  told_w : f.view new.fs ≡ Some w
  told_w = (acts.does v told_v).1

  out : Outlasts acts.out f.clock f.was old.fs new.fs v w
  out =
      let l = acts.lasts v told_v in
      let one : Some l.0 ≡ Some w = sym l.1 ∙ told_w in
      let e : l.0 ≡ w = cc in
      subst (Outlasts acts.out f.clock f.was old.fs new.fs v) e l.2

  wider : (name : ObjName) (bytes : List ℕ) → WasBrought c.means before name bytes → WasBrought c.means behind name bytes
  wider name bytes is = record {
    lane = is.lane;
    number = is.number;
    command = is.command;
    is = commands is.lane is.number is.command is.is;
    start = is.start;
    begun = begun is.lane is.number is.start is.begun;
    brings = subst (λ (s : Since). c.means.brings s is.command name bytes) (sym (since_is actor lane old.books new.books acts.books limits is.start (early is.lane is.number is.start is.begun))) is.brings;
  }

  widened : (stored : AreStored f c.means before v) → KeepsGood (f.was old.fs) limits (WasBrought c.means behind) IsConfigured stored.names old.books.opened v
  widened stored = good_wider (f.was old.fs) limits (WasBrought c.means before) (WasBrought c.means behind) IsConfigured stored.names old.books.opened v wider stored.keeps

  all_known : (opening : Disk) → AreKnown f c.means opening before v → KeepsKnown (f.was old.fs) (KnownBytes opening (WasBrought c.means behind)) old.books.opened v
  all_known opening known = known_wider (f.was old.fs) (KnownBytes opening (WasBrought c.means before)) (KnownBytes opening (WasBrought c.means behind)) old.books.opened v
      (λ name bytes is. ⊎_elim (λ had. inl had) (λ brought. inr (wider name bytes brought)) is) known

  -- by the store in the view after the act
  from_stands : (stored : AreStored f c.means before v) (next : List ObjName) → StoreStands limits (WasBrought c.means behind) IsConfigured next w → length next ≤ limits.objects → (new.books.halted ≡ None → length next ≤ objects' + length (swept_in new.books)) → (new.books.halted ≡ None → AreAmong (swept_in new.books) next) → AreStored f c.means behind w
  from_stands stored next stands few counted swept = record {
    names = next;
    counted = counted;
    swept = swept;
    narrow = stored.narrow;
    keeps = subst (λ (m : ℕ). KeepsGood (f.was new.fs) limits (WasBrought c.means behind) IsConfigured next m w) (sym acts.books.opened)
        (good_on f.view f.clock f.was fl.is.only_now limits (WasBrought c.means behind) IsConfigured stored.names next old.fs new.fs v w old.books.opened told_w acts.time (widened stored) stands few (acts.sound.stands w told_w).folders);
  }

  -- nothing was done
  pub stored_still : w ≡ v → new ≡ old → objects' ≡ objects → AreStored f c.means before v → AreStored f c.means behind w
  stored_still same still count stored =
      let keeps = widened stored in
      let swept : swept_in new.books ≡ swept_in old.books = ap (λ (b : Base F). swept_in b.books) still in
      from_stands stored stored.names (subst (StoreStands limits (WasBrought c.means behind) IsConfigured stored.names) (sym same) keeps.now) keeps.few (λ live. omega (arith, stored.counted (acts.live live), count, ap length swept)) (λ live. subst (λ (l : List ObjName). AreAmong l stored.names) (sym swept) (stored.swept (acts.live live)))

  -- which bytes the disk ever held, by those that a crash may leave now
  knows : (opening : Disk) → MayHoldOnly (KnownBytes opening (WasBrought c.means behind)) w → AreKnown f c.means opening before v → AreKnown f c.means opening behind w
  knows opening may known = subst (λ (m : ℕ). KeepsKnown (f.was new.fs) (KnownBytes opening (WasBrought c.means behind)) m w) (sym acts.books.opened)
      (known_on f.view f.clock f.was fl.is.only_now (KnownBytes opening (WasBrought c.means behind)) old.fs new.fs v w old.books.opened told_w acts.time may (all_known opening known))

  pub known_still : w ≡ v → (opening : Disk) → AreKnown f c.means opening before v → AreKnown f c.means opening behind w
  known_still same opening known = knows opening (subst (MayHoldOnly (KnownBytes opening (WasBrought c.means behind))) (sym same) (all_known opening known).now) known

  -- if reads never saw other bytes with the name of what was brought, they didn't before
  pub alone_before : ((u : View) → f.was new.fs new.books.opened u → NoHashCollisionOn (WasBrought c.means behind) u.now) → (u : View) → f.was old.fs old.books.opened u → NoHashCollisionOn (WasBrought c.means before) u.now
  alone_before alone u had name bytes other is stored =
      alone u (subst (λ m. f.was new.fs m u) (sym acts.books.opened) (acts.time.keeps old.books.opened u (fl.is.bound old.fs old.books.opened u had) had)) name bytes other (wider name bytes is) stored

  -- each object that stands is what its name says
  pub sound_now : AreStored f c.means before v → old.books.opened ≤ f.clock old.fs → IsSoundStore limits v.now
  sound_now stored from =
      let now = fl.counts_now old.fs old.books.opened v from told_v in
      (stored.keeps.since old.books.opened v.now (omega arith) (v, now, Image-now v (fl.tree old.fs v told_v))).sound

  -- and then no answer tells that an object isn't there as its name says
  pub no_outside : AreStored f c.means before v → old.books.opened ≤ f.clock old.fs → ((u : View) → f.was new.fs new.books.opened u → NoHashCollisionOn (WasBrought c.means behind) u.now) → (since : Since) (a : A) (words : W) → since.limits ≡ limits → c.means.shows since v a words → c.means.outside a → ⊥
  no_outside stored from alone since a words bounds shown is =
      let now = fl.counts_now old.fs old.books.opened v from told_v in
      let good = stored.keeps.since old.books.opened v.now (omega arith) (v, now, Image-now v (fl.tree old.fs v told_v)) in
      cl.commands.answers.outside since v a words (subst (λ (l : Limits). IsGoodStore l v.now) (sym bounds) (good_store limits (WasBrought c.means before) IsConfigured v.now good (alone_before alone v now))) shown is

  -- a step of a task of a command that has begun behind it
  module _ (number : ℕ) (words : W) (task : Option (Running T)) (outcome : Outcome) (t' : T) (y : Takes f c limits actor lane number refs refs' objects old new words task outcome t')
      (sound : SystemInvariant f.view f.clock f.spare f.was old) (taken : outcome ≡ came.Blocked → ⊥) (counts : CountsAt c.doing (standing old.books.gone new.books.gone objects) t' outcome objects') (halts : (why : Halt) → outcome ≡ came.Halted why → new.books.halted ≡ Some why)
      (is : IsCommand lanes' lane number words) (began : HasBegun lanes' lane number (task_start old.books.history.items task)) where
    abbrev start : ℕ
    start = task_start old.books.history.items task

    abbrev since : Since
    since = since_in limits old.books start

    abbrev t : T
    t = told f c fl cl limits actor lane number refs refs' objects old new words task outcome t' y

    abbrev count : Told
    count = record { objects = objects }

    after : c.doing.pursues since words t
    after = told_after f c fl cl limits actor lane number refs refs' objects old new words task outcome t' y

    facts : c.tasks.facts lane t v (books_of old.books)
    facts = told_facts f c fl cl limits actor lane number refs refs' objects old new words task outcome t' y v told_v

    abbrev At : Path → Seen → Type 0
    At = c.tasks.writes actor t v

    here : (u : View) → f.view new.fs ≡ Some u → u ≡ w
    here u is_u = let e : Some u ≡ Some w = sym is_u ∙ told_w in cc

    wrote : Writes At v w
    wrote = let k = y.step.wrote v told_v in subst (Writes At v) (here k.0 k.1) k.2

    brought : (name : ObjName) (bytes : List ℕ) → c.means.brings since words name bytes → WasBrought c.means behind name bytes
    brought name bytes of = record {
      lane = lane;
      number = number;
      command = words;
      is = is;
      start = start;
      begun = began;
      brings = subst (λ (s : Since). c.means.brings s words name bytes) (sym (since_is actor lane old.books new.books acts.books limits start y.early)) of;
    }

    -- a step writes no bytes but those that its command brings
    pub known_step : (opening : Disk) → AreKnown f c.means opening before v → AreKnown f c.means opening behind w
    known_step opening known = knows opening
        (may_only_on (KnownBytes opening (WasBrought c.means behind)) At v w wrote
        (λ name bytes s writes holds named. inr (brought name bytes (cl.commands.store.brings since actor lane words t v (books_of old.books) name s bytes after facts (IsSum-named name bytes named) writes holds)))
        (all_known opening known).now)
        known

    refused_still : (e : FsErr) → ((e ≡ err.NoMemory) ⊎ c.tasks.refuses t v e) × (OfNone e → f.view new.fs ≡ Some v) → w ≡ v
    refused_still e said = sym (here v (said.1 (⊎_elim
        (λ none. subst OfNone (sym none) tt)
        (λ why. cl.commands.steps.refused (opening_state old.books.start) old.books.history.items old.books.pending lane t v (books_of old.books) e (fl.tree old.fs v told_v) (sound.stands v told_v) facts why)
        said.0)))

    abbrev kind : Kind
    kind = c.tasks.kind t

    holds : Holds kind lane (books_of old.books)
    holds = told_holds f c fl cl limits actor lane number refs refs' objects old new words task outcome t' y

    -- how many are counted behind it, where it stored none
    abbrev left : ℕ
    left = standing old.books.gone new.books.gone objects

    -- no fewer are counted behind it, if it stored one
    left_counted : limits.objects < 2 ^ 32 → left ≤ objects'
    left_counted wide = by outcome y.step.tells counts
      where
        by : (o : Outcome) → Tells c.tasks.leaves c.tasks.refuses t o t' (f.view old.fs) (f.view new.fs) → CountsAt c.doing left t' o objects' → left ≤ objects'
        by came.More tells is = counted_up left limits.objects objects' (c.doing.met t') is (λ name met. (let k = tells v told_v in
            omega (arith, (cl.commands.store.lacked count since words y.work t' v k.0 name y.after k.2 met).0, standing_less old.books.gone new.books.gone objects))) wide
        by came.Done tells is = omega (arith, is)
        by came.Blocked tells is = omega (arith, is)
        by (came.Halted why) tells is = omega (arith, is)
        by (came.Refused e) tells is = omega (arith, is)

    -- ---- a step that doesn't remove

    module _ (plain : ¬ (IsRemoving kind)) where
      unremoved : (o : Outcome) (k : Kind) → ¬ (IsRemoving k) → new.books.gone ≡ gone_in k o old.books.gone → new.books.gone ≤ old.books.gone
      unremoved o (Remove e n) plain_ is = absurd (plain_ tt)
      unremoved o Quiet plain_ is = omega (arith, is)
      unremoved o Store plain_ is = omega (arith, is)
      unremoved o (Take wants) plain_ is = omega (arith, is)
      unremoved o (Claim name) plain_ is = omega (arith, is)
      unremoved came.More (Publish e) plain_ is = omega (arith, is)
      unremoved (came.Halted why) (Publish e) plain_ is = omega (arith, is)
      unremoved came.Done (Publish e) plain_ is = omega (arith, is)
      unremoved came.Blocked (Publish e) plain_ is = omega (arith, is)
      unremoved (came.Refused f) (Publish e) plain_ is = omega (arith, is)
      unremoved o (Published e n) plain_ is = omega (arith, is)
      unremoved o (MakeDurable e) plain_ is = omega (arith, is)

      left_same : left ≡ objects
      left_same = standing_none old.books.gone new.books.gone objects (unremoved outcome kind plain y.step.gone)

      swept_same : swept_in new.books ≡ swept_in old.books
      swept_same = unremoving_same actor lane number (f.clock new.fs) old.books new.books acts.books kind outcome taken holds plain y.step.booked y.step.locks y.step.gone

      does : KeepsStore limits (WasBrought c.means behind) v At
      does = keeps_wider limits (c.means.brings since words) (WasBrought c.means behind) v At brought (cl.commands.store.keeps since actor lane words t v (books_of old.books) after facts plain)

      -- an object that may have been written had room, and was counted, unless nothing changed
      module _ (name : ObjName) (shown : Seen) (sum : IsSum name.csum) (there : At (path_of name) shown) (some : shown ≢ Vacant) where
        room : objects < limits.objects
        room = cl.commands.store.room count since actor lane words y.work v (books_of old.books) name shown y.after (y.runs.facts v told_v) sum there some

        was_counted : (o : Outcome) → (o ≡ came.Blocked → ⊥) → Tells c.tasks.leaves c.tasks.refuses t o t' (f.view old.fs) (f.view new.fs) → CountsAt c.doing left t' o objects' → ((why : Halt) → o ≡ came.Halted why → new.books.halted ≡ Some why) → limits.objects < 2 ^ 32
            → (w ≡ v) ⊎ ((why : Halt) × (new.books.halted ≡ Some why)) ⊎ (objects' ≡ objects + 1)
        was_counted came.More went tells counts halts wide =
            let k = tells v told_v in ⊎_elim
            (λ same. inl (sym (here k.0 k.1) ∙ same))
            (λ met. inr (inr (counted_one objects limits.objects objects' (c.doing.met t') name met (subst (λ n. IsCounted n (c.doing.met t') objects') left_same counts) room wide)))
            (cl.commands.store.stored actor lane t t' v k.0 (books_of old.books) name shown facts k.2 sum there some)
        was_counted came.Done went tells counts halts wide =
            let k = tells v told_v in
            inl (sym (here k.0 k.1) ∙ cl.commands.store.done actor lane t t' v k.0 (books_of old.books) name shown facts k.2 sum there some)
        was_counted (came.Refused e) went tells counts halts wide = inl (refused_still e (tells v told_v))
        was_counted (came.Halted why) went tells counts halts wide = inr (inl (why, halts why refl))
        was_counted came.Blocked went tells counts halts wide = absurd (went refl)

      no_fewer : limits.objects < 2 ^ 32 → objects ≤ objects'
      no_fewer wide = omega (arith, left_same, left_counted wide)

      -- nothing goes
      none_taken : Stays [] v w
      none_taken = subst (λ (l : List ObjName). Stays l v w) (⊎_elim (λ none. none.0) (λ one. absurd (omega (arith, one.0, unremoved outcome kind plain y.step.gone))) (acts.removal.one v told_v)) out.now

      stored_plain : AreStored f c.means before v → AreStored f c.means behind w
      stored_plain stored =
          let keeps = widened stored in
          let next = stands_kept limits (WasBrought c.means behind) v w none_taken At wrote does IsConfigured stored.names keeps.now in
          from_stands stored next.0 next.2 (few next.0 next.1) (counted next.0 next.1) (swept next.0 next.1)
        where
          -- where one is added nothing is to be removed
          unswept : (next : List ObjName) (adds : Adds At w stored.names next) → swept_in old.books ≡ []
          unswept next adds = storing_none actor lane number (f.clock new.fs) old.books new.books acts.books kind holds plain (⊎_elim
              (λ was. absurd (adds.new (stored.keeps.now.listed.all adds.name adds.sum adds.shown was adds.there)))
              (λ may. (at_place (books_of old.books) v actor lane (path_of adds.name) adds.shown (Object adds.name.kind adds.name.csum) (place-object adds.name.kind adds.name.csum adds.sum) may).0)
              ((acts.does v told_v).2.writes.only (path_of adds.name) adds.shown adds.may))

          few : (next : List ObjName) → Grows At w stored.names next → length next ≤ limits.objects
          few next grows = ⊎_elim
              (λ same. subst (λ (l : List ObjName). length l ≤ limits.objects) (sym same) stored.keeps.few)
              (λ adds. omega (arith, adds.longer, stored.counted y.live, ap length (unswept next adds), room adds.name adds.shown adds.sum adds.written adds.there))
              grows

          counted : (next : List ObjName) → Grows At w stored.names next → new.books.halted ≡ None → length next ≤ objects' + length (swept_in new.books)
          counted next grows live = ⊎_elim
              (λ same. subst (λ (l : List ObjName). length l ≤ objects' + length (swept_in new.books)) (sym same) (omega (arith, stored.counted y.live, no_fewer stored.narrow, ap length swept_same)))
              (λ adds. ⊎_elim
              (λ still. absurd (adds_still At v w stored.names next stored.keeps.now.listed still adds))
              (λ more. ⊎_elim
              (λ over. absurd (let n : None ≡ Some over.0 = sym live ∙ over.1 in cc))
              (λ one. omega (arith, adds.longer, stored.counted y.live, one, ap length swept_same))
              more)
              (was_counted adds.name adds.shown adds.sum adds.written adds.there outcome taken y.step.tells counts halts stored.narrow))
              grows

          swept : (next : List ObjName) → Grows At w stored.names next → new.books.halted ≡ None → AreAmong (swept_in new.books) next
          swept next grows live = ⊎_elim
              (λ same. subst (λ (l : List ObjName). AreAmong l next) (sym swept_same) (subst (AreAmong (swept_in old.books)) (sym same) (stored.swept y.live)))
              (λ adds o has. absurd (none_out o (subst (λ (l : List ObjName). Contains l o) (swept_same ∙ unswept next adds) has)))
              grows

    -- ---- one that removes

    module _ (removing : IsRemoving kind) where
      removes : Removes (books_of old.books) v lane At
      removes = cl.commands.removes.removes actor lane t v (books_of old.books) facts removing

      stands_removed : AreStored f c.means before v → (names : List ObjName) → StoreStands limits (WasBrought c.means behind) IsConfigured names v → StoreStands limits (WasBrought c.means behind) IsConfigured names w
      stands_removed stored names = removal_stands limits (WasBrought c.means behind) IsConfigured names v w At wrote (Except removes.doomed) (books_of old.books) lane removes.kept removes.removes

      stored_removing : AreStored f c.means before v → AreStored f c.means behind w
      stored_removing stored = by kind outcome refl refl removing
        where
          keeps : KeepsGood (f.was old.fs) limits (WasBrought c.means behind) IsConfigured stored.names old.books.opened v
          keeps = widened stored

          -- with the same names
          same_names : (new.books.halted ≡ None → length stored.names ≤ objects' + length (swept_in new.books)) → (new.books.halted ≡ None → AreAmong (swept_in new.books) stored.names) → AreStored f c.means behind w
          same_names = from_stands stored stored.names (stands_removed stored stored.names keeps.now) keeps.few

          over : (why : Halt) → outcome ≡ came.Halted why → AreStored f c.means behind w
          over why is = same_names (λ live. absurd (let n : None ≡ Some why = sym live ∙ halts why is in cc)) (λ live. absurd (let n : None ≡ Some why = sym live ∙ halts why is in cc))

          -- an object was taken: it is one of the names, and counted no more
          taken_one : (e : Event) (n : ℕ) → kind ≡ Remove e n → outcome ≡ came.More → AreStored f c.means behind w
          taken_one e n is went =
              let gone : new.books.gone ≡ old.books.gone + 1 = subst (λ k. new.books.gone ≡ gone_in k outcome old.books.gone) is y.step.gone in
              let more = (removed_more actor lane number (f.clock new.fs) old.books new.books acts.books e n outcome (subst (λ k. IsBooked k lane number (f.clock new.fs) outcome old.books new.books) is y.step.booked) (subst (λ k. Locks k lane outcome old.books new.books) is y.step.locks) gone).0 in
              let next = next_one e n is in
              let longer : length (swept_in new.books) ≡ length (swept_in old.books) + 1 = ap length more ∙ length-append (swept_in old.books) (next_of (books_of old.books)) ∙ ap (λ (l : List ObjName). length (swept_in old.books) + length l) next.1 in
              same_names
              (λ live. omega (arith, stored.counted y.live, longer, left_counted stored.narrow, standing_more old.books.gone new.books.gone objects))
              (λ live o has. ⊎_elim
              (λ was. stored.swept y.live o was)
              (λ now. (let k = tells_more went in stands_named o (cl.commands.removes.takes lane t t' v k.0 (books_of old.books) e n o facts is k.2 now)))
              (Contains-append_cases (swept_in old.books) (next_of (books_of old.books)) o (subst (λ (l : List ObjName). Contains l o) more has)))
            where
              tells_more : outcome ≡ came.More → IfTold (f.view new.fs) (λ u. c.tasks.leaves t turn.More t' v u)
              tells_more went = subst (λ o. Tells c.tasks.leaves c.tasks.refuses t o t' (f.view old.fs) (f.view new.fs)) went y.step.tells v told_v

              next_one : (d : Event) (m : ℕ) → kind ≡ Remove d m → (o : ObjName) × (next_of (books_of old.books) ≡ o ∷ [])
              next_one d m is_ = next_some old.books.gone (books_of old.books).doomed
                  (subst (λ k. StepObligation k actor lane v (books_of old.books) At (cl.leaves t (turn.Done tt) t v)) is_
                  (cl.tasks.duty actor lane t t v (books_of old.books) sound.ordered.agrees (y.step.by taken) (subst (λ k. Stood k actor lane (books_of old.books)) (sym is_) tt) facts)).2

              stands_named : (o : ObjName) → IsThere v.now o → Contains stored.names o
              stands_named o there = stored.keeps.now.listed.all o there.sum (shows v.now (path_of o)) (may_now v (path_of o)) (λ none. there.there (vacant_absent v.now (path_of o) none))

          -- its last step: the names are those of what stands
          settled : (e : Event) → kind ≡ MakeDurable e → IsPrune e → outcome ≡ came.Done → AreStored f c.means behind w
          settled e is prune went =
              let k = subst (λ o. Tells c.tasks.leaves c.tasks.refuses t o t' (f.view old.fs) (f.view new.fs)) went y.step.tells v told_v in
              let ends = cl.commands.removes.ends lane t t' v k.0 (books_of old.books) e facts is prune k.2 in
              let synced : w ≡ all_synced v = sym (here k.0 k.1) ∙ ends.synced in
              let next = all_now stored.names v keeps.now.listed in
              let booked : IsBooked (MakeDurable e) lane number (f.clock new.fs) came.Done old.books new.books = subst (λ o. IsBooked (MakeDurable e) lane number (f.clock new.fs) o old.books new.books) went (subst (λ x. IsBooked x lane number (f.clock new.fs) outcome old.books new.books) is y.step.booked) in
              let none : swept_in new.books ≡ [] = settled_none new.books booked.0 in
              let gone : new.books.gone ≡ old.books.gone = subst (λ x. new.books.gone ≡ gone_in x outcome old.books.gone) is y.step.gone in
              let fewer : length next.0 + length (swept_in old.books) ≤ length stored.names = fewer_names stored.names next.0 (swept_in old.books) v keeps.now.listed next.1 ends.different (λ o has. (stored.swept y.live o has, ends.away o has)) in
              let same : left ≡ objects = standing_none old.books.gone new.books.gone objects (omega (arith, gone)) in
              from_stands stored next.0
              (subst (StoreStands limits (WasBrought c.means behind) IsConfigured next.0) (sym synced) (cut_stands limits (WasBrought c.means behind) IsConfigured stored.names next.0 v next.1 keeps.now))
              (omega (arith, fewer, stored.keeps.few))
              (λ live. omega (arith, fewer, stored.counted y.live, same, left_counted stored.narrow))
              (λ live o has. absurd (none_out o (subst (λ (l : List ObjName). Contains l o) none has)))

          -- between: nothing is taken from its path
          shown : (e : Event) (n : ℕ) → kind ≡ Published e n → AreStored f c.means behind w
          shown e n is =
              let gone : new.books.gone ≡ old.books.gone = subst (λ x. new.books.gone ≡ gone_in x outcome old.books.gone) is y.step.gone in
              let swept_same_ : swept_in new.books ≡ swept_in old.books = published_same actor lane number (f.clock new.fs) old.books new.books acts.books e n outcome (subst (λ k. IsBooked k lane number (f.clock new.fs) outcome old.books new.books) is y.step.booked) (subst (λ k. Locks k lane outcome old.books new.books) is y.step.locks) gone in
              let same : left ≡ objects = standing_none old.books.gone new.books.gone objects (omega (arith, gone)) in
              same_names
              (λ live. omega (arith, stored.counted y.live, ap length swept_same_, same, left_counted stored.narrow))
              (λ live. subst (λ (l : List ObjName). AreAmong l stored.names) (sym swept_same_) (stored.swept y.live))

          booked_as : (k : Kind) (o : Outcome) → kind ≡ k → outcome ≡ o → IsBooked k lane number (f.clock new.fs) o old.books new.books
          booked_as k o is went = subst (λ u. IsBooked k lane number (f.clock new.fs) u old.books new.books) went (subst (λ x. IsBooked x lane number (f.clock new.fs) outcome old.books new.books) is y.step.booked)

          by : (k : Kind) (o : Outcome) → kind ≡ k → outcome ≡ o → IsRemoving k → AreStored f c.means behind w
          by k (came.Halted why) is went r = over why went
          by (Remove e n) came.More is went r = taken_one e n is went
          by (Remove e n) came.Done is went r = absurd (booked_as (Remove e n) came.Done is went)
          by (Remove e n) came.Blocked is went r = absurd (taken went)
          by (Remove e n) (came.Refused d) is went r = absurd (booked_as (Remove e n) (came.Refused d) is went)
          by (Published e n) came.More is went r = shown e n is
          by (Published e n) came.Done is went r = absurd (booked_as (Published e n) came.Done is went)
          by (Published e n) came.Blocked is went r = absurd (taken went)
          by (Published e n) (came.Refused d) is went r = absurd (booked_as (Published e n) (came.Refused d) is went)
          by (MakeDurable e) came.Done is went r = settled e is r went
          by (MakeDurable e) came.More is went r = absurd (booked_as (MakeDurable e) came.More is went)
          by (MakeDurable e) came.Blocked is went r = absurd (taken went)
          by (MakeDurable e) (came.Refused d) is went r = absurd (booked_as (MakeDurable e) (came.Refused d) is went)
          by Quiet came.More is went r = absurd r
          by Quiet came.Done is went r = absurd r
          by Quiet came.Blocked is went r = absurd r
          by Quiet (came.Refused d) is went r = absurd r
          by Store came.More is went r = absurd r
          by Store came.Done is went r = absurd r
          by Store came.Blocked is went r = absurd r
          by Store (came.Refused d) is went r = absurd r
          by (Take wants) came.More is went r = absurd r
          by (Take wants) came.Done is went r = absurd r
          by (Take wants) came.Blocked is went r = absurd r
          by (Take wants) (came.Refused d) is went r = absurd r
          by (Claim name) came.More is went r = absurd r
          by (Claim name) came.Done is went r = absurd r
          by (Claim name) came.Blocked is went r = absurd r
          by (Claim name) (came.Refused d) is went r = absurd r
          by (Publish e) came.More is went r = absurd r
          by (Publish e) came.Done is went r = absurd r
          by (Publish e) came.Blocked is went r = absurd r
          by (Publish e) (came.Refused d) is went r = absurd r

    pub stored_step : AreStored f c.means before v → AreStored f c.means behind w
    stored_step stored = ⊎_elim (λ removing. stored_removing removing stored) (λ plain. stored_plain plain stored) (removing_or kind)

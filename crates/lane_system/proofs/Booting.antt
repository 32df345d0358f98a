-- An act leaves what boots, and each crash the refs and the list of one moment.
use Rattle.std.proofs.Common.{◌≡◌, ◌⊎◌, inl, inr, ⊎_elim, ◌∙◌, ℕ, ◌≤◌, ap, arith, refl, sym, subst, List, [], ◌∷◌, ◌++◌, length, length-append, append-nil, append_assoc, Option, Some, None}
use Rattle.std.proofs.lemmas.List.Elements.{Contains-append_left, Contains-push}
use Rattle.ost_types.specs.declared.limits.Limits.{Limits}
use Rattle.fs_trait.specs.Image.{Image, IsTree}
use Rattle.fs_trait.specs.Seen.{shows}
use Rattle.fs_trait.specs.View.{Disk, View}
use Rattle.fs_trait.proofs.Claims.{passes}
use Rattle.boot_model.specs.declared.item.DepId.{DepId}
use Rattle.boot_read.specs.declared.row.BootRow.{BootRow}
use Rattle.durable_list.specs.Standing.{ids_of}
use Rattle.durable_list.proofs.Standing.{stands_left}
use Rattle.durable_list.proofs.Swapping.{one_left}
use Rattle.durable_deployments.proofs.Staying.{all_left}
use Rattle.rely_guarantee.specs.declared.books.Base.{Base}
use Rattle.rely_guarantee.specs.declared.books.Entry.{Entry}
use Rattle.rely_guarantee.specs.declared.books.Pending.{Pending}
use Rattle.rely_guarantee.specs.declared.books.Start.{Start}
use Rattle.rely_guarantee.specs.declared.event.Event.{Event}
use Rattle.rely_guarantee.specs.declared.event.Event.TheVariants.{SetRef, DropRef, Pruned, SetDeployments}
use Rattle.rely_guarantee.specs.Books.{books_of}
use Rattle.rely_guarantee.specs.Disks.{Logical, Says, path_of}
use Rattle.rely_guarantee.specs.State.{Ascends, State, SystemState, Topic, after, events_of, list_in, next_list, next_refs, opening_state, stored}
use Rattle.rely_guarantee.specs.SystemInvariant.{Fits, Stands}
use Rattle.rely_guarantee.proofs.Acting.{told_same}
use Rattle.rely_guarantee.proofs.Goods.{fits_now}
use Rattle.rely_guarantee.proofs.States.{acked_few, after_push, length-events}
use Rattle.ref_book.specs.declared.book.RefBook.{RefBook}
use Rattle.command.specs.MayBoot.{coming_of}
use Rattle.lane_system.specs.declared.lane.Lane.{Lane}
use Rattle.lane_system.specs.Acts.{Acts}
use Rattle.lane_system.specs.Booting.{AreRowsBehind, BootsStill, FitsWithList, KeepsClear, MayBootBy, MayBootNow}
use Rattle.lane_system.specs.Family.{FsSpec}
use Rattle.lane_system.proofs.Family.{FsLaws}
use Rattle.lane_system.proofs.LeftOvers.{clear_on}
use Rattle.lane_system.proofs.RefsSeen.{acked_all}

-- ---- which front of the stored history it is

-- all of a list, or all but its last element
front_all : (past rest all : List Event) → past ++ rest ≡ all → length all ≤ length past → past ≡ all
front_all past [] all split long = sym (append-nil past) ∙ split
front_all past (e ∷ rest) all split long = absurd (omega (arith, long, ap length split, length-append past (e ∷ rest)))

front_or_all : (past rest events : List Event) (last : Event) → past ++ rest ≡ events ++ last ∷ [] → length events ≤ length past → (past ≡ events) ⊎ (past ≡ events ++ last ∷ [])
front_or_all past [] events last split long = inr (sym (append-nil past) ∙ split)
front_or_all [] (e ∷ rest) [] last split long = inl refl
front_or_all [] (e ∷ rest) (x ∷ events) last split long = absurd (omega (arith, long))
front_or_all (x ∷ past) (e ∷ rest) [] last split long =
    absurd (omega (arith, ap length split, length-append past (e ∷ rest)))
front_or_all (x ∷ past) (e ∷ rest) (y ∷ events) last split long =
    let head : x ≡ y = cc in
    let tail : past ++ e ∷ rest ≡ events ++ last ∷ [] = cc in
    ⊎_elim
    (λ same. inl (ap (λ (l : List Event). x ∷ l) same ∙ ap (λ (z : Event). z ∷ events) head))
    (λ same. inr (ap (λ (l : List Event). x ∷ l) same ∙ ap (λ (z : Event). z ∷ events ++ last ∷ []) head))
    (front_or_all past (e ∷ rest) events last tail (omega (arith, long)))

-- another list changes no ref
same_refs : (e : Event) (ids : List DepId) → list_in e ≡ Some ids → (s : State) (t : Topic) → next_refs e s t ≡ s t
same_refs (SetRef name seen commit) ids is s t = absurd (let z : None ≡ Some ids = is in cc)
same_refs (DropRef name seen) ids is s t = absurd (let z : None ≡ Some ids = is in cc)
same_refs (Pruned depth roots held removed) ids is s t = absurd (let z : None ≡ Some ids = is in cc)
same_refs (SetDeployments change list) ids is s t = refl

-- ---- what a crash leaves now

module _ (limits : Limits) (opening : List BootRow) (start : SystemState) (entries : List Entry) (v : View) (tree : IsTree v.now) (from to : ℕ) (up : Ascends from entries to) (t : ℕ) (d : Disk) (i : Image v d) where
  abbrev events : List Event
  events = events_of entries

  -- at another moment, where all of the history is in the front
  at_moment : (all : List Event) → (x : Fits start entries all to d) → Fits start entries all t d
  at_moment all x = record { past = x.past; rest = x.rest; split = x.split; has_acked = omega (arith, acked_few t entries, acked_all from entries to up, x.has_acked); shows = x.shows; sane = x.sane }

  long : (all : List Event) → (x : Fits start entries all to d) → length events ≤ length x.past
  long all x = omega (arith, acked_all from entries to up, x.has_acked, length-events entries)

  module _ (p : Pending) (x : Fits start entries (events ++ p.event ∷ []) to d) where
    longer : (rows : List BootRow) → list_in p.event ≡ None → AreRowsBehind opening start events rows → AreRowsBehind opening start (events ++ p.event ∷ []) rows
    longer rows none are = record {
      listed = ap (λ (s : SystemState). s.deployments) (after_push events p.event start) ∙ ap (λ (o : Option (List DepId)). next_list o (after events start).deployments) none ∙ are.listed;
      same = λ unlisted. are.same (λ e has. unlisted e (Contains-append_left events (p.event ∷ []) e has));
    }

    other : (ids : List DepId) (rows : List BootRow) → list_in p.event ≡ Some ids → ids ≡ ids_of rows → AreRowsBehind opening start (events ++ p.event ∷ []) rows
    other ids rows some come = record {
      listed = ap (λ (s : SystemState). s.deployments) (after_push events p.event start) ∙ ap (λ (o : Option (List DepId)). next_list o (after events start).deployments) some ∙ come;
      same = λ unlisted. absurd (let z : None ≡ Some ids = sym (unlisted p.event (Contains-push events p.event)) ∙ some in cc);
    }

    -- a change of refs: the list is the same before it and behind it
    of_refs : list_in p.event ≡ None → MayBootBy limits opening start events None v → FitsWithList limits opening start entries (events ++ p.event ∷ []) t d
    unfolding at_moment
    of_refs none may = record {
      fits = at_moment (events ++ p.event ∷ []) x;
      rows = may.rows;
      are = stands_left v d tree i may.rows may.boots.list;
      listed = ⊎_elim
          (λ same. subst (λ (l : List Event). AreRowsBehind opening start l may.rows) (sym same) may.are)
          (λ same. subst (λ (l : List Event). AreRowsBehind opening start l may.rows) (sym same) (longer may.rows none may.are))
          (front_or_all x.past x.rest events p.event x.split (long (events ++ p.event ∷ []) x));
      whole = all_left limits may.rows v d tree may.boots.deployments i;
    }

    -- another list: the refs are the same
    refs_before : (ids : List DepId) → list_in p.event ≡ Some ids → Logical d (after events start).refs
    refs_before ids some q = ⊎_elim
        (λ same. subst (λ (l : List Event). Says q ((after l start).refs q) (shows d (path_of q))) same (x.shows q))
        (λ same.
        subst (λ y. Says q y (shows d (path_of q))) (same_refs p.event ids some (after events start).refs q)
        (subst (λ (s : SystemState). Says q (s.refs q) (shows d (path_of q))) (after_push events p.event start)
        (subst (λ (l : List Event). Says q ((after l start).refs q) (shows d (path_of q))) same (x.shows q))))
        (front_or_all x.past x.rest events p.event x.split (long (events ++ p.event ∷ []) x))

    refs_behind : (ids : List DepId) → list_in p.event ≡ Some ids → Logical d (after (events ++ p.event ∷ []) start).refs
    refs_behind ids some q =
        subst (λ (s : SystemState). Says q (s.refs q) (shows d (path_of q))) (sym (after_push events p.event start))
        (subst (λ y. Says q y (shows d (path_of q))) (sym (same_refs p.event ids some (after events start).refs q)) (refs_before ids some q))

    of_list : (ids : List DepId) → list_in p.event ≡ Some ids → MayBootBy limits opening start events (Some ids) v → FitsWithList limits opening start entries (events ++ p.event ∷ []) t d
    of_list ids some may = ⊎_elim
        (λ before. record {
          fits = record { past = events; rest = p.event ∷ []; split = refl; has_acked = omega (arith, acked_few t entries, length-events entries); shows = refs_before ids some; sane = x.sane };
          rows = may.before;
          are = before;
          listed = may.are;
          whole = all_left limits may.before v d tree may.boots.left i;
        })
        (λ behind. record {
          fits = record { past = events ++ p.event ∷ []; rest = []; split = append-nil (events ++ p.event ∷ []); has_acked = omega (arith, acked_few t entries, length-events entries, length-append events (p.event ∷ [])); shows = refs_behind ids some; sane = x.sane };
          rows = may.after;
          are = behind;
          listed = other ids may.after some may.come;
          whole = all_left limits may.after v d tree may.boots.come i;
        })
        (one_left may.boots.link may.boots.old may.boots.new may.before may.after v d may.boots.lists i)

    of_pending : (o : Option (List DepId)) → list_in p.event ≡ o → MayBootBy limits opening start events o v → FitsWithList limits opening start entries (events ++ p.event ∷ []) t d
    of_pending None is may = of_refs is may
    of_pending (Some ids) is may = of_list ids is may

  -- nothing is published
  of_none : (x : Fits start entries (events ++ []) to d) → MayBootBy limits opening start events None v → FitsWithList limits opening start entries (events ++ []) t d
  unfolding at_moment
  of_none x may =
      let whole : x.past ≡ events = front_all x.past x.rest (events ++ []) x.split (omega (arith, long (events ++ []) x, length-append events [])) ∙ append-nil events in
      record {
        fits = at_moment (events ++ []) x;
        rows = may.rows;
        are = stands_left v d tree i may.rows may.boots.list;
        listed = subst (λ (l : List Event). AreRowsBehind opening start l may.rows) (sym whole) may.are;
        whole = all_left limits may.rows v d tree may.boots.deployments i;
      }

  pub left_now : (pending : Option Pending) → Stands start entries pending v → MayBootBy limits opening start events (coming_of pending) v → FitsWithList limits opening start entries (stored entries pending) t d
  left_now None stands may = of_none (fits_now start entries None v stands to d i) may
  left_now (Some p) stands may = of_pending p (fits_now start entries (Some p) v stands to d i) (list_in p.event) refl may

-- ---- over an act

module _ {F : Type 0} (f : FsSpec F) (fl : FsLaws f) (limits : Limits) (actor lane : ℕ) (refs refs' : RefBook) (old new : Base F) (acts : Acts f limits actor lane refs refs' old new) (v : View) (told : f.view old.fs ≡ Some v) (opening : List BootRow) where
  abbrev w : View
  w = (acts.does v told).0

  told_w : f.view new.fs ≡ Some w
  told_w = (acts.does v told).1

  -- what a crash left before fits while the history grows
  still_fits : (t : ℕ) (d : Disk) → t ≤ f.clock old.fs → FitsWithList limits opening (opening_state old.books.start) old.books.history.items (stored old.books.history.items old.books.pending) t d
      → FitsWithList limits opening (opening_state old.books.start) new.books.history.items (stored new.books.history.items new.books.pending) t d
  still_fits t d le was = record {
    fits = record {
      past = was.fits.past;
      rest = was.fits.rest ++ acts.grows.0;
      split = sym (append_assoc was.fits.past was.fits.rest acts.grows.0) ∙ ap (λ (l : List Event). l ++ acts.grows.0) was.fits.split ∙ sym acts.grows.1;
      has_acked = subst (λ n. n ≤ length was.fits.past) (sym (acts.past t le)) was.fits.has_acked;
      shows = was.fits.shows;
      sane = was.fits.sane;
    };
    rows = was.rows;
    are = was.are;
    listed = was.listed;
    whole = was.whole;
  }

  pub list_still : {T W A : Type 0} (lanes lanes' : List (Lane T W A)) (objects objects' : ℕ) → BootsStill f opening (record { base = old; lanes = lanes; limits = limits; objects = objects }) v
      → BootsStill f opening (record { base = new; lanes = lanes'; limits = limits; objects = objects' }) (acts.does v told).0
  list_still lanes lanes' objects objects' is = record {
    listed = ap (λ (s : Start). s.deployments.items) acts.books.start ∙ is.listed;
    now = now;
    since = λ t d from left. subst (λ (s : Start). FitsWithList limits opening (opening_state s) new.books.history.items (stored new.books.history.items new.books.pending) t d) (sym acts.books.start)
        (⊎_elim
        (λ before. still_fits t d (fl.is.bound old.fs t before.0 before.1) (is.since t d (subst (λ (m : ℕ). m ≤ t) acts.books.opened from) before))
        (λ here. (let one : Some here.0 ≡ Some w = sym here.1 ∙ told_w in let same : here.0 ≡ w = cc in subst (λ (s : Start). FitsWithList limits opening (opening_state s) new.books.history.items (stored new.books.history.items new.books.pending) t d) acts.books.start (here_fits t d (subst (λ (u : View). Image u d) same here.2))))
        ((passes (f.clock old.fs) (f.clock new.fs) (f.was old.fs) (f.was new.fs) (f.view new.fs) (fl.is.only_now new.fs) acts.time).nothing_else t d left));
    left_over = subst (λ (m : ℕ). KeepsClear (f.was new.fs) m w) (sym acts.books.opened) (clear_on f.view f.clock f.was fl.is.only_now old.fs new.fs v w (books_of old.books) actor lane old.books.opened told_w acts.time (acts.does v told).2.writes is.left_over);
  }
    where
      now : MayBootNow limits opening new.books w
      now = told_same (f.view new.fs) w told_w (acts.boots opening v told is.now)

      here_fits : (t : ℕ) (d : Disk) → Image w d → FitsWithList limits opening (opening_state new.books.start) new.books.history.items (stored new.books.history.items new.books.pending) t d
      here_fits t d i = left_now limits opening (opening_state new.books.start) new.books.history.items w (fl.tree new.fs w told_w) new.books.opened (f.clock new.fs) acts.sound.ordered.ascends t d i new.books.pending (acts.sound.stands w told_w) now

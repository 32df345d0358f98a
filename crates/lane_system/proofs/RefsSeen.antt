-- What reads see of the refs, by the history.
use Rattle.std.proofs.Common.{◌≡◌, ◌≤◌, ◌+◌, ℕ, refl, sym, ◌∙◌, ap, subst, arith, List, [], ◌∷◌, ◌++◌, length, length-append, take, Option, Some, None}
use Rattle.std.proofs.Math.Seq.{take-append-le}
use Rattle.std.proofs.lemmas.Bool.Decides.{nat_tests}
use Rattle.fs_trait.specs.Change.{Left}
use Rattle.fs_trait.specs.View.{Disk, View}
use Rattle.fs_trait.proofs.Images.{Image-now}
use Rattle.rely_guarantee.specs.declared.books.Base.{Base}
use Rattle.rely_guarantee.specs.declared.books.Entry.{Entry}
use Rattle.rely_guarantee.specs.declared.books.Pending.{Pending}
use Rattle.rely_guarantee.specs.declared.event.Event.{Event}
use Rattle.rely_guarantee.specs.Headline.{Has}
use Rattle.rely_guarantee.specs.State.{Ascends, acked, after, events_of, pending_of, stored, opening_state, SystemState}
use Rattle.rely_guarantee.specs.SystemInvariant.{SystemInvariant}
use Rattle.rely_guarantee.proofs.Headlines.{headline}
use Rattle.rely_guarantee.proofs.States.{length-events}
use Rattle.lane_system.specs.Family.{FsSpec}
use Rattle.lane_system.specs.Said.{SeesRefs}
use Rattle.lane_system.proofs.Family.{FsLaws}
use Rattle.lane_system.proofs.Moments.{opened_by}

-- at the end of a history all of it is acknowledged
pub acked_all : (from : ℕ) (es : List Entry) (to : ℕ) → Ascends from es to → acked to es ≡ length es
acked_all from [] to up = refl
acked_all from (e ∷ es) to up = let h = acked_all e.moment es to up.1 in let x = opened_by e.moment es to up.1 in grind (arith, nat_tests, h, x)

pending_few : (p : Option Pending) → length (pending_of p) ≤ 1
pending_few None = omega arith
pending_few (Some p) = omega arith

stored_few : (entries : List Entry) (pending : Option Pending) → length (stored entries pending) ≤ length entries + 1
stored_few entries pending = omega (arith, length-append (events_of entries) (pending_of pending), length-events entries, pending_few pending)

-- reads see what a crash may leave: the refs after all changes that last, or after the one that is shown too
pub sees_now : {F : Type 0} (f : FsSpec F) → FsLaws f → (base : Base F) → SystemInvariant f.view f.clock f.spare f.was base → (v : View) → f.view base.fs ≡ Some v
    → SeesRefs (opening_state base.books.start) (stored base.books.history.items base.books.pending) (length base.books.history.items) v.now
sees_now f fl base sound v told =
    let tree = fl.tree base.fs v told in
    let clock = f.clock base.fs in
    let all = headline f.view f.clock f.spare f.was base sound v told tree in
    let left : Left (f.was base.fs) clock v.now = (v, fl.counts_now base.fs clock v (omega arith) told, Image-now v tree) in
    let fits = all.crash clock v.now (opened_by base.books.opened base.books.history.items clock sound.ordered.ascends) left in
    let last = acked_all base.books.opened base.books.history.items clock sound.ordered.ascends in
    record {
      count = fits.count;
      least = omega (arith, last, fits.has_acked);
      most = omega (arith, fits.within, stored_few base.books.history.items base.books.pending);
      within = fits.within;
      has = fits.has;
    }

-- and they saw so from then on
pub sees_stay : (begin begin' : SystemState) (events events' more : List Event) (place : ℕ) (d : Disk) → begin' ≡ begin → events' ≡ events ++ more → SeesRefs begin events place d → SeesRefs begin' events' place d
sees_stay begin begin' events events' more place d same grows sees =
    let front : take sees.count events' ≡ take sees.count events = ap (take sees.count) grows ∙ take-append-le sees.count events more sees.within in
    record {
      count = sees.count;
      least = sees.least;
      most = sees.most;
      within = omega (arith, sees.within, ap length grows, length-append events more);
      has = subst (λ (s : SystemState). Has d (after (take sees.count events') s).refs) (sym same) (subst (λ (l : List Event). Has d (after l begin).refs) (sym front) sees.has);
    }

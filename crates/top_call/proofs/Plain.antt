-- The headline of a system in plain data.
use Rattle.std.proofs.Common.{◌≡◌, ◌≤◌, ◌++◌, ℕ, List, length, take, Option, Some, None, refl, sym, ap, subst}
use Rattle.fs_trait.specs.View.{View}
use Rattle.rely_guarantee.specs.declared.books.Base.{Base}
use Rattle.rely_guarantee.specs.declared.books.Pending.{Pending}
use Rattle.rely_guarantee.specs.declared.event.Event.{Event}
use Rattle.rely_guarantee.specs.State.{after, events_of, pending_of, IsRun, opening_state, SystemState}
use Rattle.rely_guarantee.specs.Headline as system
use Rattle.top_call.specs.Headline.{Headline, shown, stored}
use Rattle.top_call.specs.Top.{event_of}

same_shown : (p : Option Pending) → shown (event_of p) ≡ pending_of p
same_shown None = refl
same_shown (Some p) = refl

none_shown : (p : Option Pending) → event_of p ≡ None → p ≡ None
none_shown None is = refl
none_shown (Some p) is = cc

module _ {F : Type 0} (clock : F → ℕ) (was : F → ℕ → View → Type 0) (base : Base F) (v : View) where
  abbrev start : SystemState
  start = opening_state base.books.start

  abbrev events : List Event
  events = events_of base.books.history.items ++ pending_of base.books.pending

  same : stored base.books.history.items (event_of base.books.pending) ≡ events
  same = ap (λ e. events_of base.books.history.items ++ e) (same_shown base.books.pending)

  pub plain : system.Headline clock was base v → Headline clock was base.books.opened start base.fs base.books.history.items (event_of base.books.pending) v
  plain h = record {
    crash = λ t d later left. let f = h.crash t d later left in record {
      count = f.count;
      has_acked = f.has_acked;
      within = subst (λ es. f.count ≤ length es) (sym same) f.within;
      has = subst (λ es. system.Has d (after (take f.count es) start).refs) (sym same) f.has;
    };
    now = λ none. h.now (none_shown base.books.pending none);
    run = subst (λ es. IsRun es start) (sym same) h.run;
    moments = h.moments;
  }

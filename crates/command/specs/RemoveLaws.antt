-- What a family proves of its steps that remove objects.
use Rattle.std.proofs.Common.{◌≡◌, ℕ, Contains, sym, subst}
use Rattle.ost_types.specs.declared.object.ObjName.{ObjName}
use Rattle.fs_trait.specs.declared.task.StepResult.TheVariants as turn
use Rattle.fs_trait.specs.View.{View}
use Rattle.store_check.specs.Listing.{IsThere}
use Rattle.rely_guarantee.specs.declared.event.Event.{Event}
use Rattle.rely_guarantee.specs.Books.{Books}
use Rattle.rely_guarantee.specs.Laws.{Kind, Remove, MakeDurable}
use Rattle.rely_guarantee.specs.Removing.{next_of}
use Rattle.command.specs.Removing.{AreRemoved, IsPrune, IsRemoving, Removes}
use Rattle.command.specs.Tasks.{TaskSpec}

pub record RemoveLaws {T : Type 0} (k : TaskSpec T) : Type 0 where
  -- each takes only what isn't kept
  pub removes : (actor lane : ℕ) (t : T) (v : View) (b : Books) → k.facts lane t v b → IsRemoving (k.kind t) → Removes b v lane (k.writes actor t v)
  -- one that takes an object and goes on took it from where it stood
  pub takes : (lane : ℕ) (t new : T) (v w : View) (b : Books) (e : Event) (owed : ℕ) (o : ObjName) → k.facts lane t v b → k.kind t ≡ Remove e owed → k.leaves t turn.More new v w → Contains (next_of b) o → IsThere v.now o
  -- and the last one leaves what was to be removed gone for good
  pub ends : (lane : ℕ) (t new : T) (v w : View) (b : Books) (e : Event) → k.facts lane t v b → k.kind t ≡ MakeDurable e → IsPrune e → k.leaves t (turn.Done tt) new v w → AreRemoved b v w

by_remove : (kind : Kind) (e : Event) (owed : ℕ) → kind ≡ Remove e owed → IsRemoving kind
by_remove kind e owed is = subst IsRemoving (sym is) tt

by_make_durable : (kind : Kind) (e : Event) → kind ≡ MakeDurable e → IsPrune e → IsRemoving kind
by_make_durable kind e is prune = subst IsRemoving (sym is) prune

-- so of tasks that never remove
pub no_removals : {T : Type 0} (k : TaskSpec T) → ((t : T) → ¬ (IsRemoving (k.kind t))) → RemoveLaws k
no_removals k never = record {
  removes = λ actor lane t v b facts is. absurd (never t is);
  takes = λ lane t new v w b e owed o facts is leaves has. absurd (never t (by_remove (k.kind t) e owed is));
  ends = λ lane t new v w b e facts is prune leaves. absurd (never t (by_make_durable (k.kind t) e is prune));
}

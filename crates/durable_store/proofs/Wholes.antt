-- Commits that are whole where they are there.
use Rattle.std.proofs.Common.{◌≡◌, ◌≢◌, inl, inr, ⊎_elim, ℕ, List, [], refl, sym, ◌∙◌, ap, subst}
use Rattle.ost_types.specs.declared.limits.Limits.{Limits}
use Rattle.ost_types.specs.declared.object.Kind.TheVariants.{Commit}
use Rattle.ost_types.specs.declared.object.ObjName.{ObjName}
use Rattle.fs_trait.specs.View.{Disk, View}
use Rattle.fs_trait.specs.Seen.{Seen, Vacant, shows, MayBe}
use Rattle.repo_model.specs.Objects.{IsMap, Stores, path_of}
use Rattle.repo_model.specs.Trees.{name_of}
use Rattle.repo_model.specs.Whole.{Complete}
use Rattle.repo_model.proofs.Grown.{complete_up}
use Rattle.repo_model.proofs.Stored.{stores_map}
use Rattle.reach.specs.Reach.{Is, Reach, onward, start}
use Rattle.reach.proofs.Parts.{whole_kept}
use Rattle.reach.proofs.Reaching.{reach_kind}
use Rattle.rely_guarantee.specs.Lasting.{AlwaysStores, Stays, StaysOn}
use Rattle.rely_guarantee.proofs.Lasting.{always_left, always_one, always_stays, none_out}
use Rattle.durable_store.specs.Standing.{Below, IsWholeIfThere}

below_one : (v : View) (commit bytes : List ℕ) (name : ObjName) (b c : List ℕ) → Below v commit bytes name b → Below v commit bytes name c → b ≡ c
below_one v commit bytes name b c (inl x) (inl y) = (always_one v).one name b c x.1 y.1
below_one v commit bytes name b c (inl x) (inr y) = absurd (x.0 (ap (λ (o : ObjName). o.kind) y.0))
below_one v commit bytes name b c (inr x) (inl y) = absurd (y.0 (ap (λ (o : ObjName). o.kind) x.0))
below_one v commit bytes name b c (inr x) (inr y) = x.1 ∙ sym y.1

pub below_map : (v : View) (commit bytes : List ℕ) → IsMap (Below v commit bytes)
below_map v commit bytes = record { one = below_one v commit bytes }

-- a commit that each crash leaves whole
pub whole_begins : (limits : Limits) (v : View) (commit : List ℕ) → Complete (AlwaysStores v) limits commit → IsWholeIfThere limits v commit
whole_begins limits v commit whole = record {
  bytes = whole.here.bytes;
  only = λ s may there. whole.here.stored.holds s may;
  named = whole.here.stored.named;
  whole = whole_kept (AlwaysStores v) limits commit whole (Reach (AlwaysStores v) (Is (name_of Commit commit))) (start (name_of Commit commit) refl) (λ o next at refers. onward o next at refers) (Below v commit whole.here.bytes)
      (below_map v commit whole.here.bytes)
      (λ o b reached has. ⊎_elim
      (λ e. inr (e, (always_one v).one o b whole.here.bytes has (subst (λ x. AlwaysStores v x whole.here.bytes) (sym e) whole.here.stored)))
      (λ kind. inl (kind, has))
      (reach_kind (AlwaysStores v) (Is (name_of Commit commit)) o reached));
}

module _ (limits : Limits) (commit : List ℕ) where
  -- where nothing else comes to its path
  pub whole_stays : (v w : View) → Stays [] v w → ((s : Seen) → MayBe w (path_of (name_of Commit commit)) s → MayBe v (path_of (name_of Commit commit)) s) → IsWholeIfThere limits v commit → IsWholeIfThere limits w commit
  whole_stays v w stays before is = record {
    bytes = is.bytes;
    only = λ s may. is.only s (before s may);
    named = is.named;
    whole = complete_up (Below v commit is.bytes) (Below w commit is.bytes) (λ name b. ⊎_elim (λ a. inl (a.0, always_stays [] v w stays name b (none_out name) a.1)) (λ e. inr e)) (below_map w commit is.bytes) limits commit is.whole;
  }

  -- on a disk that a crash left, and that has it
  module _ (v : View) (d : Disk) (on : StaysOn [] v d) (is : IsWholeIfThere limits v commit) (there : shows d (path_of (name_of Commit commit)) ≢ Vacant) (may : MayBe v (path_of (name_of Commit commit)) (shows d (path_of (name_of Commit commit)))) where
    itself_left : Stores d (name_of Commit commit) is.bytes
    itself_left = record { there = is.only (shows d (path_of (name_of Commit commit))) may there; named = is.named }

    below_left : (name : ObjName) (b : List ℕ) → Below v commit is.bytes name b → Stores d name b
    below_left name b (inl a) = always_left [] v d on name b (none_out name) a.1
    below_left name b (inr e) = subst (λ x. Stores d x b) (sym e.0) (subst (Stores d (name_of Commit commit)) (sym e.1) itself_left)

    pub whole_left : Complete (Stores d) limits commit
    whole_left = complete_up (Below v commit is.bytes) (Stores d) below_left (stores_map d) limits commit is.whole

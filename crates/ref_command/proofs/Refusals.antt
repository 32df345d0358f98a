-- Where the view is told, and stands as the system keeps it, nothing that stands there refuses a change.
use Rattle.std.proofs.Common.{◌≡◌, inl, ⊎_elim, ◌+◌, ℕ, true, refl, sym, ◌∙◌, subst, List, ◌++◌, append_assoc, Option}
use Rattle.ost_types.specs.Path.{Path, is_below}
use Rattle.fs_trait.specs.declared.types.FsErr.{FsErr}
use Rattle.fs_trait.specs.declared.types.FsErr.TheVariants.{Failed, NoMemory, Exists, Missing, NotFolder, NotEmpty}
use Rattle.fs_trait.specs.View.{Disk, View}
use Rattle.fs_trait.specs.Image.{IsTree}
use Rattle.fs_trait.specs.Effect.{OfNone}
use Rattle.fs_trait.specs.Seen.{shows}
use Rattle.fs_trait.proofs.Effects.{may_now}
use Rattle.fs_trait.proofs.Images.{Image-now}
use Rattle.fs_trait.proofs.Claims.{is_below-before}
use Rattle.repo_layout.specs.RefName.{parts_of}
use Rattle.repo_layout.specs.Paths.{heads, ref_path}
use Rattle.repo_layout.specs.Refs.{is_leaf, ShowsNoCommit}
use Rattle.layout_rules.specs.Checks.{IsRefAt, IsSane, RefFiles}
use Rattle.layout_rules.specs.InLayout.{IsBounded}
use Rattle.layout_rules.proofs.Sanes.{ref_of}
use Rattle.ref_room.specs.Clash.{way_to, IsNoRef}
use Rattle.ref_room.specs.Clearing as clearing
use Rattle.ref_room.specs.Clearing.{IsUnder}
use Rattle.ref_room.specs.Way as way
use Rattle.ref_room.proofs.ClearingSteps.{seen_leaf}
use Rattle.ref_room.proofs.Names.{heads-above}
use Rattle.ref_store.specs.declared.phase.Phase.{Phase}
use Rattle.ref_store.specs.declared.phase.Phase.TheVariants as phase
use Rattle.ref_store.specs.Change as store
use Rattle.ref_store.specs.Steps.{Needs, refuses_in}
use Rattle.ref_store.proofs.StepLemmas.{made}
use Rattle.rely_guarantee.specs.declared.books.Entry.{Entry}
use Rattle.rely_guarantee.specs.declared.books.Pending.{Pending}
use Rattle.rely_guarantee.specs.State.{SystemState}
use Rattle.rely_guarantee.specs.Books.{Books}
use Rattle.rely_guarantee.specs.SystemInvariant.{Stands}
use Rattle.rely_guarantee.proofs.Goods.{fits_now}
use Rattle.ref_command.specs.declared.command.RefCommand.{RefCommand}
use Rattle.ref_command.specs.declared.command.RefCommand.TheVariants.{Parse, Reset, Change}
use Rattle.ref_command.specs.Commands.{command_facts, command_refuses}

below_heads : (name : List ℕ) (p : Path) → IsUnder name p → is_below heads p ≡ true
unfolding ref_path
below_heads name p under = subst (λ q. is_below heads q ≡ true) (sym (under.1 ∙ append_assoc heads (parts_of name) under.0)) (is_below-before heads (parts_of name ++ under.0))

-- a leaf that stands at or below the folder of refs is a ref
no_leaf : (d : Disk) → IsSane d → (p : Path) → is_below heads p ≡ true → is_leaf (d.at p) ≡ true → IsNoRef p → ⊥
no_leaf d sane p below leaf none = let at : IsRefAt d p = (sane RefFiles p below).leaf leaf in none at.0 at.1 at.2

module _ (t : store.Change) (v : View) (needs : Needs t v) (sane : IsSane v.now) (reached : (p : Path) → IsBounded p (shows v.now p)) where
  look_none : ShowsNoCommit v.now (ref_path t.name) → ⊥
  look_none why = let r = ref_of v.now sane t.name why.leaf in why.none r.1 r.2

  walk_none : (y : way.Walked) → t.phase ≡ phase.Walk y → way.Refuses y v Exists → ⊥
  walk_none y is why = no_leaf v.now sane (way_to (y.reached + 1) y.name) (heads-above (y.reached + 1) y.name) why.1 why.2

  clear_none : (c : clearing.Cleared) → t.phase ≡ phase.Clear c → clearing.Refuses c v NotEmpty → ⊥
  clear_none c is why =
      let name : c.name ≡ t.name = (made t v needs (phase.Clear c) is).0 in
      let under : IsUnder t.name why.1.0 = subst (λ n. IsUnder n why.1.0) name why.1.1 in
      ⊎_elim
      (λ leaf. no_leaf v.now sane why.1.0 (below_heads t.name why.1.0 under) (seen_leaf v.now (v.now.at why.1.0) leaf.0) leaf.1)
      (λ long. long (reached why.1.0 (inl (below_heads t.name why.1.0 under)) why.1.2))
      why.1.3

  refused : (ph : Phase) → t.phase ≡ ph → (e : FsErr) → refuses_in ph t v e → OfNone e
  refused phase.Look is Failed why = tt
  refused phase.Look is NoMemory why = tt
  refused phase.Look is Exists why = absurd (look_none why)
  refused phase.Look is Missing why = absurd why
  refused phase.Look is NotFolder why = absurd why
  refused phase.Look is NotEmpty why = absurd why
  refused (phase.Clear c) is Failed why = tt
  refused (phase.Clear c) is NoMemory why = tt
  refused (phase.Clear c) is Exists why = absurd why
  refused (phase.Clear c) is Missing why = absurd why
  refused (phase.Clear c) is NotFolder why = absurd why
  refused (phase.Clear c) is NotEmpty why = absurd (clear_none c is why)
  refused (phase.Walk y) is Failed why = tt
  refused (phase.Walk y) is NoMemory why = tt
  refused (phase.Walk y) is Exists why = absurd (walk_none y is why)
  refused (phase.Walk y) is Missing why = absurd why
  refused (phase.Walk y) is NotFolder why = absurd why
  refused (phase.Walk y) is NotEmpty why = absurd why
  refused (phase.Put g) is Failed why = tt
  refused (phase.Put g) is NoMemory why = tt
  refused (phase.Put g) is Exists why = absurd why
  refused (phase.Put g) is Missing why = absurd why
  refused (phase.Put g) is NotFolder why = absurd why
  refused (phase.Put g) is NotEmpty why = absurd why
  refused phase.Unlink is Failed why = tt
  refused phase.Unlink is NoMemory why = tt
  refused phase.Unlink is Exists why = absurd why
  refused phase.Unlink is Missing why = absurd why
  refused phase.Unlink is NotFolder why = absurd why
  refused phase.Unlink is NotEmpty why = absurd why
  refused phase.SyncFolder is Failed why = tt
  refused phase.SyncFolder is NoMemory why = tt
  refused phase.SyncFolder is Exists why = absurd why
  refused phase.SyncFolder is Missing why = absurd why
  refused phase.SyncFolder is NotFolder why = absurd why
  refused phase.SyncFolder is NotEmpty why = absurd why
  refused phase.Ended is Failed why = tt
  refused phase.Ended is NoMemory why = tt
  refused phase.Ended is Exists why = absurd why
  refused phase.Ended is Missing why = absurd why
  refused phase.Ended is NotFolder why = absurd why
  refused phase.Ended is NotEmpty why = absurd why

-- so it is of a change that any command makes
pub change_refused : (start : SystemState) (entries : List Entry) (pending : Option Pending) (v : View) (t : store.Change) (e : FsErr) → IsTree v.now → Stands start entries pending v → Needs t v → refuses_in t.phase t v e → OfNone e
change_refused start entries pending v t e tree stands needs why =
    refused t v needs (fits_now start entries pending v stands 0 v.now (Image-now v tree)).sane (λ p. stands.reached p (shows v.now p) (may_now v p)) t.phase refl e why

pub refused_of : (start : SystemState) (entries : List Entry) (pending : Option Pending) (lane : ℕ) (v : View) (b : Books) (t : RefCommand) (e : FsErr) → IsTree v.now → Stands start entries pending v → command_facts lane t v b → command_refuses t v e
    → OfNone e
refused_of start entries pending lane v b (Parse look) e tree stands f why = why
refused_of start entries pending lane v b (Reset look plan) e tree stands f why = why
refused_of start entries pending lane v b (Change work) e tree stands f why = change_refused start entries pending v work.task e tree stands f.ref.needs why

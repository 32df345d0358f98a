-- What is so of a lane that runs no task, and how a task begins from it.
use Rattle.std.proofs.Common.{◌≡◌, inl, inr, ⊎_elim, ◌<◌, ℕ, true, false, refl, sym, ◌∙◌, ap, subst, List, Option, Some, None}
use Rattle.std.specs.Prelude.{IsSome}
use Rattle.ost_types.specs.declared.meta.Meta.{Meta}
use Rattle.fs_trait.specs.View.{View}
use Rattle.fs_trait.specs.Seen.{Seen, Vacant, Leaf, shows, NotDirectory}
use Rattle.fs_trait.specs.Change.{Writes}
use Rattle.fs_trait.proofs.Effects.{may_now}
use Rattle.repo_layout.specs.RefName.{IsRefName}
use Rattle.repo_layout.specs.declared.folder.Folder.TheVariants as folder
use Rattle.repo_layout.specs.Paths.{stage_path}
use Rattle.repo_layout.specs.Place.{Ref, Stage, place}
use Rattle.ref_room.proofs.Stable.{way_lies, clearing_lies}
use Rattle.staged_file.specs.declared.phase.Phase as staged
use Rattle.staged_file.specs.declared.phase.Phase.TheVariants as file
use Rattle.staged_file.specs.Staged.{Staged}
use Rattle.staged_file.specs.Steps as staging
use Rattle.ref_room.specs.Way.{Walked}
use Rattle.ref_store.specs.declared.phase.Phase.{Phase}
use Rattle.ref_store.specs.declared.phase.Phase.TheVariants as phase
use Rattle.ref_store.specs.Change as store
use Rattle.ref_store.specs.Steps.{Needs, begins, writes_in, WritesOf}
use Rattle.ref_store.proofs.StepLemmas.{meets_in, made}
use Rattle.rely_guarantee.specs.declared.books.Entry.{Entry}
use Rattle.rely_guarantee.specs.declared.books.Pending.{Pending}
use Rattle.rely_guarantee.specs.State.{SystemState}
use Rattle.rely_guarantee.specs.Books.{Books}
use Rattle.rely_guarantee.specs.SystemInvariant.{Stands}
use Rattle.ref_command.specs.declared.command.RefCommand.{RefCommand}
use Rattle.ref_command.specs.declared.command.RefCommand.TheVariants.{Parse, Reset, Change}
use Rattle.ref_command.specs.Places.{placed_way}
use Rattle.ref_command.specs.Facts.{Facts, StagingPathFree}
use Rattle.ref_command.specs.Kept.{stage_is, stage_folder}
use Rattle.ref_command.specs.Commands.{command_writes, command_facts}

vacant_no : (s : Seen) → s ≡ Vacant → NotDirectory s
vacant_no s e = subst NotDirectory (sym e) tt

leaf_no : (s : Seen) (n : ℕ) (m : Meta) (b : List ℕ) → s ≡ Leaf n m b → NotDirectory s
leaf_no s n m b e = subst NotDirectory (sym e) tt

put_no : (ph : staged.Phase) (g : Staged) (v : View) (p : _) (s : Seen) → staging.writes_in ph g v p s → NotDirectory s
put_no file.Clear g v p s a = vacant_no s a.1
put_no file.Create g v p s a = leaf_no s a.1.0 g.meta a.1.1.0 a.1.1.1
put_no file.Append g v p s a = leaf_no s a.1.0 g.meta a.1.1.0 a.1.1.1
put_no file.SyncFile g v p s a = absurd a
put_no file.Look g v p s a = absurd a
put_no file.Replace g v p s (inl a) = leaf_no s a.1.0 g.meta g.bytes a.1.1
put_no file.Replace g v p s (inr a) = vacant_no s a.1
put_no file.SyncFolder g v p s a = absurd a
put_no file.Ended g v p s a = absurd a

module _ (lane : ℕ) (t : store.Change) (v : View) (needs : Needs t v) (mine : t.actor ≡ lane) where
  walk_no : (y : Walked) → t.phase ≡ phase.Walk y → (s : Seen) → writes_in (phase.Walk y) t v (stage_path t.actor) s → NotDirectory s
  walk_no y is s a =
      let m = meets_in t v needs (phase.Walk y) is in
      let way = way_lies y v m.1 (stage_path t.actor) s a in
      let name : y.name ≡ t.name = (made t v needs (phase.Walk y) is).0 in
      let other = placed_way y.name way.parts (subst IsRefName (sym name) needs.named) way.some way.few in
      let n : Stage lane ≡ Ref other.0 = sym (stage_is t lane needs.actor mine) ∙ ap place way.place ∙ other.1 in
      cc

  stage_no : (ph : Phase) → t.phase ≡ ph → (s : Seen) → writes_in ph t v (stage_path t.actor) s → NotDirectory s
  stage_no phase.Look is s a = absurd a
  stage_no (phase.Clear c) is s a = vacant_no s (clearing_lies c v (meets_in t v needs (phase.Clear c) is).1 (stage_path t.actor) s a).vacant
  stage_no (phase.Walk y) is s a = walk_no y is s a
  stage_no (phase.Put g) is s a = put_no g.phase g v (stage_path t.actor) s a
  stage_no phase.Unlink is s a = vacant_no s a.1
  stage_no phase.SyncFolder is s a = absurd a
  stage_no phase.Ended is s a = absurd a

  -- a change leaves no folder where it stages, whatever its step answers
  pub home_own : (w : View) → Writes (WritesOf t v) v w → StagingPathFree lane v → StagingPathFree lane w
  home_own w writes home = subst (λ a. NotDirectory (shows w.now (stage_path a))) mine (⊎_elim
      (λ same. subst NotDirectory (sym same) (subst (λ a. NotDirectory (shows v.now (stage_path a))) (sym mine) home))
      (λ wrote. stage_no t.phase refl (shows w.now (stage_path t.actor)) wrote)
      (writes.now (stage_path t.actor)))

pub home_task : (actor lane : ℕ) (t : RefCommand) (v w : View) (b : Books) → command_facts lane t v b → Writes (command_writes actor t v) v w → StagingPathFree lane v → StagingPathFree lane w
home_task actor lane (Parse look) v w b f writes home = ⊎_elim (λ same. subst NotDirectory (sym same) home) (λ bad. absurd bad) (writes.now (stage_path lane))
home_task actor lane (Reset look plan) v w b f writes home = ⊎_elim (λ same. subst NotDirectory (sym same) home) (λ bad. absurd bad) (writes.now (stage_path lane))
home_task actor lane (Change work) v w b f writes home = home_own lane work.task v f.ref.needs f.ref.mine w writes home

begins_there : (start : SystemState) (entries : List Entry) (pending : Option Pending) (lane : ℕ) (v : View) → Stands start entries pending v → StagingPathFree lane v → (o : Option (List ℕ)) → begins o lane v
begins_there start entries pending lane v stands home None = tt
begins_there start entries pending lane v stands home (Some commit) = record {
  firm = stands.folders folder.Heads;
  here = λ p. (
    (λ e. subst (λ q. NotDirectory (shows v.now q)) (sym e) home),
    λ in_. stands.folders folder.Tmp p (shows v.now p) (may_now v p) (stage_folder lane p in_),
  );
}

-- a change begins where the folders of the layout stand and the lane's stage is no folder
pub begins_change : (start : SystemState) (entries : List Entry) (pending : Option Pending) (lane : ℕ) (v : View) (b : Books) → Stands start entries pending v → StagingPathFree lane v → lane < 16
    → (name : List ℕ) (seen value : Option (List ℕ)) → IsRefName name → (value ≡ None → IsSome seen) → Facts lane (record { actor = lane; name = name; seen = seen; value = value; phase = phase.Look }) v b
begins_change start entries pending lane v b stands home few name seen value named removed = record {
  needs = record { named = named; actor = few; made = removed; meets = begins_there start entries pending lane v stands home value };
  mine = refl;
  runs = tt;
  turn = tt;
  seen = λ goes. let n : false ≡ true = goes in cc;
}

-- A commit writes at an object's path only where the store has room for one more; and a step that goes on and may have written there
-- stored the object, or changed nothing.
use Rattle.std.proofs.Common.{◌≡◌, ◌⊎◌, inl, inr, ⊎_elim, ◌<◌, ◌^◌, ℕ, refl, sym, ◌∙◌, ap, subst, List, Option, Some, None}
use Rattle.ost_types.specs.declared.object.ObjName.{ObjName}
use Rattle.fs_trait.specs.declared.task.StepResult.TheVariants as turn
use Rattle.fs_trait.specs.View.{View}
use Rattle.fs_trait.specs.Seen.{Seen}
use Rattle.repo_layout.specs.RefFile.{IsSum}
use Rattle.repo_layout.proofs.Places.{place-object}
use Rattle.repo_model.specs.Objects.{path_of}
use Rattle.obj_store.specs.declared.phase.Put.TheVariants.{Stored}
use Rattle.commit_build.specs.Committing.{Committing, commit_in}
use Rattle.commit_build.specs.Steps.{Needs, WritesOf}
use Rattle.commit_build.proofs.Rooms.{room_there}
use Rattle.commit_build.proofs.Storings.{end_off, step_stored}
use Rattle.rely_guarantee.specs.Books.{Books}
use Rattle.commit_command.specs.declared.naming.Naming.{Naming}
use Rattle.commit_command.specs.declared.command.CommitCommand.{CommitCommand}
use Rattle.commit_command.specs.Kinds.{BuildSteps, Builds, commit_leaves, commit_writes, leaves_at, leaves_by, met_in, writes_by}
use Rattle.commit_command.specs.Facts.{facts_by, commit_facts}
use Rattle.commit_command.specs.Held.{StoredThere}
use Rattle.commit_command.specs.Lying.{OfRef, ref_place}

room_by : (o : Option Naming) (actor lane : ℕ) (t : CommitCommand) (v : View) (b : Books) → facts_by o lane t v b → (name : ObjName) (s : Seen) → IsSum name.csum → writes_by o actor t v (path_of name) s → (t.objects < t.build.limits.objects) × (t.build.limits.objects < 2 ^ 32)
room_by None actor lane t v b f name s sum wrote = (room_there t.build t.objects v f.needs name s wrote, f.needs.made.bound)
room_by (Some n) actor lane t v b f name s sum wrote =
    absurd (subst (OfRef n.work.task.actor) (place-object name.kind name.csum sum) (ref_place n.work.task v f.ref.needs (path_of name) s wrote))

-- what may be written there has room
pub commit_room : (actor lane : ℕ) (t : CommitCommand) (v : View) (b : Books) → commit_facts lane t v b → (name : ObjName) (s : Seen) → IsSum name.csum → commit_writes actor t v (path_of name) s → (t.objects < t.build.limits.objects) × (t.build.limits.objects < 2 ^ 32)
commit_room actor lane t v b f name s sum wrote = room_by t.change actor lane t v b f name s sum wrote

module _ (v w : View) (name : ObjName) (s : Seen) (sum : IsSum name.csum) where
  build_stored : (objects : ℕ) (t new : Committing) → Needs t v → BuildSteps objects t None new → Builds objects t new v w → WritesOf t v (path_of name) s → (w ≡ v) ⊎ (new.met ≡ Some (name, Stored))
  build_stored objects t new needs (inl step) l wrote = step_stored objects t.limits.objects v w name s sum t needs new.phase new.made new.met step.0.1 l.tells wrote
  build_stored objects t new needs (inr step) l wrote = absurd (end_off t.phase step.0 step.1.1 v name s wrote)

  more_at : (c : Option (List ℕ)) (t new : CommitCommand) → t.change ≡ None → Needs t.build v → leaves_at c t turn.More new v w → WritesOf t.build v (path_of name) s → StoredThere new name v w
  more_at None t new none needs l wrote =
      let change : new.change ≡ None = ap (λ (x : CommitCommand). x.change) l.0.0 ∙ none in
      ⊎_elim
      (λ same. inl same)
      (λ met. inr (subst (λ o. met_in o new.build ≡ Some (name, Stored)) (sym change) met))
      (build_stored t.objects t.build new.build needs l.0.1 l.1 wrote)
  more_at (Some commit) t new none needs l wrote = inl l.1

  done_at : (c : Option (List ℕ)) (t new : CommitCommand) → leaves_at c t (turn.Done tt) new v w → w ≡ v
  done_at None t new l = l.3.1
  done_at (Some commit) t new l = absurd l

  module _ (actor lane : ℕ) (t new : CommitCommand) (b : Books) where
    -- a change of a ref writes nothing there
    change_off : (n : Naming) → facts_by (Some n) lane t v b → writes_by (Some n) actor t v (path_of name) s → ⊥
    change_off n f wrote = subst (OfRef n.work.task.actor) (place-object name.kind name.csum sum) (ref_place n.work.task v f.ref.needs (path_of name) s wrote)

    more_by : (o : Option Naming) → t.change ≡ o → facts_by o lane t v b → leaves_by o t turn.More new v w → writes_by o actor t v (path_of name) s → StoredThere new name v w
    more_by None is f l wrote = more_at (commit_in t.build.phase) t new is f.needs l wrote.0
    more_by (Some n) is f l wrote = absurd (change_off n f wrote)

    done_by : (o : Option Naming) → facts_by o lane t v b → leaves_by o t (turn.Done tt) new v w → writes_by o actor t v (path_of name) s → w ≡ v
    done_by None f l wrote = done_at (commit_in t.build.phase) t new l
    done_by (Some n) f l wrote = absurd (change_off n f wrote)

    -- a step that goes on stored the object, or changed nothing
    pub commit_stored : commit_facts lane t v b → commit_leaves t turn.More new v w → commit_writes actor t v (path_of name) s → StoredThere new name v w
    commit_stored f l wrote = more_by t.change refl f l wrote

    -- the last one changed nothing
    pub commit_done : commit_facts lane t v b → commit_leaves t (turn.Done tt) new v w → commit_writes actor t v (path_of name) s → w ≡ v
    commit_done f l wrote = done_by t.change f l wrote

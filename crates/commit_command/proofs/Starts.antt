-- How a commit begins, and what it leaves of its lane's staging path.
use Rattle.std.proofs.Common.{◌≡◌, ⊎_elim, ◌<◌, ℕ, true, false, refl, sym, ◌∙◌, subst, List, Option, Some, None}
use Rattle.ost_types.proofs.Paths.{is_below-self}
use Rattle.fs_trait.specs.View.{View}
use Rattle.fs_trait.specs.Seen.{shows, IsDirectory, NotDirectory}
use Rattle.fs_trait.specs.Change.{Writes}
use Rattle.fs_trait.proofs.Effects.{may_now}
use Rattle.repo_layout.specs.declared.folder.Folder.{Folder}
use Rattle.repo_layout.specs.declared.folder.Folder.TheVariants as folder
use Rattle.repo_layout.specs.Paths.{folder_path, stage_path}
use Rattle.ref_store.specs.declared.phase.Phase.TheVariants as ref
use Rattle.tree_build.specs.Objects as tree
use Rattle.commit_build.specs.declared.phase.Phase.{Phase}
use Rattle.commit_build.specs.declared.phase.Phase.TheVariants as phase
use Rattle.commit_build.specs.Committing.{Committing}
use Rattle.commit_build.specs.Steps.{Needs, WritesIn, needs_in, HasHomes}
use Rattle.commit_build.proofs.Stable.{relied_in, commit_lies}
use Rattle.rely_guarantee.specs.declared.books.Entry.{Entry}
use Rattle.rely_guarantee.specs.declared.books.Pending.{Pending}
use Rattle.rely_guarantee.specs.State.{SystemState}
use Rattle.rely_guarantee.specs.Books.{Books}
use Rattle.rely_guarantee.specs.SystemInvariant.{Stands}
use Rattle.ref_command.specs.Facts.{Facts, StagingPathFree}
use Rattle.ref_command.proofs.Homes.{begins_change, home_own}
use Rattle.commit_command.specs.declared.naming.Naming.{Naming}
use Rattle.commit_command.specs.declared.command.CommitCommand.{CommitCommand}
use Rattle.commit_command.specs.Kinds.{writes_by, commit_writes}
use Rattle.commit_command.specs.Facts.{Building, facts_by, commit_facts}
use Rattle.commit_command.specs.Answers.{Begins}
use Rattle.commit_command.specs.Laws.{no_folder_staged}

home_build : (lane objects : ℕ) (t : Committing) (v w : View) → Needs t v → t.actor ≡ lane → Writes (WritesIn objects t v) v w → StagingPathFree lane v → StagingPathFree lane w
home_build lane objects t v w needs mine writes home = subst (λ a. NotDirectory (shows w.now (stage_path a))) mine (⊎_elim
    (λ same. subst NotDirectory (sym same) (subst (λ a. NotDirectory (shows v.now (stage_path a))) (sym mine) home))
    (λ wrote. no_folder_staged t v needs.made.actor (stage_path t.actor) _ (commit_lies t v needs (stage_path t.actor) _ wrote.0) refl)
    (writes.now (stage_path t.actor)))

home_by : (o : Option Naming) (actor lane : ℕ) (t : CommitCommand) (v w : View) (b : Books) → facts_by o lane t v b → Writes (writes_by o actor t v) v w → StagingPathFree lane v → StagingPathFree lane w
home_by None actor lane t v w b f writes home = home_build lane t.objects t.build v w f.needs f.mine writes home
home_by (Some n) actor lane t v w b f writes home = home_own lane n.work.task v f.ref.needs f.ref.mine w writes home

pub own_of : (actor lane : ℕ) (t : CommitCommand) (v w : View) (b : Books) → commit_facts lane t v b → Writes (commit_writes actor t v) v w → StagingPathFree lane v → StagingPathFree lane w
own_of actor lane t v w b f writes home = home_by t.change actor lane t v w b f writes home

-- nothing is relied on at the beginning
relied_none : (t : Committing) (ph : Phase) → ph ≡ phase.Check → (o : tree.Object) → relied_in ph t o → ⊥
relied_none t ph is o r = subst (λ f. relied_in f t o) is r

-- the folders of the layout are there, and the lane's staging path is no folder
homes_of : (start : SystemState) (entries : List Entry) (pending : Option Pending) (lane : ℕ) (v : View) → Stands start entries pending v → StagingPathFree lane v → HasHomes lane v.now
homes_of start entries pending lane v stands home = record { objects = at folder.Objects; staging = at folder.Tmp; state = at folder.State; stage = home }
  where
    at : (f : Folder) → IsDirectory (shows v.now (folder_path f))
    at f = stands.folders f (folder_path f) _ (may_now v (folder_path f)) (is_below-self (folder_path f))

begins_build : (start : SystemState) (entries : List Entry) (pending : Option Pending) (lane : ℕ) (v : View) (b : Books) (t : CommitCommand) → Stands start entries pending v → StagingPathFree lane v → Begins lane t → Building lane t v b
begins_build start entries pending lane v b t stands home begins = record {
  needs = record {
    made = begins.made;
    homes = subst (λ a. HasHomes a v.now) (sym begins.mine) (homes_of start entries pending lane v stands home);
    meets = subst (λ ph. needs_in ph t.build v) (sym begins.new) tt;
  };
  mine = begins.mine;
  met = λ name put is. (let n : None ≡ Some (name, put) = sym begins.met ∙ is in cc);
  pins = λ o r. absurd (relied_none t.build t.build.phase begins.new o r);
  held = λ was. (let n : false ≡ true = sym begins.pinned ∙ was in cc);
  change = λ commit.
      subst (λ a. Facts lane (record { actor = a; name = t.name; seen = t.build.message.parent; value = Some commit; phase = ref.Look }) v b) (sym begins.mine)
      (begins_change start entries pending lane v b stands home (subst (λ a. a < 16) begins.mine begins.made.actor) t.name t.build.message.parent (Some commit) begins.named (λ e. let n : Some commit ≡ None = e in cc));
}

pub begins_of : (start : SystemState) (entries : List Entry) (pending : Option Pending) (lane : ℕ) (v : View) (b : Books) (t : CommitCommand) → Stands start entries pending v → StagingPathFree lane v → Begins lane t → commit_facts lane t v b
begins_of start entries pending lane v b t stands home begins =
    subst (λ o. facts_by o lane t v b) (sym begins.change) (begins_build start entries pending lane v b t stands home begins)

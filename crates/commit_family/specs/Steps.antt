-- How a commit begins, what it goes on to be after, and what its steps show.
use Rattle.std.proofs.Common.{◌≡◌, inl, inr, ⊎_elim, ℕ, Bool, refl, sym, ◌∙◌, ap, subst, List, Option, Some, None}
use Rattle.ost_types.specs.declared.limits.Limits.{Limits}
use Rattle.ost_types.specs.declared.object.ObjName.{ObjName}
use Rattle.ost_forms.specs.declared.tree_item.TreeItem.{TreeItem}
use Rattle.fs_trait.specs.declared.task.StepResult.TheVariants as turn
use Rattle.fs_trait.specs.declared.types.FsErr.{FsErr}
use Rattle.fs_trait.specs.View.{View}
use Rattle.ref_store.specs.Change.{progress_in}
use Rattle.rely_guarantee.specs.declared.event.Event.{Event}
use Rattle.rely_guarantee.specs.declared.event.Event.TheVariants as event
use Rattle.rely_guarantee.specs.Books.{Books}
use Rattle.rely_guarantee.specs.Laws.{Publish, MakeDurable, Store, IsBy, IsMakeDurable, Holds, NotPending}
use Rattle.ref_command.specs.Kinds.{event as event_in}
use Rattle.ref_command.proofs.Steps.{kind_shows}
use Rattle.tree_build.specs.Items.{IsTree}
use Rattle.commit_build.specs.declared.message.Message.{Message}
use Rattle.commit_build.specs.declared.phase.Phase.TheVariants as phase
use Rattle.commit_build.specs.Committing.{Committing, IsMade, ReadsBack, commit_in, storing_in}
use Rattle.commit_build.proofs.PutSteps.{kept_as}
use Rattle.commit_build.proofs.Wholes.{IsSame, same_more}
use Rattle.commit_durability.specs.Lasting.{sum_of}
use Rattle.commit_command.specs.declared.naming.Naming.{Naming}
use Rattle.commit_command.specs.declared.command.CommitCommand.{CommitCommand}
use Rattle.commit_command.specs.Answers.{Begins}
use Rattle.commit_command.specs.Facts.{commit_facts}
use Rattle.commit_command.specs.Kinds.{BuildSteps, build_kind, commit_kind, commit_stepped, kind_by, planned, stepped_at, stepped_by}
use Rattle.commit_command.specs.Laws.{commit_phase}
use Rattle.commit_command.proofs.Founded.{commit_founded}
use Rattle.command.specs.ChangeLaws.{Founds}
use Rattle.ref_family.specs.Steps.{change_own, changing_step, event_is, kind_makes_durable}
use Rattle.commit_family.specs.Pursues.{Commits, IsNaming, NamesIn, ReadsIn}

-- at the beginning nothing of it is shown
pub begins_holds : (lane : ℕ) (t : CommitCommand) (b : Books) → Begins lane t → NotPending lane b → Holds (commit_kind t) lane b
begins_holds lane t b begins none = subst (λ o. Holds (kind_by o t) lane b) (sym begins.change) (subst (λ ph. Holds (build_kind t.pinned (storing_in ph)) lane b) (sym begins.new) none)

-- only the lane itself takes its steps
build_own : {P : Type 0} (pinned : Bool) (o : Option ObjName) → build_kind pinned o ≡ Store → P
build_own pinned None is = cc
build_own pinned (Some name) is = cc

own_by : {P : Type 0} (o : Option Naming) (t : CommitCommand) → kind_by o t ≡ Store → P
own_by None t is = build_own t.pinned (storing_in t.build.phase) is
own_by (Some n) t is = change_own (progress_in n.work.task.phase) (event_in n.work.task) is

pub own_step : (actor lane : ℕ) (t : CommitCommand) → IsBy (commit_kind t) actor lane → actor ≡ lane
own_step actor lane t by = ⊎_elim (λ x. x) (λ k. own_by t.change t k) by

-- what is committed stays
same_of : (objects : ℕ) (old new : Committing) → BuildSteps objects old None new → IsSame old new
same_of objects old new (inl s) = same_more FsErr objects old new s.0
same_of objects old new (inr s) = record {
  actor = ap (λ (x : Committing). x.actor) s.1.0;
  items = ap (λ (x : Committing). x.items) s.1.0;
  limits = ap (λ (x : Committing). x.limits) s.1.0;
  message = ap (λ (x : Committing). x.message) s.1.0;
}

-- each step leaves it after the same
module _ (limits : Limits) (branch : List ℕ) (tree : List TreeItem) (message : Message) (t : CommitCommand) (is : Commits limits branch tree message t) where
  -- once it is built, the ref is to name the commit
  named : (commit : List ℕ) → t.build.phase ≡ phase.Ended commit → IsNaming branch message.parent tree (sum_of tree message) (planned t commit)
  named commit at =
      let kept = kept_as t.build is.made (phase.Ended commit) at in
      let its : commit ≡ sum_of t.build.items t.build.message = ap (λ (n : ObjName). n.csum) kept.1.name in
      let same : sum_of t.build.items t.build.message ≡ sum_of tree message = ap (λ i. sum_of i t.build.message) is.items ∙ ap (sum_of tree) is.says in
      record {
        commit = its ∙ same;
        whole = subst IsTree is.items kept.0;
        changing = (is.name, ap (λ (m : Message). m.parent) is.says, ap Some (its ∙ same), tt);
      }

  read : (commit : List ℕ) → t.build.phase ≡ phase.Ended commit → ReadsBack tree message
  read commit at = subst (ReadsBack tree) is.says (subst (λ i. ReadsBack i t.build.message) is.items (kept_as t.build is.made (phase.Ended commit) at).1.reads)

  step_at : (c : Option (List ℕ)) (new : CommitCommand) → commit_in t.build.phase ≡ c → t.change ≡ None → stepped_at c t turn.More new → IsMade new.build → Commits limits branch tree message new
  step_at None new at none step made =
      let same = same_of t.objects t.build new.build step.1 in
      record {
        name = ap (λ (x : CommitCommand). x.name) step.0 ∙ is.name;
        items = same.items ∙ is.items;
        bounds = same.limits ∙ is.bounds;
        says = same.message ∙ is.says;
        made = made;
        names = subst (NamesIn branch message.parent tree (sum_of tree message)) (sym (ap (λ (x : CommitCommand). x.change) step.0 ∙ none)) tt;
        reads = subst (ReadsIn tree message) (sym (ap (λ (x : CommitCommand). x.change) step.0 ∙ none)) tt;
      }
  step_at (Some commit) new at none step made =
      let build : new.build ≡ t.build = ap (λ (x : CommitCommand). x.build) step in
      record {
        name = ap (λ (x : CommitCommand). x.name) step ∙ is.name;
        items = ap (λ (x : Committing). x.items) build ∙ is.items;
        bounds = ap (λ (x : Committing). x.limits) build ∙ is.bounds;
        says = ap (λ (x : Committing). x.message) build ∙ is.says;
        made = made;
        names = subst (NamesIn branch message.parent tree (sum_of tree message)) (sym (ap (λ (x : CommitCommand). x.change) step)) (named commit (commit_phase t.build.phase commit at));
        reads = subst (ReadsIn tree message) (sym (ap (λ (x : CommitCommand). x.change) step)) (read commit (commit_phase t.build.phase commit at));
      }

  step_by : (o : Option Naming) (new : CommitCommand) → t.change ≡ o → stepped_by o t turn.More new → IsMade new.build → NamesIn branch message.parent tree (sum_of tree message) o → Commits limits branch tree message new
  step_by None new at step made names = step_at (commit_in t.build.phase) new refl at step made
  step_by (Some n) new at step made names =
      let build : new.build ≡ t.build = ap (λ (x : CommitCommand). x.build) step.1 in
      record {
        name = ap (λ (x : CommitCommand). x.name) step.1 ∙ is.name;
        items = ap (λ (x : Committing). x.items) build ∙ is.items;
        bounds = ap (λ (x : Committing). x.limits) build ∙ is.bounds;
        says = ap (λ (x : Committing). x.message) build ∙ is.says;
        made = made;
        names = subst (NamesIn branch message.parent tree (sum_of tree message)) (sym (ap (λ (x : CommitCommand). x.change) step.1))
            (record { commit = names.commit; whole = names.whole; changing = changing_step branch message.parent (Some (sum_of tree message)) n.work.task step.0.task step.2.0 names.changing });
        reads = subst (ReadsIn tree message) (sym (ap (λ (x : CommitCommand). x.change) step.1)) (subst (ReadsIn tree message) at is.reads);
      }

  pub commits_step : (new : CommitCommand) → commit_stepped t turn.More new → IsMade new.build → Commits limits branch tree message new
  commits_step new step made = step_by t.change new refl step made is.names

-- whatever it is told
pub commits_told : (limits : Limits) (branch : List ℕ) (tree : List TreeItem) (message : Message) (objects : ℕ) (t : CommitCommand) → Commits limits branch tree message t → Commits limits branch tree message (record t { objects = objects })
commits_told limits branch tree message objects t is = record { name = is.name; items = is.items; bounds = is.bounds; says = is.says; made = is.made; names = is.names; reads = is.reads }

-- what it shows and makes last is its change
build_shows : {P : Type 0} (pinned : Bool) (o : Option ObjName) (e : Event) → build_kind pinned o ≡ Publish e → P
build_shows pinned None e is = cc
build_shows pinned (Some name) e is = cc

build_makes_durable : {P : Type 0} (pinned : Bool) (o : Option ObjName) (e : Event) → build_kind pinned o ≡ MakeDurable e → P
build_makes_durable pinned None e is = cc
build_makes_durable pinned (Some name) e is = cc

pub build_not : (pinned : Bool) (o : Option ObjName) → IsMakeDurable (build_kind pinned o) → ⊥
build_not pinned None k = k
build_not pinned (Some name) k = k

naming_is : (branch : List ℕ) (seen : Option (List ℕ)) (tree : List TreeItem) (sum : List ℕ) (n : Naming) → IsNaming branch seen tree sum n → event_in n.work.task ≡ event.SetRef branch seen sum
naming_is branch seen tree sum n is = event_is branch seen (Some sum) n.work.task is.changing

shown_by : (branch : List ℕ) (seen : Option (List ℕ)) (tree : List TreeItem) (sum : List ℕ) (t : CommitCommand) (o : Option Naming) (e : Event) → NamesIn branch seen tree sum o → kind_by o t ≡ Publish e → e ≡ event.SetRef branch seen sum
shown_by branch seen tree sum t None e names k = build_shows t.pinned (storing_in t.build.phase) e k
shown_by branch seen tree sum t (Some n) e names k = sym (kind_shows (progress_in n.work.task.phase) (event_in n.work.task) e k) ∙ naming_is branch seen tree sum n names

settled_by : (branch : List ℕ) (seen : Option (List ℕ)) (tree : List TreeItem) (sum : List ℕ) (t : CommitCommand) (o : Option Naming) (e : Event) → NamesIn branch seen tree sum o → kind_by o t ≡ MakeDurable e → e ≡ event.SetRef branch seen sum
settled_by branch seen tree sum t None e names k = build_makes_durable t.pinned (storing_in t.build.phase) e k
settled_by branch seen tree sum t (Some n) e names k = sym (kind_makes_durable (progress_in n.work.task.phase) (event_in n.work.task) e k) ∙ naming_is branch seen tree sum n names

module _ (limits : Limits) (branch : List ℕ) (tree : List TreeItem) (message : Message) (t : CommitCommand) (e : Event) (is : Commits limits branch tree message t) where
  pub commits_shown : commit_kind t ≡ Publish e → e ≡ event.SetRef branch message.parent (sum_of tree message)
  commits_shown k = shown_by branch message.parent tree (sum_of tree message) t t.change e is.names k

  pub commits_settled : commit_kind t ≡ MakeDurable e → e ≡ event.SetRef branch message.parent (sum_of tree message)
  commits_settled k = settled_by branch message.parent tree (sum_of tree message) t t.change e is.names k

-- the commit lasts then
pub commits_founds : (lane : ℕ) (t : CommitCommand) (v : View) (b : Books) (e : Event) → commit_facts lane t v b → commit_kind t ≡ Publish e → Founds v e
commits_founds lane t v b (event.SetRef name seen commit) f k = commit_founded lane t v b name seen commit f k
commits_founds lane t v b (event.DropRef name seen) f k = tt
commits_founds lane t v b (event.Pruned depth roots held removed) f k = tt
commits_founds lane t v b (event.SetDeployments change list) f k = tt

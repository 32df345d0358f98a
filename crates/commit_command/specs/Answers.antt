-- What a commit answers, and what each answer says.
use Rattle.std.specs.Prelude.{◌≡◌, ◌≢◌, ◌⊎◌, ◌≤◌, ◌+◌, ℕ, false, List, Option, Some, None, Ok, Err}
use Rattle.ost_forms.specs.declared.tree_item.TreeItem.{TreeItem}
use Rattle.fs_trait.specs.View.{Disk, View}
use Rattle.fs_trait.specs.declared.types.Value.TheVariants.{Absent}
use Rattle.repo_layout.specs.RefName.{IsRefName}
use Rattle.repo_model.specs.Objects.{path_of}
use Rattle.ref_room.specs.Clash.{IsLeastClash}
use Rattle.ref_store.specs.declared.refusal.RefRefusal.TheVariants as refusal
use Rattle.ref_store.specs.Steps.{HasValue}
use Rattle.tree_build.specs.Items.{IsTree, IsLeastBad}
use Rattle.tree_build.specs.Building.{IsNumber}
use Rattle.tree_build.specs.Objects.{Object, work}
use Rattle.commit_build.specs.declared.message.Message.{Message}
use Rattle.commit_build.specs.declared.phase.Phase.TheVariants as phase
use Rattle.commit_build.specs.declared.refusal.BuildRefusal.{BuildRefusal}
use Rattle.commit_build.specs.declared.refusal.BuildRefusal.TheVariants as built
use Rattle.commit_build.specs.Committing.{Committing, IsMade, commit_of}
use Rattle.commit_build.specs.Whole.{its_commit}
use Rattle.rely_guarantee.specs.declared.event.Event.{Event}
use Rattle.rely_guarantee.specs.declared.event.Event.TheVariants.{SetRef}
use Rattle.rely_guarantee.specs.Laws.{MakeDurable}
use Rattle.ref_command.specs.Kinds.{Answer}
use Rattle.commit_command.specs.declared.answer.CommitAnswer.{CommitAnswer}
use Rattle.commit_command.specs.declared.answer.CommitAnswer.TheVariants as answer
use Rattle.commit_command.specs.declared.naming.Naming.{Naming}
use Rattle.commit_command.specs.declared.command.CommitCommand.{CommitCommand}
use Rattle.commit_command.specs.Kinds.{commit_kind}
use Rattle.commit_command.specs.Facts.{Lasts}

abbrev pub built_answer : Option BuildRefusal → Option CommitAnswer
built_answer None = None
built_answer (Some (built.BadTree path)) = Some (answer.BadTree path)
built_answer (Some (built.TooMany number)) = Some (answer.TooMany number)

-- once the ref was to name the commit
abbrev pub change_answer : List ℕ → Answer → Option CommitAnswer
change_answer commit None = None
change_answer commit (Some (Ok x)) = Some (answer.Commit commit)
change_answer commit (Some (Err (refusal.RefMoved seen now))) = Some (answer.RefMoved seen now)
change_answer commit (Some (Err (refusal.RefClash other))) = Some (answer.RefClash other)
change_answer commit (Some (Err refusal.NoRef)) = Some answer.NoRef

abbrev pub answer_by : Option Naming → CommitCommand → Option CommitAnswer
answer_by None t = built_answer t.refusal
answer_by (Some n) t = change_answer n.commit n.work.answer

-- what a command answers, once it is done
abbrev pub answer_of : CommitCommand → Option CommitAnswer
answer_of t = answer_by t.change t

-- a commit at its beginning, of this tree and this message, that changes this ref; no count was told, and nothing was refused
pub record IsCommitOf (ref : List ℕ) (first : Committing) (t : CommitCommand) : Type 0 where
  pub name : t.name ≡ ref
  pub build : t.build ≡ first
  pub objects : t.objects ≡ 0
  pub refusal : t.refusal ≡ None
  pub change : t.change ≡ None

-- what is known of a command that begins
pub record Begins (lane : ℕ) (t : CommitCommand) : Type 0 where
  pub made : IsMade t.build
  pub mine : t.build.actor ≡ lane
  pub named : IsRefName t.name
  pub new : t.build.phase ≡ phase.Check
  pub met : t.build.met ≡ None
  pub pinned : t.pinned ≡ false
  pub change : t.change ≡ None

-- nothing stands at the path of an object of the commit
abbrev pub IsLacking : List TreeItem → Message → Disk → Type 0
IsLacking items message d = (o : Object) × (((n : ℕ) × IsNumber (work items) n o) ⊎ (o ≡ commit_of items message)) × (d.at (path_of o.name) ≡ Absent)

-- Over the view before the last step, and after it. That the commit is done: the step settled that the ref, which named the parent,
-- names the commit of these items; and no crash leaves away an object of it. Of a refusal of the build: the least bad path; or that
-- the store has as many objects as it may, and one of the commit's isn't there. Nothing is changed by it. Of a refusal of the
-- change: the ref's value, which isn't the commit's parent; or the least ref that can't stand beside it.
abbrev pub Says : CommitAnswer → CommitCommand → View → View → Type 0
Says (answer.Commit commit) t v w = (commit ≡ (its_commit t.build).name.csum) × IsTree t.build.items × Lasts t.build v × (commit_kind t ≡ MakeDurable (SetRef t.name t.build.message.parent commit))
Says (answer.BadTree path) t v w = IsLeastBad t.build.items path × (w ≡ v)
Says (answer.TooMany number) t v w = (t.build.limits.objects ≤ t.objects) × (number ≡ t.build.limits.objects + 1) × IsLacking t.build.items t.build.message v.now × (w ≡ v)
Says (answer.RefMoved seen now) t v w = (seen ≡ t.build.message.parent) × HasValue v.now t.name now × (now ≢ seen)
Says (answer.RefClash other) t v w = IsLeastClash v.now t.name other
Says answer.NoRef t v w = ⊥

-- the change that a step shows lets the ref name the commit, which lasts
abbrev pub ShowsLasting : Event → CommitCommand → View → Type 0
ShowsLasting e t v = (e ≡ SetRef t.name t.build.message.parent (its_commit t.build).name.csum) × IsTree t.build.items × Lasts t.build v

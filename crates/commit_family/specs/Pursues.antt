-- What the task of a commit is after, at each of its steps.
use Rattle.std.specs.Prelude.{◌≡◌, List, ℕ, Option, Some, None}
use Rattle.ost_types.specs.declared.limits.Limits.{Limits}
use Rattle.ost_forms.specs.declared.tree_item.TreeItem.{TreeItem}
use Rattle.tree_build.specs.Items.{IsTree}
use Rattle.commit_build.specs.declared.message.Message.{Message}
use Rattle.commit_build.specs.Committing.{IsMade, ReadsBack}
use Rattle.commit_durability.specs.Lasting.{sum_of}
use Rattle.commit_command.specs.declared.command.CommitCommand.{CommitCommand}
use Rattle.commit_command.specs.declared.naming.Naming.{Naming}
use Rattle.ref_family.specs.Family.{IsChanging}

-- the ref is changed from this value to the commit with this sum, of this tree
pub record IsNaming (branch : List ℕ) (seen : Option (List ℕ)) (tree : List TreeItem) (sum : List ℕ) (n : Naming) : Type 0 where
  pub commit : n.commit ≡ sum
  pub whole : IsTree tree
  pub changing : IsChanging branch seen (Some sum) n.work.task

abbrev pub NamesIn : List ℕ → Option (List ℕ) → List TreeItem → List ℕ → Option Naming → Type 0
NamesIn branch seen tree sum None = Unit {0}
NamesIn branch seen tree sum (Some n) = IsNaming branch seen tree sum n

-- once the ref is changed, the commit's bytes read as it
abbrev pub ReadsIn : List TreeItem → Message → Option Naming → Type 0
ReadsIn tree message None = Unit {0}
ReadsIn tree message (Some n) = ReadsBack tree message

-- a commit of this tree with this message, and then the change of this ref from the message's parent to it
pub record Commits (limits : Limits) (branch : List ℕ) (tree : List TreeItem) (message : Message) (t : CommitCommand) : Type 0 where
  pub name : t.name ≡ branch
  pub items : t.build.items ≡ tree
  pub bounds : t.build.limits ≡ limits
  pub says : t.build.message ≡ message
  pub made : IsMade t.build
  pub names : NamesIn branch message.parent tree (sum_of tree message) t.change
  pub reads : ReadsIn tree message t.change

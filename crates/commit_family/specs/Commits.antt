-- Which commit the words are of, and of which words one can be made.
use Rattle.std.specs.Prelude.{◌≤◌, List, ℕ, length, Option}
use Rattle.ost_types.specs.declared.limits.Limits.{Limits}
use Rattle.ost_forms.specs.Commit.{commit_form, parent_bytes}
use Rattle.ost_forms.specs.declared.tree_item.TreeItem.{TreeItem}
use Rattle.fs_trait.specs.View.{View}
use Rattle.tree_build.specs.Items.{AreItems, AreTyped}
use Rattle.tree_build.specs.Makeable.{AreMakeable, IsSmall}
use Rattle.commit_build.specs.declared.message.Message.{Message}
use Rattle.commit_build.specs.Committing.{named_commit, parts_of, ReadsBack}
use Rattle.commit_build.specs.Steps.{AreSure, IsSure, NeverMarked}
use Rattle.commit_durability.specs.Lasting.{sum_of}
use Rattle.rely_guarantee.specs.State.{State, RefOf}
use Rattle.commit_family.specs.declared.words.CommitWords.{CommitWords}

-- what a commit with this parent says
abbrev pub message_of : Option (List ℕ) → CommitWords → Message
message_of parent c = record { parent = parent; subject = c.subject; body = c.body; time = c.time }

-- and one that begins in this state: its parent is the ref's value there
abbrev pub message_in : State → CommitWords → Message
message_in s c = message_of (s (RefOf c.branch)) c

-- the commit itself
abbrev pub sum_in : State → CommitWords → List ℕ
sum_in s c = sum_of c.tree.items (message_in s c)

-- The items are in order and within the bounds, and with any parent the commit's object is small.
pub record IsMakeable (limits : Limits) (c : CommitWords) : Type 0 where
  pub items : AreItems c.tree.items
  pub makeable : AreMakeable limits c.tree.items
  pub small : (parent : Option (List ℕ)) → length (parent_bytes parent) ≤ 32 → IsSmall (commit_form (parts_of c.tree.items (message_of parent c)))

-- No crash leaves the commit or an object of its tree away, and none leaves a mark of it.
pub record LastsWith (tree : List TreeItem) (commit : List ℕ) (v : View) : Type 0 where
  pub objects : AreSure tree v
  pub itself : IsSure v (named_commit commit)
  pub unmarked : NeverMarked commit v

-- The items are as their types keep them, and the commit's bytes read as it.
pub record IsFormed (tree : List TreeItem) (message : Message) : Type 0 where
  pub typed : AreTyped tree
  pub reads : ReadsBack tree message

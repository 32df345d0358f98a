-- What the words and answers of a family of commands mean. Nothing here knows a task.
use Rattle.std.specs.Prelude.{ℕ, List}
use Rattle.ost_types.specs.declared.limits.Limits.{Limits}
use Rattle.ost_types.specs.declared.object.ObjName.{ObjName}
use Rattle.ost_types.specs.Path.{Name}
use Rattle.fs_trait.specs.View.{Disk, View}
use Rattle.rely_guarantee.specs.declared.event.Event.{Event}
use Rattle.rely_guarantee.specs.Books.{Books}
use Rattle.command.specs.Since.{Since}

-- W are the words, A the answers. A list of objects is of those that were removed since, of which nothing is said any more.
pub record Meaning (W A : Type 0) : Type 1 where
  -- the words can be done within the bounds
  pub fit : Limits → W → Type 0
  -- the change that the command makes
  pub changes : Since → W → Event → Type 0
  -- the answer of a command that made its change
  pub makes : A → W → Type 0
  -- what the answer says of that change
  pub tells : A → Event → Type 0
  -- what an answer says of the states at the beginning and at its place
  pub says : Since → A → W → Type 0
  -- and what it says of them where the view is told
  pub knows : Since → A → W → Type 0
  -- and of the disk before the act that gave it
  pub shows : Since → View → A → W → Type 0
  -- and behind it
  pub remains : Since → View → A → W → Type 0
  -- what one leaves outside of the store, from then on, whoever acts
  pub stays : Since → List ObjName → A → W → View → Books → Type 0
  -- what a change that lasts leaves in the store, where the first view is that of the opening
  pub keeps : Since → View → List ObjName → W → View → Type 0
  -- and what it leaves on each disk that a crash left since
  pub keeps_on : Since → View → List ObjName → W → Disk → Type 0
  -- the object is in the command's work
  pub works : Since → W → ObjName → Type 0
  -- and, where the view is told, it is there by this
  pub reaches : Since → W → ObjName → Type 0
  -- the answer tells that something stands in the way of this checkout
  pub finds : A → W → Name → Type 0
  -- the command makes the checkout of this name
  pub claims : W → Name → Type 0
  -- the answer tells that it made it
  pub checks_out : A → W → Name → Type 0
  -- these bytes come into the store as the object of that name
  pub brings : Since → W → ObjName → List ℕ → Type 0
  -- the answer tells that this commit isn't there, or has a mark
  pub lacks : A → List ℕ → Type 0
  -- the answer tells that an object of a commit isn't there as its name says
  pub outside : A → Type 0
  -- the answer tells that the store has as many objects as it may
  pub full : A → Type 0

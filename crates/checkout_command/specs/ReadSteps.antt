-- What is known of a store while the tree is walked, and what those steps tell and do. Files aren't read, so of these it is known only that
-- they stand (`Standing`).
use Rattle.std.specs.Prelude.{◌≡◌, ◌<◌, ◌≤◌, ◌+◌, ℕ, length, Option, Some, None}
use Rattle.ost_types.specs.declared.object.ObjName.{ObjName}
use Rattle.ost_types.specs.Path.{Path}
use Rattle.ost_types.specs.PathMap.{IsPathMap}
use Rattle.fs_trait.specs.View.{Disk}
use Rattle.repo_layout.specs.BootPaths.{checkout_path}
use Rattle.repo_model.specs.Objects.{Store, path_of}
use Rattle.repo_model.specs.Whole.{Complete}
use Rattle.tree_read.specs.Reading.{IsSoFar, left_of, unread}
use Rattle.tree_walk.specs.Standing.{AreRight, Standing}
use Rattle.checkout.specs.CheckoutWork.{IsPlaced, beginning}
use Rattle.commit_checkout.specs.TreeFolder.{IsTreeOf}
use Rattle.checkout_command.specs.declared.answer.CheckoutAnswer.TheVariants as answer
use Rattle.checkout_command.specs.declared.command.CheckoutCommand.{CheckoutCommand}
use Rattle.checkout_command.specs.declared.command.CheckoutCommand.TheVariants as command
use Rattle.checkout_command.specs.declared.made.Made.TheVariants.{Nothing}
use Rattle.checkout_command.specs.declared.make.Make.{Make}
use Rattle.checkout_command.specs.Reads.{Reads}
use Rattle.checkout_command.specs.declared.request.Request.{Request}
use Rattle.checkout_command.specs.Answers.{SaysLacking}
use Rattle.checkout_command.specs.MakeSteps.{make_left}

-- at its beginning
abbrev pub reading : Request → Reads
reading r = record { request = r; task = unread r.commit r.limits }

-- at most so many steps go on, those that make the tree among them
abbrev pub read_left : Reads → ℕ
read_left s = left_of s.task + s.request.limits.paths + 2

-- What was seen so far is of the commit's tree.
pub record ReadKnows (S : Store) (s : Reads) : Type 0 where
  pub commit : s.task.commit ≡ s.request.commit
  pub limits : s.task.limits ≡ s.request.limits
  pub so_far : IsSoFar S s.task

-- All was seen: the commit is whole but for what its files hold, and its tree is to be made, of which nothing is made yet.
pub record IsToMake (d : Disk) (r : Request) (m : Make) : Type 0 where
  pub request : m.request ≡ r
  pub made : m.made ≡ Nothing
  pub task : m.task ≡ beginning (checkout_path r.name) m.task.tree
  pub map : IsPathMap m.task.tree
  pub placed : IsPlaced (checkout_path r.name) m.task.tree
  pub whole : Complete (Standing d) r.limits r.commit
  pub tree : IsTreeOf (Standing d) r.commit m.task.tree

-- What was found is a tree within the limits that may be made at the path.
pub record CanMake (into : Path) (s : Reads) : Type 0 where
  pub few : length s.task.found ≤ s.request.limits.paths
  pub placed : IsPlaced into s.task.found

-- it ends with the path of this object
abbrev pub Lacks : ObjName → CheckoutCommand → Type 0
Lacks o t = t ≡ command.Ended (answer.Lacking (path_of o))

-- All was seen, or an object lacks: the first one, where the files before it are right.
abbrev pub ReadEnds : Disk → Reads → CheckoutCommand → Type 0
ReadEnds d old (command.Make m) = IsToMake d old.request m
ReadEnds d old (command.Ended (answer.Lacking p)) = AreRight old.request.limits.content d → SaysLacking d old.request.limits old.request.commit p
ReadEnds d old t = ⊥

abbrev pub ReadTells : Disk → Reads → Reads → Option CheckoutCommand → Type 0
ReadTells d old new None = (new.request ≡ old.request) × ReadKnows (Standing d) new
ReadTells d old new (Some t) = ReadEnds d old t

-- The same, told or not.
abbrev pub IsReadEnd : Reads → CheckoutCommand → Type 0
IsReadEnd old (command.Make m) = (m.request ≡ old.request) × (make_left m.made m.task ≤ old.request.limits.paths + 1)
IsReadEnd old (command.Ended (answer.Lacking p)) = Unit {0}
IsReadEnd old t = ⊥

abbrev pub IsReadStepped : Reads → Reads → Option CheckoutCommand → Type 0
IsReadStepped old new None = (new.request ≡ old.request) × (left_of new.task < left_of old.task)
IsReadStepped old new (Some t) = IsReadEnd old t

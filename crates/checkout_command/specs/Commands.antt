-- `checkout` of a commit, as a task.
use Rattle.std.specs.Prelude.{◌≡◌, ◌≢◌, ◌<◌, ◌+◌, ◌*◌, ℕ, Option, Some, None}
use Rattle.ost_types.specs.Path.{Name, Path}
use Rattle.ost_types.specs.PathMap.{IsPathMap}
use Rattle.fs_trait.specs.declared.task.StepResult.{StepResult}
use Rattle.fs_trait.specs.declared.task.StepResult.TheVariants as turn
use Rattle.fs_trait.specs.declared.types.FsErr.{FsErr}
use Rattle.fs_trait.specs.Change.{Nothing}
use Rattle.fs_trait.specs.Effect.{OfNone}
use Rattle.fs_trait.specs.Image.{IsTree}
use Rattle.fs_trait.specs.Seen.{Seen, IsDirectory, shows}
use Rattle.fs_trait.specs.View.{Disk, View}
use Rattle.repo_layout.specs.declared.folder.Folder.TheVariants.{Checkouts}
use Rattle.repo_layout.specs.Paths.{folder_path}
use Rattle.repo_layout.specs.RefFile.{IsSum}
use Rattle.repo_model.specs.Whole.{Complete}
use Rattle.rely_guarantee.specs.Books.{Books, IsClaimed}
use Rattle.rely_guarantee.specs.Laws.{Kind, Quiet, Take}
use Rattle.ref_command.specs.declared.look_up.Found.TheVariants.{Whole}
use Rattle.ref_command.specs.Commands.{pin_wants}
use Rattle.ref_command.specs.Found.{IsFound}
use Rattle.ref_command.specs.Pins.{IsPinned}
use Rattle.tree_walk.specs.Standing.{AreRight, Standing}
use Rattle.checkout.specs.CheckoutWork.{IsPlaced}
use Rattle.commit_checkout.specs.TreeFolder.{IsTreeOf}
use Rattle.checkout_command.specs.declared.answer.CheckoutAnswer.{CheckoutAnswer}
use Rattle.checkout_command.specs.declared.answer.CheckoutAnswer.TheVariants as answer
use Rattle.checkout_command.specs.declared.command.CheckoutCommand.{CheckoutCommand}
use Rattle.checkout_command.specs.declared.command.CheckoutCommand.TheVariants as command
use Rattle.checkout_command.specs.declared.made.Made.{Made}
use Rattle.checkout_command.specs.declared.made.Made.TheVariants as made
use Rattle.checkout_command.specs.declared.make.Make.{Make}
use Rattle.checkout_command.specs.Answers.{SaysLacking}
use Rattle.checkout_command.specs.Asked.{asked}
use Rattle.checkout_command.specs.Fits.{IsFitting}
use Rattle.checkout_command.specs.Founded.{IsFounded}
use Rattle.checkout_command.specs.LookSteps.{SaysStopped}
use Rattle.checkout_command.specs.ReadSteps.{IsToMake, ReadKnows, read_left, reading}
use Rattle.checkout_command.specs.MakeSteps.{MakeNeeds, MakeSays, Makes, make_kind, make_left, make_writes}

-- the look pins the commit; who makes the folder claims it
abbrev pub checkout_kind : CheckoutCommand → Kind
checkout_kind (command.Look r) = Take (pin_wants r.commit)
checkout_kind (command.Read s) = Quiet
checkout_kind (command.Make m) = make_kind m.made m.request.name
checkout_kind (command.Ended a) = Quiet

-- what it knows of a disk; after its end nothing is asked of it
abbrev pub checkout_needs : ℕ → CheckoutCommand → View → Type 0
checkout_needs actor (command.Look r) v = Unit {0}
checkout_needs actor (command.Read s) v = ReadKnows (Standing v.now) s
checkout_needs actor (command.Make m) v = MakeNeeds m v.now
checkout_needs actor (command.Ended a) v = ⊥

abbrev pub checkout_writes : ℕ → CheckoutCommand → View → Path → Seen → Type 0
checkout_writes actor (command.Make m) v = make_writes m v
checkout_writes actor t v = Nothing

-- at most so many steps go on
abbrev pub checkout_left : CheckoutCommand → ℕ
checkout_left (command.Look r) = 3 * r.limits.paths + 5
checkout_left (command.Read s) = read_left s
checkout_left (command.Make m) = make_left m.made m.task
checkout_left (command.Ended a) = 0

-- it goes on as what it was asked, with fewer steps; or it has an answer of its own
abbrev pub checkout_stepped : CheckoutCommand → StepResult (Unit {0}) → CheckoutCommand → Type 0
checkout_stepped t turn.More new = (asked new ≡ asked t) × (checkout_left new < checkout_left t)
checkout_stepped t (turn.Done x) new = (a : CheckoutAnswer) × (new ≡ command.Ended a) × IsFitting (asked t) a

-- how it goes on
abbrev pub Goes : CheckoutCommand → CheckoutCommand → View → View → Type 0
Goes (command.Look r) (command.Read s) v w = (w ≡ v) × (s ≡ reading r) × IsFound v.now r.commit Whole × IsTree v.now
Goes (command.Read s) (command.Read n) v w = (w ≡ v) × (n.request ≡ s.request) × ReadKnows (Standing v.now) n
Goes (command.Read s) (command.Make m) v w = (w ≡ v) × IsToMake v.now s.request m
Goes (command.Make m) (command.Make n) v w = Makes m n v w
Goes t new v w = ⊥

-- and what it answers
abbrev pub Tells : CheckoutCommand → Disk → CheckoutAnswer → Type 0
Tells (command.Look r) d a = SaysStopped d r.commit a
Tells (command.Read s) d (answer.Lacking p) = AreRight s.request.limits.content d → SaysLacking d s.request.limits s.request.commit p
Tells (command.Make m) d a = MakeSays m d a
Tells t d a = ⊥

abbrev pub checkout_leaves : CheckoutCommand → StepResult (Unit {0}) → CheckoutCommand → View → View → Type 0
checkout_leaves t turn.More new v w = Goes t new v w
checkout_leaves t (turn.Done x) new v w = (w ≡ v) × (a : CheckoutAnswer) × (new ≡ command.Ended a) × Tells t v.now a

abbrev pub checkout_refuses : CheckoutCommand → View → FsErr → Type 0
checkout_refuses t v e = OfNone e

-- the folder of all checkouts is there
abbrev pub IsHome : View → Type 0
IsHome v = IsDirectory (shows v.now (folder_path Checkouts))

-- it has made its folder, which nobody else has claimed
abbrev pub IsOwned : Made → Name → ℕ → Books → Type 0
IsOwned made.Nothing name lane b = Unit {0}
IsOwned m name lane b = IsClaimed name lane b

-- While the tree is made: that it is the commit's, which is whole but for what its files hold, and what the next step needs.
pub record Making (lane : ℕ) (m : Make) (v : View) (b : Books) : Type 0 where
  pub map : IsPathMap m.task.tree
  pub placed : IsPlaced m.task.into m.task.tree
  pub whole : Complete (Standing v.now) m.request.limits m.request.commit
  pub tree : IsTreeOf (Standing v.now) m.request.commit m.task.tree
  pub needs : MakeNeeds m v.now
  pub owned : IsOwned m.made m.request.name lane b

abbrev pub Known : ℕ → CheckoutCommand → View → Books → Type 0
Known lane (command.Look r) v b = Unit {0}
Known lane (command.Read s) v b = ReadKnows (Standing v.now) s
Known lane (command.Make m) v b = Making lane m v b
Known lane (command.Ended a) v b = ⊥

-- behind the look the commit is pinned
abbrev pub ArePinned : ℕ → CheckoutCommand → Books → Type 0
ArePinned lane (command.Read s) b = IsPinned lane b s.request.commit
ArePinned lane (command.Make m) b = IsPinned lane b m.request.commit
ArePinned lane t b = Unit {0}

-- What is so of the view and the books while others act.
pub record Facts (lane : ℕ) (t : CheckoutCommand) (v : View) (b : Books) : Type 0 where
  pub known : Known lane t v b
  pub founded : IsFounded t v
  pub home : IsHome v
  pub pinned : ArePinned lane t b

abbrev pub checkout_facts : ℕ → CheckoutCommand → View → Books → Type 0
checkout_facts lane t v b = Facts lane t v b

-- what it answers, once it is done
abbrev pub answer_of : CheckoutCommand → Option CheckoutAnswer
answer_of (command.Ended a) = Some a
answer_of t = None

abbrev pub IsNew : CheckoutCommand → Type 0
IsNew (command.Look r) = IsSum r.commit
IsNew t = ⊥

-- it has made the folder of this name
abbrev pub HasMade : CheckoutCommand → Name → Type 0
HasMade (command.Make m) name = (m.made ≢ made.Nothing) × (m.request.name ≡ name)
HasMade t name = ⊥

abbrev pub turn_of : CheckoutCommand → StepResult (Unit {0})
turn_of (command.Ended a) = turn.Done tt
turn_of t = turn.More

-- it goes on as this, if something else comes next
abbrev pub goes : Option CheckoutCommand → CheckoutCommand → StepResult (Unit {0}) → CheckoutCommand → Type 0
goes None old u new = (u ≡ turn.More) × (new ≡ old)
goes (Some next) old u new = (u ≡ turn_of next) × (new ≡ next)

-- it ends with the answer, if there is one
abbrev pub ends : Option CheckoutAnswer → CheckoutCommand → StepResult (Unit {0}) → CheckoutCommand → Type 0
ends None old u new = (u ≡ turn.More) × (new ≡ old)
ends (Some a) old u new = (u ≡ turn.Done tt) × (new ≡ command.Ended a)

-- What a commit says, and what its task is to it.
use Rattle.std.specs.Prelude.{◌≡◌, ◌+◌, ℕ, List, None}
use Rattle.ost_types.specs.declared.object.ObjName.{ObjName}
use Rattle.fs_trait.specs.View.{Disk, View}
use Rattle.tree_build.specs.Items.{IsLeastBad, IsTree}
use Rattle.tree_build.specs.Objects.{Object}
use Rattle.commit_durability.specs.Lasting.{AreRight, IsOf}
use Rattle.commit_command.specs.declared.answer.CommitAnswer.{CommitAnswer}
use Rattle.commit_command.specs.declared.answer.CommitAnswer.TheVariants as answer
use Rattle.commit_command.specs.Answers.{Begins, IsLacking, answer_of}
use Rattle.commit_command.specs.Held.{AreHeld}
use Rattle.commit_command.specs.Kinds.{commit_left, met_in}
use Rattle.rely_guarantee.specs.declared.event.Event.{Event}
use Rattle.rely_guarantee.specs.declared.event.Event.TheVariants as event
use Rattle.rely_guarantee.specs.State.{State, RefOf}
use Rattle.ref_family.specs.Knows.{HasMoved, HasStayed, IsFreeIn, LeastClashIn}
use Rattle.command.specs.Doing.{Doing}
use Rattle.command.specs.LearnLaws.{learns_nothing}
use Rattle.command.specs.Meaning.{Meaning}
use Rattle.command.specs.Since.{Since}
use Rattle.commit_family.specs.declared.task.CommitsTask.{CommitsTask}
use Rattle.commit_family.specs.declared.words.CommitWords.{CommitWords}
use Rattle.commit_family.specs.Commits.{IsFormed, IsMakeable, LastsWith, message_in, sum_in}
use Rattle.commit_family.specs.Pursues.{Commits}
use Rattle.commit_family.specs.Removed.{LastsBut, StandsBut}

-- the ref comes to name the commit, whose parent is its value at the beginning
abbrev pub commit_changes : State → CommitWords → Event → Type 0
commit_changes s c e = e ≡ event.SetRef c.branch (s (RefOf c.branch)) (sum_in s c)

abbrev pub commit_makes : CommitAnswer → Type 0
commit_makes (answer.Commit sum) = Unit {0}
commit_makes a = ⊥

-- the tree is looked at before anything else
abbrev pub commit_says : Since → CommitAnswer → CommitWords → Type 0
commit_says since (answer.Commit sum) c = (sum ≡ sum_in since.start.refs c) × IsTree c.tree.items
commit_says since (answer.BadTree path) c = IsLeastBad c.tree.items path
commit_says since (answer.TooMany number) c = (number ≡ since.limits.objects + 1) × IsTree c.tree.items
commit_says since (answer.RefMoved seen now) c = IsTree c.tree.items
commit_says since (answer.RefClash other) c = IsTree c.tree.items
commit_says since answer.NoRef c = Unit {0}

-- what it says of the refs
abbrev pub commit_knows : Since → CommitAnswer → CommitWords → Type 0
commit_knows since (answer.Commit sum) c = IsFreeIn since.place.refs c.branch
commit_knows since (answer.RefMoved seen now) c = HasMoved since.start.refs since.place.refs c.branch seen now
commit_knows since (answer.RefClash other) c = LeastClashIn since.place.refs c.branch other × HasStayed since.start.refs since.place.refs c.branch
commit_knows since answer.NoRef c = ⊥
commit_knows since (answer.BadTree path) c = Unit {0}
commit_knows since (answer.TooMany number) c = Unit {0}

-- and of the disk: a commit that was made lasts, and one that there is no room for isn't there whole
abbrev pub commit_shows : Since → View → CommitAnswer → CommitWords → Type 0
commit_shows since v (answer.Commit sum) c = LastsWith c.tree.items sum v × IsFormed c.tree.items (message_in since.start.refs c)
commit_shows since v (answer.TooMany number) c = IsLacking c.tree.items (message_in since.start.refs c) v.now
commit_shows since v a c = Unit {0}

-- Where what stood at the paths of its objects at the opening had their names, the commit lasts, but for what was removed,
abbrev pub commit_keeps : Since → View → List ObjName → CommitWords → View → Type 0
commit_keeps since opening out c v = AreRight opening c.tree.items (message_in since.start.refs c) → LastsBut out since.limits c.tree.items (message_in since.start.refs c) v

-- and stands so on each disk that a crash left.
abbrev pub commit_keeps_on : Since → View → List ObjName → CommitWords → Disk → Type 0
commit_keeps_on since opening out c d = AreRight opening c.tree.items (message_in since.start.refs c) → StandsBut out since.limits c.tree.items (message_in since.start.refs c) d

-- an object of the commit: one of its tree, or the commit's own
abbrev pub commit_works : State → CommitWords → ObjName → Type 0
commit_works s c name = (o : Object) × IsOf c.tree.items (message_in s c) o × (o.name ≡ name)

abbrev pub commit_brings : State → CommitWords → ObjName → List ℕ → Type 0
commit_brings s c name bytes = (o : Object) × IsOf c.tree.items (message_in s c) o × (o.name ≡ name) × (o.bytes ≡ bytes)

abbrev pub commit_full : CommitAnswer → Type 0
commit_full (answer.TooMany number) = Unit {0}
commit_full a = ⊥

abbrev pub commit_means : Meaning CommitWords CommitAnswer
commit_means = record {
  fit = IsMakeable;
  changes = λ since. commit_changes since.start.refs;
  makes = λ a c. commit_makes a;
  tells = λ a e. Unit {0};
  says = commit_says;
  knows = commit_knows;
  shows = commit_shows;
  remains = λ since v a c. Unit {0};
  stays = λ since out a c v b. Unit {0};
  keeps = commit_keeps;
  keeps_on = commit_keeps_on;
  works = λ since. commit_works since.start.refs;
  reaches = λ since c name. Unit {0};
  claims = λ c name. ⊥;
  checks_out = λ a c name. ⊥;
  finds = λ a c name. ⊥;
  brings = λ since. commit_brings since.start.refs;
  lacks = λ a commit. ⊥;
  outside = λ a. ⊥;
  full = commit_full;
}

abbrev pub commit_pursues : Since → CommitWords → CommitsTask → Type 0
commit_pursues since c t = Commits since.limits c.branch c.tree.items (message_in since.start.refs c) t.work

abbrev pub commit_doing : Doing CommitsTask CommitWords CommitAnswer
commit_doing = record {
  begins = λ lane t. Begins lane t.work;
  pursues = commit_pursues;
  answer = λ t. answer_of t.work;
  left = λ t. commit_left t.work;
  hears = λ told t. record t { work = record t.work { objects = told.objects } };
  heard = λ t. record { objects = t.work.objects };
  learns = learns_nothing;
  asks = λ actor t. None;
  met = λ t. met_in t.work.change t.work.build;
  holds = λ lane t. AreHeld lane t.work;
  made = λ t name. ⊥;
}

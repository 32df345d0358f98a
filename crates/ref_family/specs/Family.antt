-- What the commands on refs say, and what their tasks are to them.
use Rattle.std.specs.Prelude.{◌≡◌, ℕ, List, Option, Some, None, IsSome}
use Rattle.ost_types.specs.declared.object.ObjName.{ObjName}
use Rattle.fs_trait.specs.View.{View}
use Rattle.ref_store.specs.Change.{Change, progress_in}
use Rattle.rely_guarantee.specs.declared.event.Event.{Event}
use Rattle.rely_guarantee.specs.declared.event.Event.TheVariants as event
use Rattle.rely_guarantee.specs.Lasting.{StaysFinished}
use Rattle.rely_guarantee.specs.State.{State, RefOf}
use Rattle.ref_command.specs.declared.answer.RefAnswer.{RefAnswer}
use Rattle.ref_command.specs.declared.answer.RefAnswer.TheVariants as answer
use Rattle.ref_command.specs.declared.command.RefCommand.{RefCommand}
use Rattle.ref_command.specs.declared.command.RefCommand.TheVariants as task
use Rattle.ref_command.specs.declared.look_up.Found.TheVariants.{Missing, Partial, Whole}
use Rattle.ref_command.specs.Answers.{Begins}
use Rattle.ref_command.specs.Commands.{answer_of, command_left}
use Rattle.ref_command.specs.Facts.{IsRunning}
use Rattle.ref_command.specs.Found.{IsFound, commit_name}
use Rattle.command.specs.Doing.{Doing}
use Rattle.command.specs.LearnLaws.{learns_nothing}
use Rattle.command.specs.Meaning.{Meaning}
use Rattle.command.specs.Revisions.{IsNoRev, IsRev}
use Rattle.ref_family.specs.declared.task.RefsTask.{RefsTask}
use Rattle.ref_family.specs.declared.words.RefWords.{RefWords}
use Rattle.ref_family.specs.declared.words.RefWords.TheVariants.{RevParse, Reset, DropRef}
use Rattle.ref_family.specs.Knows.{ref_knows}

abbrev pub ref_changes : State → RefWords → Event → Type 0
ref_changes s (RevParse rev) e = ⊥
ref_changes s (Reset branch commit) e = e ≡ event.SetRef branch (s (RefOf branch)) commit
ref_changes s (DropRef branch) e = (seen : List ℕ) × (s (RefOf branch) ≡ Some seen) × (e ≡ event.DropRef branch seen)

abbrev pub ref_makes : RefAnswer → RefWords → Type 0
ref_makes answer.Changed (Reset branch commit) = Unit {0}
ref_makes answer.Changed (DropRef branch) = Unit {0}
ref_makes a c = ⊥

-- the commit that was looked up is the one that was named; no other answers come
abbrev pub ref_says : State → RefAnswer → RefWords → Type 0
ref_says s (answer.Commit commit) (RevParse rev) = IsRev rev s commit
ref_says s (answer.NoCommit commit) (RevParse rev) = IsRev rev s commit
ref_says s (answer.Partial commit) (RevParse rev) = IsRev rev s commit
ref_says s answer.NoRef (RevParse rev) = IsNoRev rev s
ref_says s (answer.NoCommit named) (Reset branch commit) = named ≡ commit
ref_says s (answer.Partial named) (Reset branch commit) = named ≡ commit
ref_says s answer.Changed (Reset branch commit) = Unit {0}
ref_says s (answer.RefMoved seen now) (Reset branch commit) = Unit {0}
ref_says s (answer.RefClash other) (Reset branch commit) = Unit {0}
ref_says s answer.NoRef (Reset branch commit) = Unit {0}
ref_says s answer.Changed (DropRef branch) = Unit {0}
ref_says s (answer.RefMoved seen now) (DropRef branch) = Unit {0}
ref_says s (answer.RefClash other) (DropRef branch) = Unit {0}
ref_says s answer.NoRef (DropRef branch) = Unit {0}
ref_says s a c = ⊥

-- the commit that the ref was to be set to is there without a mark, and no crash takes it away or leaves a mark of it
abbrev pub commit_lasts : View → RefWords → Type 0
commit_lasts v (Reset branch commit) = StaysFinished v commit
commit_lasts v c = Unit {0}

-- What was found of the commit. A reset found it before it came to change the ref.
abbrev pub ref_shows : View → RefAnswer → RefWords → Type 0
ref_shows v (answer.Commit commit) c = IsFound v.now commit Whole
ref_shows v (answer.NoCommit commit) c = IsFound v.now commit Missing
ref_shows v (answer.Partial commit) c = IsFound v.now commit Partial
ref_shows v answer.Changed c = commit_lasts v c
ref_shows v (answer.RefMoved seen now) c = commit_lasts v c
ref_shows v (answer.RefClash other) c = commit_lasts v c
ref_shows v answer.NoRef c = Unit {0}

-- what is pinned: the commit that is looked up
abbrev pub ref_works : State → RefWords → ObjName → Type 0
ref_works s (RevParse rev) name = (commit : List ℕ) × IsRev rev s commit × (name ≡ commit_name commit)
ref_works s (Reset branch commit) name = name ≡ commit_name commit
ref_works s (DropRef branch) name = ⊥

abbrev pub ref_lacks : RefAnswer → List ℕ → Type 0
ref_lacks (answer.NoCommit sum) commit = sum ≡ commit
ref_lacks (answer.Partial sum) commit = sum ≡ commit
ref_lacks a commit = ⊥

abbrev pub ref_means : Meaning RefWords RefAnswer
ref_means = record {
  fit = λ limits c. Unit {0};
  changes = λ since. ref_changes since.start.refs;
  makes = ref_makes;
  tells = λ a e. Unit {0};
  says = λ since. ref_says since.start.refs;
  knows = ref_knows;
  shows = λ since. ref_shows;
  remains = λ since v a c. Unit {0};
  stays = λ since out a c v b. Unit {0};
  keeps = λ since opening out c v. Unit {0};
  keeps_on = λ since opening out c disk. Unit {0};
  works = λ since. ref_works since.start.refs;
  reaches = λ since c name. Unit {0};
  finds = λ a c name. ⊥;
  claims = λ c name. ⊥;
  checks_out = λ a c name. ⊥;
  brings = λ since c name bytes. ⊥;
  lacks = ref_lacks;
  outside = λ a. ⊥;
  full = λ a. ⊥;
}

-- a change of this ref from one value to another, which hasn't ended
abbrev pub IsChanging : List ℕ → Option (List ℕ) → Option (List ℕ) → Change → Type 0
IsChanging name seen value t = (t.name ≡ name) × (t.seen ≡ seen) × (t.value ≡ value) × IsRunning (progress_in t.phase)

abbrev pub ref_pursues : State → RefWords → RefCommand → Type 0
ref_pursues s (RevParse rev) (task.Parse look) = IsRev rev s look.commit
ref_pursues s (Reset branch commit) (task.Reset look plan) = (look.commit ≡ commit) × (plan.name ≡ branch) × (plan.seen ≡ s (RefOf branch)) × (plan.commit ≡ commit)
ref_pursues s (Reset branch commit) (task.Change work) = IsChanging branch (s (RefOf branch)) (Some commit) work.task
ref_pursues s (DropRef branch) (task.Change work) = IsChanging branch (s (RefOf branch)) None work.task × IsSome (s (RefOf branch))
ref_pursues s c t = ⊥

abbrev pub ref_doing : Doing RefsTask RefWords RefAnswer
ref_doing = record {
  begins = λ lane t. Begins lane t.work;
  pursues = λ since c t. ref_pursues since.start.refs c t.work;
  answer = λ t. answer_of t.work;
  left = λ t. command_left t.work;
  hears = λ told t. t;
  heard = λ t. record { objects = 0 };
  learns = learns_nothing;
  asks = λ actor t. None;
  met = λ t. None;
  holds = λ lane t v b. Unit {0};
  made = λ t name. ⊥;
}

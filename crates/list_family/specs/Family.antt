-- What the commands that list what the state says tell. They run no task.
use Rattle.std.specs.Prelude.{◌≡◌, ℕ, List, map, None}
use Rattle.boot_model.specs.declared.item.DepId.{DepId}
use Rattle.fs_trait.specs.declared.task.StepResult.{StepResult}
use Rattle.fs_trait.specs.declared.task.StepResult.TheVariants as turns
use Rattle.fs_trait.specs.Change.{Nothing}
use Rattle.fs_trait.specs.View.{View}
use Rattle.rely_guarantee.specs.Books.{Books}
use Rattle.rely_guarantee.specs.Laws.{Kind, Laws, Quiet}
use Rattle.rely_guarantee.specs.State.{SystemState}
use Rattle.ref_book.specs.Tracks.{Lists}
use Rattle.script.specs.declared.rows.StatusRow.{StatusRow}
use Rattle.command.specs.Doing.{Doing}
use Rattle.command.specs.LearnLaws.{learns_nothing}
use Rattle.command.specs.Meaning.{Meaning}
use Rattle.list_family.specs.declared.answer.ListAnswer.{ListAnswer}
use Rattle.list_family.specs.declared.answer.ListAnswer.TheVariants as answer
use Rattle.list_family.specs.declared.task.ListTask.{ListTask}
use Rattle.list_family.specs.declared.words.ListWords.{ListWords}
use Rattle.list_family.specs.declared.words.ListWords.TheVariants as words

abbrev pub list_kind : ListTask → Kind
list_kind t = Quiet

-- its one step is the last
abbrev pub list_stepped : ListTask → StepResult (Unit {0}) → ListTask → Type 0
list_stepped t turn new = turn ≡ turns.Done tt

abbrev pub list_leaves : ListTask → StepResult (Unit {0}) → ListTask → View → View → Type 0
list_leaves t turn new v w = turn ≡ turns.Done tt

more_never : {P : Type 0} → ◌≡◌ {A = StepResult (Unit {0})} turns.More (turns.Done tt) → P
more_never is = cc

pub list_task_laws : Laws list_kind (λ (actor : ℕ) (t : ListTask) (v : View). Unit {0}) (λ (actor : ℕ) (t : ListTask) (v : View). Nothing) list_stepped list_leaves (λ (lane : ℕ) (t : ListTask) (v : View) (b : Books). Unit {0})
list_task_laws = record {
  ready = λ actor lane t v b by f. tt;
  kept = λ actor lane mine t v w b b' other not does holds f. tt;
  gains = λ lane t v b b' keeps same f. tt;
  duty = λ actor lane t new v b agrees by stood f. ((λ p s wrote. absurd wrote), (λ q s wrote. absurd wrote));
  chain = λ t new step. more_never step;
  last = λ t new step. tt;
  next = λ actor lane t new v w b b' stood f leaves keeps own. tt;
  claims = λ lane t new v w b name is step f leaves. cc;
}

-- a row for each deployment, in their order; there is no command yet by which a lane uses one
abbrev pub unused : List DepId → List StatusRow
unused deployments = map (λ id. record { id = id; lane = None }) deployments

-- each ref of the state once, with its commit, ascending by their names; or the deployments that boot
abbrev pub list_says : SystemState → ListAnswer → ListWords → Type 0
list_says p (answer.Refs rows) words.Refs = Lists rows.items p.refs
list_says p (answer.Status rows) words.Status = rows.items ≡ unused p.deployments
list_says p a c = ⊥

abbrev pub list_means : Meaning ListWords ListAnswer
list_means = record {
  fit = λ limits c. Unit {0};
  changes = λ since c e. ⊥;
  makes = λ a c. ⊥;
  tells = λ a e. Unit {0};
  says = λ since. list_says since.place;
  knows = λ since a c. Unit {0};
  shows = λ since v a c. Unit {0};
  remains = λ since v a c. Unit {0};
  stays = λ since out a c v b. Unit {0};
  keeps = λ since opening out c v. Unit {0};
  keeps_on = λ since opening out c disk. Unit {0};
  works = λ since c name. ⊥;
  reaches = λ since c name. ⊥;
  finds = λ a c name. ⊥;
  claims = λ c name. ⊥;
  checks_out = λ a c name. ⊥;
  brings = λ since c name bytes. ⊥;
  lacks = λ a commit. ⊥;
  outside = λ a. ⊥;
  full = λ a. ⊥;
}

-- no command of the family runs
abbrev pub list_doing : Doing ListTask ListWords ListAnswer
list_doing = record {
  begins = λ lane t. ⊥;
  pursues = λ since c t. ⊥;
  answer = λ t. None;
  left = λ t. 0;
  hears = λ told t. t;
  heard = λ t. record { objects = 0 };
  learns = learns_nothing;
  asks = λ actor t. None;
  met = λ t. None;
  holds = λ lane t v b. Unit {0};
  made = λ t name. ⊥;
}

-- The laws of the family.
use Rattle.std.proofs.Common.{◌≡◌, ℕ, Bool, true, false, arith, refl, sym, ◌∙◌, ap, subst, Some}
use Rattle.std.specs.Prelude.{◌==◌}
use Rattle.fs_trait.specs.declared.task.StepResult.TheVariants as turn
use Rattle.ost_types.specs.declared.object.ObjName.{ObjName}
use Rattle.fs_trait.specs.declared.types.FsErr.{FsErr}
use Rattle.fs_trait.specs.Change.{Nothing}
use Rattle.fs_trait.specs.Seen.{NotDirectory}
use Rattle.fs_trait.specs.View.{View}
use Rattle.fs_trait.proofs.Facts.{shows_kept}
use Rattle.repo_layout.specs.Paths.{stage_path}
use Rattle.durable_store.proofs.Silent.{silent_keeps}
use Rattle.rely_guarantee.specs.declared.event.Event.{Event}
use Rattle.rely_guarantee.specs.declared.kind.Wants.{Wants}
use Rattle.rely_guarantee.specs.Books.{Books}
use Rattle.rely_guarantee.specs.Laws.{Holds, IsClaim, IsMakeDurable, NotPending, Publish, Take}
use Rattle.command.specs.AnswerLaws.{AnswerLaws}
use Rattle.command.specs.BootLaws.{BootLaws, ChangesNoList, no_boots}
use Rattle.command.specs.ChangeLaws.{ChangeLaws}
use Rattle.command.specs.FolderLaws.{FolderLaws}
use Rattle.command.specs.HearLaws.{HearLaws}
use Rattle.command.specs.Laws.{CommandLaws}
use Rattle.command.specs.LearnLaws.{LearnLaws, no_learning}
use Rattle.command.specs.RemoveLaws.{RemoveLaws, no_removals}
use Rattle.command.specs.Removing.{IsRemoving}
use Rattle.command.specs.StepLaws.{StepLaws}
use Rattle.command.specs.LockLaws.{AsksInOrder, asks_in_order, in_order}
use Rattle.command.specs.StoreLaws.{StoreLaws}
use Rattle.command.specs.Tasks.{TaskSpec, task_spec}
use Rattle.lane_system_check.specs.declared.task.WaitTask.{WaitTask}
use Rattle.lane_system_check.specs.declared.words.WaitWords.{WaitWords}
use Rattle.lane_system_check.specs.declared.words.WaitWords.TheVariants.{Echo, Wait}
use Rattle.lane_system_check.specs.Family.{number_of, wait_doing, wait_means, wait_pursues}
use Rattle.lane_system_check.specs.Waiting.{kind_at, lock_wants, no_claim, wait_kind, wait_leaves, wait_stepped}

abbrev pub wait_tasks : TaskSpec WaitTask
wait_tasks = task_spec wait_kind (λ (actor : ℕ) (t : WaitTask) (v : View). Nothing) wait_stepped wait_leaves (λ (t : WaitTask) (v : View) (e : FsErr). ⊥) (λ (lane : ℕ) (t : WaitTask) (v : View) (b : Books). Unit {0})

quiet : (holds begins : Bool) (lane : ℕ) (b : Books) → NotPending lane b → Holds (kind_at holds begins) lane b
quiet true true lane b none = none
quiet true false lane b none = none
quiet false begins lane b none = none

light : (holds begins : Bool) (wants : Wants) → kind_at holds begins ≡ Take wants → AsksInOrder wants
light true true wants is = let same : lock_wants ≡ wants = cc in subst AsksInOrder same (asks_in_order lock_wants (refl, refl, refl))
light true false wants is = cc
light false begins wants is = cc

no_pin : {P : Type 0} (holds begins : Bool) (wants : Wants) (name : ObjName) → kind_at holds begins ≡ Take wants → wants.pin ≡ Some name → P
no_pin true true wants name is pin = let same : lock_wants ≡ wants = cc in (let at = ap (λ (x : Wants). x.pin) same ∙ pin in cc)
no_pin true false wants name is pin = cc
no_pin false begins wants name is pin = cc

no_publish : {P : Type 0} (holds begins : Bool) (e : Event) → kind_at holds begins ≡ Publish e → P
no_publish true true e is = cc
no_publish true false e is = cc
no_publish false begins e is = cc

no_make_durable : {P : Type 0} (holds begins : Bool) → IsMakeDurable (kind_at holds begins) → P
no_make_durable true true is = absurd is
no_make_durable true false is = absurd is
no_make_durable false begins is = absurd is

no_removal : (holds begins : Bool) → IsRemoving (kind_at holds begins) → ⊥
no_removal true true removes = removes
no_removal true false removes = removes
no_removal false begins removes = removes

goes_on : (c : WaitWords) (t new : WaitTask) → wait_pursues c t → wait_stepped t turn.More new → wait_pursues c new
goes_on (Echo number) t new is step = is
goes_on (Wait number holds) t new is step = subst (wait_pursues (Wait number holds)) (sym step.1) (is.0, omega (arith, step.0, is.0))

ends : (c : WaitWords) (t new : WaitTask) (a : ℕ) → wait_pursues c t → wait_stepped t (turn.Done tt) new → Some new.taken ≡ Some a → a ≡ number_of c
ends (Echo number) t new a is step given = absurd is
ends (Wait number holds) t new a is step given =
    let same : new.taken ≡ a = cc in
    sym same ∙ ap (λ (x : WaitTask). x.taken) step.1 ∙ omega (arith, step.0, is.0, is.1)

step_laws : StepLaws wait_tasks wait_doing
step_laws = record {
  begun = λ start entries pending lane t v b stands home begins. tt;
  quiet = λ lane t b begins none. quiet t.holds (t.taken == 0) lane b none;
  stages = λ who actor lane t v w b is by f wrote home. subst NotDirectory (sym (shows_kept _ v w (stage_path who) wrote (λ s bad. bad))) home;
  goes_on = λ since c t new is step. goes_on c t new is step;
  falls = λ t new step. omega (arith, step.0, ap (λ (x : WaitTask). x.taken) step.1, ap (λ (x : WaitTask). x.number) step.1);
  refused = λ start entries pending lane t v b e tree stands f why. absurd why;
}

hear_laws : HearLaws wait_tasks wait_doing
hear_laws = record {
  facts = λ told lane t v b f. f;
  holds = λ told lane t b holds. holds;
  pursues = λ told since c t is. is;
  left = λ told t. omega arith;
  made = λ told t name made. made;
  unmade = λ told t name made. made;
  back = λ told t. refl;
}

learn_laws : LearnLaws wait_tasks wait_doing
learn_laws = no_learning wait_tasks wait_doing (λ refs ids pins t new is. is)

change_laws : ChangeLaws wait_tasks wait_means wait_doing
change_laws = record {
  shown = λ since c t e is kind. no_publish t.holds (t.taken == 0) e kind;
  settled = λ since c t e is kind. no_make_durable t.holds (t.taken == 0) (subst IsMakeDurable (sym kind) tt);
  founds = λ lane t v b e f kind. no_publish t.holds (t.taken == 0) e kind;
  makes = λ since c t new a is step given settles. no_make_durable t.holds (t.taken == 0) settles;
  makes_not = λ since c t new a is step given settles made. made;
  tells = λ since c t new a e is step given kind. tt;
  kept = λ since opening lane c t new v w b right is f leaves settles. tt;
  keeps = λ since opening out removed c v w right stays is. tt;
  keeps_on = λ since opening out removed c v disk stays is. tt;
  keeps_wider = λ since opening out more c v among is. tt;
  keeps_on_wider = λ since opening out more c disk among is. tt;
}

answer_laws : AnswerLaws wait_tasks wait_means wait_doing
answer_laws = record {
  answers = λ since c t new is step. refl;
  says = λ since p c t new a is step given. ends c t new a is step given;
  shows = λ since p lane c t new v w b a listed is f leaves given sound. tt;
  remains = λ since p lane c t new v w b a listed is f leaves given. tt;
  remains_at_once = λ since c a v is. tt;
  knows = λ since p lane c t new v w b a is f leaves given sees. tt;
  lacks_alone = λ since lane c t new v w b a commit is f leaves given lacks sum. absurd lacks;
  lacks = λ since v a c commit files seen lacks finished. lacks;
  outside = λ since v a c good shows outside. outside;
  full = λ told since c t new a is step given full. absurd full;
  left = λ since actor lane c t new v w b b' a is f leaves given does gone sound. tt;
  stays = λ since actor lane out removed a c v w b b' does only is. tt;
  stays_wider = λ since out more a c v b among is. tt;
}

store_laws : StoreLaws wait_tasks wait_means wait_doing
store_laws = record {
  holds = λ lane t v b f. tt;
  works = λ since c t wants name is kind pin. no_pin t.holds (t.taken == 0) wants name kind pin;
  reaches = λ since lane c t v b wants name is f kind pin. tt;
  brings = λ since actor lane c t v b name s bytes is f sum wrote reads. wrote;
  room = λ told since actor lane c t v b name s is f sum wrote stands. absurd wrote;
  stored = λ actor lane t new v w b name s f leaves sum wrote stands. absurd wrote;
  done = λ actor lane t new v w b name s f leaves sum wrote stands. absurd wrote;
  lacked = λ told since c t new v w name is leaves met. cc;
  there = λ lane t v b name f met. cc;
  keeps = λ since actor lane c t v b is f still. silent_keeps since.limits (wait_means.brings since c) v Nothing (λ p s wrote. wrote);
}

remove_laws : RemoveLaws wait_tasks
remove_laws = no_removals wait_tasks (λ t. no_removal t.holds (t.taken == 0))

wait_lists : ChangesNoList wait_means
wait_lists = λ since c e none. absurd none

boot_laws : BootLaws wait_tasks wait_doing
boot_laws = no_boots wait_tasks wait_means wait_doing change_laws wait_lists (λ actor lane t v b p s by f wrote. absurd wrote)

folder_laws : FolderLaws wait_tasks wait_means wait_doing
folder_laws = record {
  claims = λ actor lane t v b name s f wrote. absurd wrote;
  claimed = λ since c t name is kind. no_claim t.holds (t.taken == 0) (subst IsClaim (sym kind) tt);
  finds = λ since lane c t new v w b a name is f leaves given finds. absurd finds;
  made = λ t new v w name leaves kind. no_claim t.holds (t.taken == 0) (subst IsClaim (sym kind) tt);
  goes_on = λ t new v w name leaves made. made;
  begun = λ lane t name begins made. made;
  by_claim = λ t new v w name leaves made. absurd made;
  ends = λ since lane c t new v w b a name is f leaves given made. made;
  late = λ since c a name is made. made;
}

pub wait_command_laws : CommandLaws wait_tasks wait_means wait_doing
wait_command_laws = record {
  steps = step_laws;
  locks = in_order wait_tasks wait_doing (λ t wants is. light t.holds (t.taken == 0) wants is);
  hears = hear_laws;
  learns = learn_laws;
  changes = change_laws;
  answers = answer_laws;
  store = store_laws;
  removes = remove_laws;
  boots = boot_laws;
  folders = folder_laws;
}

-- The laws of the commands on refs.
use Rattle.std.proofs.Common.{◌≡◌, ⊎_elim, ℕ, refl, sym, ◌∙◌, subst, Option, Some, IsSome, arith}
use Rattle.fs_trait.specs.View.{View}
use Rattle.rely_guarantee.specs.Books.{Books}
use Rattle.rely_guarantee.specs.Laws.{IsClaim}
use Rattle.rely_guarantee.specs.State.{State}
use Rattle.ref_command.specs.declared.answer.RefAnswer.{RefAnswer}
use Rattle.ref_command.specs.declared.answer.RefAnswer.TheVariants as answer
use Rattle.ref_command.specs.declared.command.RefCommand.{RefCommand}
use Rattle.ref_command.specs.declared.command.RefCommand.TheVariants as task
use Rattle.ref_command.specs.declared.work.RefWork.{RefWork}
use Rattle.ref_command.specs.Answers.{Says}
use Rattle.ref_command.specs.Commands.{answer_of, command_facts, command_kind, command_leaves, command_refuses, command_stepped, command_writes}
use Rattle.ref_command.specs.CommandLaws.{no_command_claim}
use Rattle.ref_command.specs.Founded.{IsFounded}
use Rattle.ref_command.proofs.Ends.{begins_of, falls_always, says_of}
use Rattle.ref_command.proofs.Homes.{home_task}
use Rattle.ref_command.proofs.Refusals.{refused_of}
use Rattle.command.specs.AnswerLaws.{AnswerLaws}
use Rattle.command.specs.BootLaws.{BootLaws, ChangesNoList, no_boots}
use Rattle.command.specs.ChangeLaws.{ChangeLaws}
use Rattle.command.specs.FolderLaws.{FolderLaws}
use Rattle.command.specs.HearLaws.{HearLaws}
use Rattle.command.specs.Laws.{CommandLaws}
use Rattle.command.specs.LearnLaws.{LearnLaws, no_learning}
use Rattle.command.specs.RemoveLaws.{RemoveLaws, no_removals}
use Rattle.command.specs.Staging.{StagingPathFree}
use Rattle.command.specs.StepLaws.{StepLaws}
use Rattle.command.specs.LockLaws.{in_order}
use Rattle.command.specs.StoreLaws.{StoreLaws}
use Rattle.command.specs.Tasks.{TaskSpec, task_spec}
use Rattle.ref_family.specs.declared.task.RefsTask.{RefsTask}
use Rattle.ref_family.specs.declared.words.RefWords.{RefWords}
use Rattle.ref_family.specs.declared.words.RefWords.TheVariants as words
use Rattle.ref_family.specs.Ends.{ref_ends}
use Rattle.ref_family.specs.Family.{commit_lasts, ref_doing, ref_makes, ref_means, ref_pursues, ref_says, ref_shows}
use Rattle.ref_family.specs.Keeping.{refs_keep}
use Rattle.ref_family.specs.Objects.{lacks_none, no_boot, no_checkout, no_object, pins_work, refs_light}
use Rattle.ref_family.specs.Removing.{refs_alone, refs_stay}
use Rattle.ref_family.specs.Steps.{ref_unlisted, change_is, own_step, ref_founds, ref_holds, ref_settled, ref_shown, ref_step}
use Rattle.ref_family.specs.Telling.{ref_tells}

abbrev pub ref_tasks : TaskSpec RefsTask
ref_tasks = task_spec (λ t. command_kind t.work) (λ actor t. command_writes actor t.work) (λ t u new. command_stepped t.work u new.work) (λ t u new. command_leaves t.work u new.work) (λ t. command_refuses t.work) (λ lane t. command_facts lane t.work)

one : (o : Option RefAnswer) (x a : RefAnswer) → o ≡ Some x → o ≡ Some a → x ≡ a
one o x a is given = let e : Some x ≡ Some a = sym is ∙ given in cc

-- a task that changes the ref knows that the commit lasts
lasting : (s : State) (lane : ℕ) (c : RefWords) (work : RefWork) (v : View) (b : Books) → ref_pursues s c (task.Change work) → command_facts lane (task.Change work) v b → commit_lasts v c
lasting s lane (words.Reset branch commit) work v b is f = subst (λ o. IsFounded o v) is.2 f.founded
lasting s lane (words.RevParse rev) work v b is f = tt
lasting s lane (words.DropRef branch) work v b is f = tt

-- what it tells of the disk
module _ (s : State) (lane : ℕ) (c : RefWords) (v w : View) (b : Books) where
  tells : (a : RefAnswer) (t : RefCommand) → ref_pursues s c t → command_facts lane t v b → Says a t v w → ref_shows v a c
  tells (answer.Commit commit) t is f says = says
  tells (answer.NoCommit commit) t is f says = says
  tells (answer.Partial commit) t is f says = says
  tells (answer.RefMoved seen there) (task.Change work) is f says = lasting s lane c work v b is f
  tells (answer.RefMoved seen there) (task.Parse look) is f says = absurd says.1
  tells (answer.RefMoved seen there) (task.Reset look plan) is f says = absurd says.1
  tells (answer.RefClash other) (task.Change work) is f says = lasting s lane c work v b is f
  tells (answer.RefClash other) (task.Parse look) is f says = absurd says.2
  tells (answer.RefClash other) (task.Reset look plan) is f says = absurd says.2
  tells answer.Changed (task.Change work) is f says = lasting s lane c work v b is f
  tells answer.Changed (task.Parse look) is f says = absurd says
  tells answer.Changed (task.Reset look plan) is f says = absurd says
  tells answer.NoRef t is f says = tt

step_laws : StepLaws ref_tasks ref_doing
step_laws = record {
  begun = λ start entries pending lane t v b. begins_of start entries pending lane v b t.work;
  quiet = λ lane t. ref_holds lane t.work;
  stages = λ who actor lane t v w b is by f wrote home. (let same : who ≡ lane = ⊎_elim (λ x. x ∙ own_step actor lane t.work by) (λ x. x) is in subst (λ k. StagingPathFree k w) (sym same) (home_task actor lane t.work v w b f wrote (subst (λ k. StagingPathFree k v) same home)));
  goes_on = λ since c t new is step. ref_step since.start.refs c t.work new.work step is;
  falls = λ t new. falls_always t.work new.work;
  refused = λ start entries pending lane t v b e. refused_of start entries pending lane v b t.work e;
}

hear_laws : HearLaws ref_tasks ref_doing
hear_laws = record {
  facts = λ told lane t v b f. f;
  holds = λ told lane t b holds. holds;
  pursues = λ told since c t is. is;
  left = λ told t. omega arith;
  made = λ told t name made. made;
  unmade = λ told t name made. made;
  back = λ told t. refl;
}

learn_laws : LearnLaws ref_tasks ref_doing
learn_laws = no_learning ref_tasks ref_doing (λ refs ids pins t new is. is)

change_laws : ChangeLaws ref_tasks ref_means ref_doing
change_laws = record {
  shown = λ since c t. ref_shown since.start.refs c t.work;
  settled = λ since c t. ref_settled since.start.refs c t.work;
  founds = λ lane t. ref_founds lane t.work;
  makes = λ since c t new a is step given k. (let e = ref_ends since.start.refs c t.work new.work is step in subst (λ x. ref_makes x c) (one (answer_of new.work) e.given a e.answer given) (e.makes k));
  makes_not = λ since c t new a is step given k m. (let e = ref_ends since.start.refs c t.work new.work is step in e.makes_not k (subst (λ x. ref_makes x c) (sym (one (answer_of new.work) e.given a e.answer given)) m));
  tells = λ since c t new a e is step given kind. tt;
  kept = λ since opening lane c t new v w b right is f leaves k. tt;
  keeps = λ since opening out removed c v w right stays is. tt;
  keeps_on = λ since opening out removed c v disk stays is. tt;
  keeps_wider = λ since opening out more c v among is. tt;
  keeps_on_wider = λ since opening out more c disk among is. tt;
}

answer_laws : AnswerLaws ref_tasks ref_means ref_doing
answer_laws = record {
  answers = λ since c t new is step. subst IsSome (sym (ref_ends since.start.refs c t.work new.work is step).answer) refl;
  says = λ since p c t new a is step given. (let e = ref_ends since.start.refs c t.work new.work is step in subst (λ x. ref_says since.start.refs x c) (one (answer_of new.work) e.given a e.answer given) e.says);
  shows = λ since p lane c t new v w b a listed is f leaves given sound. tells since.start.refs lane c v w b a t.work is f (says_of lane t.work new.work v w b a f leaves given);
  remains = λ since p lane c t new v w b a listed is f leaves given. tt;
  remains_at_once = λ since c a v is. tt;
  knows = λ since p lane c t new v w b a. ref_tells (λ s branch commit work is. change_is s (words.Reset branch commit) work is) lane since p c t.work new.work v w b a;
  lacks_alone = λ since lane c t new v w b a commit is f leaves given lacks sum. refs_alone t.work new.work v w a commit leaves given lacks;
  lacks = λ since. lacks_none;
  outside = λ since v a c good shown outside. outside;
  full = λ told since c t new a is step given full. absurd full;
  left = λ since actor lane c t new v w b b' a is f leaves given does gone sound. tt;
  stays = λ since actor lane out removed a c v w b b' does only is. tt;
  stays_wider = λ since out more a c v b among is. tt;
}

store_laws : StoreLaws ref_tasks ref_means ref_doing
store_laws = record {
  holds = λ lane t v b f. tt;
  works = λ since c t wants name. pins_work since.start.refs c t.work wants name;
  reaches = λ since lane c t v b wants name is f kind pin. tt;
  brings = λ since actor lane c t v b name s bytes is f sum wrote reads. no_object actor lane t.work v b name s f sum wrote;
  room = λ told since actor lane c t v b name s is f sum wrote stands. no_object actor lane t.work v b name s f sum wrote;
  stored = λ actor lane t new v w b name s f leaves sum wrote stands. no_object actor lane t.work v b name s f sum wrote;
  done = λ actor lane t new v w b name s f leaves sum wrote stands. no_object actor lane t.work v b name s f sum wrote;
  lacked = λ told since c t new v w name is leaves met. cc;
  there = λ lane t v b name f met. cc;
  keeps = λ since actor lane c t v b is f still. refs_keep since.limits (ref_means.brings since c) actor lane t.work v b f;
}

remove_laws : RemoveLaws ref_tasks
remove_laws = no_removals ref_tasks (λ t. refs_stay t.work)

pub ref_lists : ChangesNoList ref_means
ref_lists = λ since. ref_unlisted since.start.refs

boot_laws : BootLaws ref_tasks ref_doing
boot_laws = no_boots ref_tasks ref_means ref_doing change_laws ref_lists (λ actor lane t v b p s by f wrote. no_boot actor lane t.work v b p s f wrote)

folder_laws : FolderLaws ref_tasks ref_means ref_doing
folder_laws = record {
  claims = λ actor lane t v b name s f wrote. no_checkout actor lane t.work v b name s f wrote;
  claimed = λ since c t name is kind. absurd (no_command_claim t.work (subst IsClaim (sym kind) tt));
  finds = λ since lane c t new v w b a name is f leaves given finds. absurd finds;
  made = λ t new v w name leaves kind. absurd (no_command_claim t.work (subst IsClaim (sym kind) tt));
  goes_on = λ t new v w name leaves made. made;
  begun = λ lane t name begins made. made;
  by_claim = λ t new v w name leaves made. absurd made;
  ends = λ since lane c t new v w b a name is f leaves given made. made;
  late = λ since c a name is made. made;
}

pub ref_command_laws : CommandLaws ref_tasks ref_means ref_doing
ref_command_laws = record {
  steps = step_laws;
  locks = in_order ref_tasks ref_doing (λ t. refs_light t.work);
  hears = hear_laws;
  learns = learn_laws;
  changes = change_laws;
  answers = answer_laws;
  store = store_laws;
  removes = remove_laws;
  boots = boot_laws;
  folders = folder_laws;
}

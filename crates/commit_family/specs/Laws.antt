-- The laws of a commit.
use Rattle.std.proofs.Common.{◌≡◌, ⊎_elim, ap, refl, sym, ◌∙◌, subst, Option, Some, IsSome, arith}
use Rattle.obj_store.specs.declared.phase.Put.TheVariants.{Stored}
use Rattle.rely_guarantee.specs.Laws.{IsClaim}
use Rattle.commit_command.specs.declared.answer.CommitAnswer.{CommitAnswer}
use Rattle.commit_command.specs.Answers.{answer_of}
use Rattle.commit_command.specs.Facts.{commit_facts}
use Rattle.commit_command.specs.Kinds.{commit_kind, commit_leaves, commit_refuses, commit_writes}
use Rattle.commit_command.specs.Laws.{no_commit_claim}
use Rattle.commit_command.proofs.Ends.{counted, falls_of, same_kind, same_left, says_of}
use Rattle.commit_command.proofs.Holding.{held_of}
use Rattle.commit_command.proofs.Refusals.{refused_of}
use Rattle.commit_command.proofs.Starts.{begins_of, own_of}
use Rattle.commit_command.proofs.Stored.{commit_done, commit_stored}
use Rattle.rely_guarantee.specs.Laws as kinds
use Rattle.command.specs.AnswerLaws.{AnswerLaws}
use Rattle.command.specs.BootLaws.{BootLaws, ChangesNoList, no_boots}
use Rattle.command.specs.ChangeLaws.{ChangeLaws}
use Rattle.command.specs.FolderLaws.{FolderLaws}
use Rattle.command.specs.HearLaws.{HearLaws}
use Rattle.command.specs.Laws.{CommandLaws}
use Rattle.command.specs.LearnLaws.{LearnLaws, no_learning}
use Rattle.command.specs.RemoveLaws.{RemoveLaws, no_removals}
use Rattle.command.specs.Staging.{StagingPathFree}
use Rattle.command.specs.StepLaws.{StepLaws}
use Rattle.command.specs.LockLaws.{in_order}
use Rattle.command.specs.StoreLaws.{StoreLaws}
use Rattle.command.specs.Tasks.{TaskSpec, task_spec}
use Rattle.commit_family.specs.declared.task.CommitsTask.{CommitsTask}
use Rattle.commit_family.specs.Commits.{message_in}
use Rattle.commit_family.specs.DiskAnswers.{tells}
use Rattle.commit_family.specs.Ends.{commits_end}
use Rattle.rely_guarantee.specs.State.{list_in}
use Rattle.commit_family.specs.Family.{commit_brings, commit_doing, commit_full, commit_makes, commit_means, commit_says}
use Rattle.commit_family.specs.Kept.{commits_keep, commits_keep_on, commits_kept, commits_on_wider, commits_wider, lasts_whole}
use Rattle.commit_family.specs.Keeping.{commits_keep_store}
use Rattle.commit_family.specs.Objects.{commits_bring, commits_lacked, commits_light, commits_pin, commits_room, its_object, no_boot, no_checkout, no_removal}
use Rattle.commit_family.specs.RefAnswers.{commits_know}
use Rattle.commit_family.specs.Steps.{begins_holds, commits_founds, commits_settled, commits_shown, commits_step, commits_told, own_step}
use Rattle.commit_family.specs.Stored.{commit_there}
use Rattle.commit_family.specs.Task.{commits_stepped}

abbrev pub commit_tasks : TaskSpec CommitsTask
commit_tasks = task_spec (λ t. commit_kind t.work) (λ actor t. commit_writes actor t.work) commits_stepped (λ t u new. commit_leaves t.work u new.work) (λ t. commit_refuses t.work) (λ lane t. commit_facts lane t.work)

one : (o : Option CommitAnswer) (x a : CommitAnswer) → o ≡ Some x → o ≡ Some a → x ≡ a
one o x a is given = let e : Some x ≡ Some a = sym is ∙ given in cc

step_laws : StepLaws commit_tasks commit_doing
step_laws = record {
  begun = λ start entries pending lane t v b. begins_of start entries pending lane v b t.work;
  quiet = λ lane t. begins_holds lane t.work;
  stages = λ who actor lane t v w b is by f wrote home. (let same : who ≡ lane = ⊎_elim (λ x. x ∙ own_step actor lane t.work by) (λ x. x) is in subst (λ k. StagingPathFree k w) (sym same) (own_of actor lane t.work v w b f wrote (subst (λ k. StagingPathFree k v) same home)));
  goes_on = λ since c t new is step. commits_step since.limits c.branch c.tree.items (message_in since.start.refs c) t.work is new.work step.0 step.1;
  falls = λ t new step. falls_of t.work new.work step.0;
  refused = λ start entries pending lane t v b e. refused_of start entries pending lane v b t.work e;
}

hear_laws : HearLaws commit_tasks commit_doing
hear_laws = record {
  facts = λ told lane t v b. counted lane told.objects t.work v b;
  holds = λ told lane t b holds. subst (λ k. kinds.Holds k lane b) (sym (same_kind told.objects t.work)) holds;
  pursues = λ told since c t is. commits_told since.limits c.branch c.tree.items (message_in since.start.refs c) told.objects t.work is;
  left = λ told t. omega (arith, same_left told.objects t.work);
  made = λ told t name made. made;
  unmade = λ told t name made. made;
  back = λ told t. refl;
}

learn_laws : LearnLaws commit_tasks commit_doing
learn_laws = no_learning commit_tasks commit_doing (λ refs ids pins t new is. is)

change_laws : ChangeLaws commit_tasks commit_means commit_doing
change_laws = record {
  shown = λ since c t e is. commits_shown since.limits c.branch c.tree.items (message_in since.start.refs c) t.work e is;
  settled = λ since c t e is. commits_settled since.limits c.branch c.tree.items (message_in since.start.refs c) t.work e is;
  founds = λ lane t. commits_founds lane t.work;
  makes = λ since c t new a is step given k. (let e = commits_end since c t.work is new.work step.0 in subst commit_makes (one (answer_of new.work) e.given a e.answer given) (e.makes k));
  makes_not = λ since c t new a is step given none m. (let e = commits_end since c t.work is new.work step.0 in e.makes_not none (subst commit_makes (sym (one (answer_of new.work) e.given a e.answer given)) m));
  tells = λ since c t new a e is step given kind. tt;
  kept = λ since opening lane c t new v w b same is f l k right. lasts_whole since.limits c.tree.items (message_in since.start.refs c) w (commits_kept since.limits c.branch c.tree.items (message_in since.start.refs c) opening lane t.work v w b same is new.work f l k right);
  keeps = λ since opening out removed c v w right stays kept. commits_keep since opening out removed c v w stays kept;
  keeps_on = λ since opening out removed c v disk on kept. commits_keep_on since opening out removed c v disk on kept;
  keeps_wider = λ since opening out more c v among kept. commits_wider since opening out more c v among kept;
  keeps_on_wider = λ since opening out more c disk among kept. commits_on_wider since opening out more c disk among kept;
}

answer_laws : AnswerLaws commit_tasks commit_means commit_doing
answer_laws = record {
  answers = λ since c t new is step. subst IsSome (sym (commits_end since c t.work is new.work step.0).answer) refl;
  says = λ since p c t new a is step given. (let e = commits_end since c t.work is new.work step.0 in subst (λ x. commit_says since x c) (one (answer_of new.work) e.given a e.answer given) e.says);
  shows = λ since p lane c t new v w b a listed is f l given sound. tells since c t.work is v w a (says_of lane t.work new.work v w b a f l given);
  remains = λ since p lane c t new v w b a listed is f leaves given. tt;
  remains_at_once = λ since c a v is. tt;
  knows = λ since p lane c t new v w b a is f l given sees. commits_know lane since p c v w b t.work new.work a given is f l sees;
  lacks_alone = λ since lane c t new v w b a commit is f l given lacks sum. absurd lacks;
  lacks = λ since v a c commit files shows lacks finished. lacks;
  outside = λ since v a c good shows outside. outside;
  full = λ told since c t new a is step given full. (let e = commits_end since c (record t.work { objects = told.objects }) (commits_told since.limits c.branch c.tree.items (message_in since.start.refs c) told.objects t.work is) new.work step.0 in e.full (subst commit_full (sym (one (answer_of new.work) e.given a e.answer given)) full));
  left = λ since actor lane c t new v w b b' a is f l given does none sound. tt;
  stays = λ since actor lane out removed a c v w b b' does only is. tt;
  stays_wider = λ since out more a c v b among is. tt;
}

store_laws : StoreLaws commit_tasks commit_means commit_doing
store_laws = record {
  holds = λ lane t v b f. held_of lane t.work v b f;
  works = λ since c t wants name is. commits_pin since.limits c.branch c.tree.items (message_in since.start.refs c) t.work is wants name;
  reaches = λ since lane c t v b wants name is f kind pin. tt;
  brings = λ since actor lane c t v b name s bytes is f sum wrote reads. commits_bring since.limits c.branch c.tree.items (message_in since.start.refs c) t.work is actor lane v b name s bytes f sum wrote reads;
  room = λ told since actor lane c t v b name s is f sum wrote stands. commits_room since.limits c.branch c.tree.items (message_in since.start.refs c) (record t.work { objects = told.objects }) (commits_told since.limits c.branch c.tree.items (message_in since.start.refs c) told.objects t.work is) actor lane v b name s (counted lane told.objects t.work v b f) sum wrote;
  stored = λ actor lane t new v w b name s f l sum wrote stands. commit_stored v w name s sum actor lane t.work new.work b f l wrote;
  done = λ actor lane t new v w b name s f l sum wrote stands. commit_done v w name s sum actor lane t.work new.work b f l wrote;
  lacked = λ told since c t new v w name is l met. commits_lacked since.limits c.branch c.tree.items (message_in since.start.refs c) (record t.work { objects = told.objects }) (commits_told since.limits c.branch c.tree.items (message_in since.start.refs c) told.objects t.work is) new.work v w name l met;
  there = λ lane t v b name f met. commit_there lane t.work v b name Stored f met;
  keeps = λ since actor lane c t v b is f still. commits_keep_store since.limits (commit_brings since.start.refs c) actor lane t.work v b f is.bounds (λ o of. (o, its_object since.limits c.branch c.tree.items (message_in since.start.refs c) t.work is o of, refl, refl));
}

remove_laws : RemoveLaws commit_tasks
remove_laws = no_removals commit_tasks (λ t. no_removal t.work)

pub commit_lists : ChangesNoList commit_means
commit_lists = λ since c e is. ap list_in is

boot_laws : BootLaws commit_tasks commit_doing
boot_laws = no_boots commit_tasks commit_means commit_doing change_laws commit_lists (λ actor lane t v b p s by f wrote. no_boot actor lane t.work v b p s f wrote)

folder_laws : FolderLaws commit_tasks commit_means commit_doing
folder_laws = record {
  claims = λ actor lane t v b name s f wrote. absurd (no_checkout actor lane t.work v b name s f wrote);
  claimed = λ since c t name is kind. absurd (no_commit_claim t.work (subst IsClaim (sym kind) tt));
  finds = λ since lane c t new v w b a name is f l given finds. absurd finds;
  made = λ t new v w name l kind. absurd (no_commit_claim t.work (subst IsClaim (sym kind) tt));
  goes_on = λ t new v w name l made. made;
  begun = λ lane t name begins made. made;
  by_claim = λ t new v w name leaves made. absurd made;
  ends = λ since lane c t new v w b a name is f leaves given made. made;
  late = λ since c a name is made. made;
}

pub commit_command_laws : CommandLaws commit_tasks commit_means commit_doing
commit_command_laws = record {
  steps = step_laws;
  locks = in_order commit_tasks commit_doing (λ t. commits_light t.work);
  hears = hear_laws;
  learns = learn_laws;
  changes = change_laws;
  answers = answer_laws;
  store = store_laws;
  removes = remove_laws;
  boots = boot_laws;
  folders = folder_laws;
}

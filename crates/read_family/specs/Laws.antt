-- The laws of the commands that read a commit.
use Rattle.std.proofs.Common.{⊎_elim, refl, sym, ◌∙◌, subst, arith}
use Rattle.fs_trait.specs.Seen.{NotDirectory}
use Rattle.repo_layout.specs.Paths.{stage_path}
use Rattle.rely_guarantee.specs.Laws.{IsClaim, IsMakeDurable}
use Rattle.read_command.specs.Commands.{read_facts, read_kind, read_leaves, read_refuses, read_stepped, read_writes}
use Rattle.read_command.specs.Laws.{no_read_claim}
use Rattle.read_command.proofs.Ends.{begins_of}
use Rattle.command.specs.AnswerLaws.{AnswerLaws}
use Rattle.command.specs.BootLaws.{BootLaws, ChangesNoList, no_boots}
use Rattle.command.specs.ChangeLaws.{ChangeLaws}
use Rattle.command.specs.FolderLaws.{FolderLaws}
use Rattle.command.specs.HearLaws.{HearLaws}
use Rattle.command.specs.Laws.{CommandLaws}
use Rattle.command.specs.LearnLaws.{LearnLaws, no_learning}
use Rattle.command.specs.RemoveLaws.{RemoveLaws, no_removals}
use Rattle.command.specs.StepLaws.{StepLaws}
use Rattle.command.specs.LockLaws.{in_order}
use Rattle.command.specs.StoreLaws.{StoreLaws}
use Rattle.command.specs.Tasks.{TaskSpec, task_spec}
use Rattle.read_family.specs.declared.task.ReadTask.{ReadTask}
use Rattle.durable_store.proofs.Silent.{silent_keeps}
use Rattle.read_family.specs.Alone.{reads_alone}
use Rattle.read_family.specs.Answering.{ends_say, ends_publish, has_answer, lacks_none, outside_none}
use Rattle.read_family.specs.Family.{read_doing, read_means}
use Rattle.read_family.specs.Kinds.{no_make_durable, no_publish, pins_reach, pins_work, read_holds, reads_light, reads_stay}

abbrev pub read_tasks : TaskSpec ReadTask
read_tasks = task_spec (λ t. read_kind t.work) (λ actor t. read_writes actor t.work) (λ t u new. read_stepped t.work u new.work) (λ t u new. read_leaves t.work u new.work) (λ t. read_refuses t.work) (λ lane t. read_facts lane t.work)

step_laws : StepLaws read_tasks read_doing
step_laws = record {
  begun = λ start entries pending lane t v b stands home begins. begins_of start entries pending lane v b t.work stands begins;
  quiet = λ lane t. read_holds lane t.work;
  stages = λ who actor lane t v w b is by f wrote home. ⊎_elim (λ same. subst NotDirectory (sym same) home) (λ bad. absurd bad) (wrote.now (stage_path who));
  goes_on = λ since c t new is step. (is.0, is.1, step.0 ∙ is.2);
  falls = λ t new step. step.1;
  refused = λ start entries pending lane t v b e tree stands f why. why;
}

hear_laws : HearLaws read_tasks read_doing
hear_laws = record {
  facts = λ told lane t v b f. f;
  holds = λ told lane t b holds. holds;
  pursues = λ told since c t is. is;
  left = λ told t. omega arith;
  made = λ told t name made. made;
  unmade = λ told t name made. made;
  back = λ told t. refl;
}

learn_laws : LearnLaws read_tasks read_doing
learn_laws = no_learning read_tasks read_doing (λ refs ids pins t new is. is)

change_laws : ChangeLaws read_tasks read_means read_doing
change_laws = record {
  shown = λ since c t e is kind. no_publish t.work e kind;
  settled = λ since c t e is kind. no_make_durable t.work (subst IsMakeDurable (sym kind) tt);
  founds = λ lane t v b e f kind. no_publish t.work e kind;
  makes = λ since c t new a is step given settles. no_make_durable t.work settles;
  makes_not = λ since c t new a is step given settles made. made;
  tells = λ since c t new a e is step given kind. tt;
  kept = λ since opening lane c t new v w b right is f leaves settles. tt;
  keeps = λ since opening out removed c v w right stays is. tt;
  keeps_on = λ since opening out removed c v disk stays is. tt;
  keeps_wider = λ since opening out more c v among is. tt;
  keeps_on_wider = λ since opening out more c disk among is. tt;
}

answer_laws : AnswerLaws read_tasks read_means read_doing
answer_laws = record {
  answers = λ since c t new is. has_answer t.work new.work;
  says = λ since p c t new a. ends_say since p c t.work new.work a;
  shows = λ since p lane c t new v w b a listed is f leaves given sound. ends_publish since lane c t.work new.work v w b a is f leaves given;
  remains = λ since p lane c t new v w b a listed is f leaves given. tt;
  remains_at_once = λ since c a v is. tt;
  knows = λ since p lane c t new v w b a is f leaves given sees. tt;
  lacks_alone = λ since lane c t new v w b a commit is f leaves given lacks sum. reads_alone t.work new.work v w a commit leaves given lacks sum;
  lacks = lacks_none;
  outside = outside_none;
  full = λ told since c t new a is step given full. absurd full;
  left = λ since actor lane c t new v w b b' a is f leaves given does gone sound. tt;
  stays = λ since actor lane out removed a c v w b b' does only is. tt;
  stays_wider = λ since out more a c v b among is. tt;
}

store_laws : StoreLaws read_tasks read_means read_doing
store_laws = record {
  holds = λ lane t v b f. tt;
  works = λ since c t wants name is kind pin. (is.0, is.1, pins_work t.work (record { limits = since.limits; commit = is.0; ask = c.ask }) wants name is.2 kind pin);
  reaches = λ since lane c t v b wants name is f kind pin. (is.0, is.1, pins_reach lane t.work v b (record { limits = since.limits; commit = is.0; ask = c.ask }) wants name f is.2 kind pin);
  brings = λ since actor lane c t v b name s bytes is f sum wrote reads. absurd wrote;
  room = λ told since actor lane c t v b name s is f sum wrote stands. absurd wrote;
  stored = λ actor lane t new v w b name s f leaves sum wrote stands. absurd wrote;
  done = λ actor lane t new v w b name s f leaves sum wrote stands. absurd wrote;
  lacked = λ told since c t new v w name is leaves met. cc;
  there = λ lane t v b name f met. cc;
  keeps = λ since actor lane c t v b is f still. silent_keeps since.limits (read_means.brings since c) v (read_writes actor t.work v) (λ p s wrote. wrote);
}

remove_laws : RemoveLaws read_tasks
remove_laws = no_removals read_tasks (λ t. reads_stay t.work)

pub read_lists : ChangesNoList read_means
read_lists = λ since c e none. absurd none

boot_laws : BootLaws read_tasks read_doing
boot_laws = no_boots read_tasks read_means read_doing change_laws read_lists (λ actor lane t v b p s by f wrote. absurd wrote)

folder_laws : FolderLaws read_tasks read_means read_doing
folder_laws = record {
  claims = λ actor lane t v b name s f wrote. absurd wrote;
  claimed = λ since c t name is kind. no_read_claim t.work (subst IsClaim (sym kind) tt);
  finds = λ since lane c t new v w b a name is f leaves given finds. absurd finds;
  made = λ t new v w name leaves kind. no_read_claim t.work (subst IsClaim (sym kind) tt);
  goes_on = λ t new v w name leaves made. made;
  begun = λ lane t name begins made. made;
  by_claim = λ t new v w name leaves made. absurd made;
  ends = λ since lane c t new v w b a name is f leaves given made. made;
  late = λ since c a name is made. made;
}

pub read_command_laws : CommandLaws read_tasks read_means read_doing
read_command_laws = record {
  steps = step_laws;
  locks = in_order read_tasks read_doing (λ t. reads_light t.work);
  hears = hear_laws;
  learns = learn_laws;
  changes = change_laws;
  answers = answer_laws;
  store = store_laws;
  removes = remove_laws;
  boots = boot_laws;
  folders = folder_laws;
}

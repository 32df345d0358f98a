-- The laws of a checkout as a command.
use Rattle.std.proofs.Common.{refl, subst, sym, ◌∙◌, arith}
use Rattle.rely_guarantee.specs.Laws.{IsMakeDurable}
use Rattle.checkout_command.specs.Commands.{checkout_facts, checkout_kind, checkout_leaves, checkout_refuses, checkout_stepped, checkout_writes}
use Rattle.checkout_command.proofs.Ends.{begins_of, made_claim, made_more}
use Rattle.checkout_family.specs.Claimed.{made_by_claim, not_begun}
use Rattle.checkout_command.proofs.Writing.{makes_folder, no_boots_written, no_objects, own_of}
use Rattle.command.specs.AnswerLaws.{AnswerLaws}
use Rattle.command.specs.BootLaws.{BootLaws, ChangesNoList, no_boots}
use Rattle.command.specs.ChangeLaws.{ChangeLaws}
use Rattle.command.specs.FolderLaws.{FolderLaws}
use Rattle.command.specs.HearLaws.{HearLaws}
use Rattle.command.specs.Laws.{CommandLaws}
use Rattle.command.specs.LearnLaws.{LearnLaws, no_learning}
use Rattle.command.specs.RemoveLaws.{RemoveLaws, no_removals}
use Rattle.command.specs.StepLaws.{StepLaws}
use Rattle.command.specs.LockLaws.{in_order}
use Rattle.command.specs.StoreLaws.{StoreLaws}
use Rattle.command.specs.Tasks.{TaskSpec, task_spec}
use Rattle.checkout_family.specs.declared.task.CheckoutsTask.{CheckoutsTask}
use Rattle.durable_store.proofs.Silent.{apart_keeps}
use Rattle.checkout_family.specs.Alone.{checkouts_alone}
use Rattle.checkout_family.specs.Apart.{writes_apart}
use Rattle.checkout_family.specs.Answering.{ends_say, ends_publish, found, has_answer, lacks_none, outside_none}
use Rattle.checkout_family.specs.Family.{checkout_doing, checkout_means}
use Rattle.checkout_family.specs.Made.{ends_made, late_none}
use Rattle.checkout_family.specs.Kinds.{checkout_holds, checkouts_light, claims_own, no_removal, no_make_durable, no_publish, pins_commit}
use Rattle.checkout_family.specs.Staying.{checkouts_stay, checkouts_wider, ends_leave}

abbrev pub checkout_tasks : TaskSpec CheckoutsTask
checkout_tasks = task_spec (λ t. checkout_kind t.work) (λ actor t. checkout_writes actor t.work) (λ t u new. checkout_stepped t.work u new.work) (λ t u new. checkout_leaves t.work u new.work) (λ t. checkout_refuses t.work) (λ lane t. checkout_facts lane t.work)

step_laws : StepLaws checkout_tasks checkout_doing
step_laws = record {
  begun = λ start entries pending lane t v b stands home begins. begins_of start entries pending lane v b t.work stands begins;
  quiet = λ lane t. checkout_holds lane t.work;
  stages = λ who actor lane t v w b is by f wrote home. own_of actor who t.work v w wrote home;
  goes_on = λ since c t new is step. (is.0, is.1, step.0 ∙ is.2);
  falls = λ t new step. step.1;
  refused = λ start entries pending lane t v b e tree stands f why. why;
}

hear_laws : HearLaws checkout_tasks checkout_doing
hear_laws = record {
  facts = λ told lane t v b f. f;
  holds = λ told lane t b holds. holds;
  pursues = λ told since c t is. is;
  left = λ told t. omega arith;
  made = λ told t name made. made;
  unmade = λ told t name made. made;
  back = λ told t. refl;
}

learn_laws : LearnLaws checkout_tasks checkout_doing
learn_laws = no_learning checkout_tasks checkout_doing (λ refs ids pins t new is. is)

change_laws : ChangeLaws checkout_tasks checkout_means checkout_doing
change_laws = record {
  shown = λ since c t e is kind. no_publish t.work e kind;
  settled = λ since c t e is kind. no_make_durable t.work (subst IsMakeDurable (sym kind) tt);
  founds = λ lane t v b e f kind. no_publish t.work e kind;
  makes = λ since c t new a is step given settles. no_make_durable t.work settles;
  makes_not = λ since c t new a is step given settles made. made;
  tells = λ since c t new a e is step given kind. tt;
  kept = λ since opening lane c t new v w b right is f leaves settles. tt;
  keeps = λ since opening out removed c v w right stays is. tt;
  keeps_on = λ since opening out removed c v disk on is. tt;
  keeps_wider = λ since opening out more c v among is. tt;
  keeps_on_wider = λ since opening out more c disk among is. tt;
}

answer_laws : AnswerLaws checkout_tasks checkout_means checkout_doing
answer_laws = record {
  answers = λ since c t new is. has_answer t.work new.work;
  says = λ since p c t new a. ends_say since p c t.work new.work a;
  shows = λ since p lane c t new v w b a listed is f leaves given sound. ends_publish since lane c t.work new.work v w b a is f leaves given sound;
  remains = λ since p lane c t new v w b a listed is f leaves given. tt;
  remains_at_once = λ since c a v is. tt;
  knows = λ since p lane c t new v w b a is f leaves given sees. tt;
  lacks_alone = λ since lane c t new v w b a commit is f leaves given lacks sum. checkouts_alone t.work new.work v w a commit leaves given lacks;
  lacks = lacks_none;
  outside = outside_none;
  full = λ told since c t new a is step given full. absurd full;
  left = λ since actor lane c t new v w b b' a is f leaves given does gone sound. ends_leave since actor lane c t.work new.work v w b b' is f leaves does gone sound a given;
  stays = checkouts_stay;
  stays_wider = checkouts_wider;
}

store_laws : StoreLaws checkout_tasks checkout_means checkout_doing
store_laws = record {
  holds = λ lane t v b f. tt;
  works = λ since c t wants name is kind pin. (is.0, is.1, pins_commit t.work (record { limits = since.limits; commit = is.0; name = c.name }) wants name is.2 kind pin);
  reaches = λ since lane c t v b wants name is f kind pin. tt;
  brings = λ since actor lane c t v b name s bytes is f sum wrote reads. no_objects actor t.work v name s sum wrote;
  room = λ told since actor lane c t v b name s is f sum wrote stands. absurd (no_objects actor t.work v name s sum wrote);
  stored = λ actor lane t new v w b name s f leaves sum wrote stands. absurd (no_objects actor t.work v name s sum wrote);
  done = λ actor lane t new v w b name s f leaves sum wrote stands. absurd (no_objects actor t.work v name s sum wrote);
  lacked = λ told since c t new v w name is leaves met. cc;
  there = λ lane t v b name f met. cc;
  keeps = λ since actor lane c t v b is f still. apart_keeps since.limits (checkout_means.brings since c) v (checkout_writes actor t.work v) (writes_apart actor t.work v);
}

remove_laws : RemoveLaws checkout_tasks
remove_laws = no_removals checkout_tasks (λ t. no_removal t.work)

pub checkout_lists : ChangesNoList checkout_means
checkout_lists = λ since c e none. absurd none

boot_laws : BootLaws checkout_tasks checkout_doing
boot_laws = no_boots checkout_tasks checkout_means checkout_doing change_laws checkout_lists (λ actor lane t v b p s by f wrote. no_boots_written actor t.work v p s wrote)

folder_laws : FolderLaws checkout_tasks checkout_means checkout_doing
folder_laws = record {
  claims = λ actor lane t v b name s f wrote. (makes_folder actor t.work v name s wrote).0;
  claimed = λ since c t name is kind. claims_own t.work (record { limits = since.limits; commit = is.0; name = c.name }) name is.2 kind;
  finds = λ since lane c t new v w b a name is f leaves given finds. found since lane c t.work new.work v w b name is f leaves a given finds;
  made = λ t new v w name leaves kind. made_claim t.work new.work v w name leaves kind;
  goes_on = λ t new v w name leaves made. made_more t.work new.work v w name leaves made;
  begun = λ lane t name begins made. not_begun t.work name begins made;
  by_claim = λ t new v w name leaves made. made_by_claim t.work new.work v w name leaves made;
  ends = λ since lane c t new v w b a name is f leaves given made. ends_made since c t.work new.work v w is leaves a given name made;
  late = late_none;
}

pub checkout_command_laws : CommandLaws checkout_tasks checkout_means checkout_doing
checkout_command_laws = record {
  steps = step_laws;
  locks = in_order checkout_tasks checkout_doing (λ t. checkouts_light t.work);
  hears = hear_laws;
  learns = learn_laws;
  changes = change_laws;
  answers = answer_laws;
  store = store_laws;
  removes = remove_laws;
  boots = boot_laws;
  folders = folder_laws;
}

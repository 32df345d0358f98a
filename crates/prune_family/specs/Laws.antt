-- The laws of a prune as a command.
use Rattle.std.proofs.Common.{refl, arith}
use Rattle.command.specs.AnswerLaws.{AnswerLaws}
use Rattle.command.specs.BootLaws.{BootLaws, ChangesNoList, no_boots}
use Rattle.command.specs.ChangeLaws.{ChangeLaws}
use Rattle.command.specs.FolderLaws.{FolderLaws}
use Rattle.command.specs.HearLaws.{HearLaws}
use Rattle.command.specs.Laws.{CommandLaws}
use Rattle.command.specs.LearnLaws.{LearnLaws}
use Rattle.command.specs.RemoveLaws.{RemoveLaws}
use Rattle.command.specs.StepLaws.{StepLaws}
use Rattle.command.specs.LockLaws.{in_order}
use Rattle.command.specs.StoreLaws.{StoreLaws}
use Rattle.command.specs.Tasks.{TaskSpec, task_spec}
use Rattle.prune_command.specs.Commands.{prune_kind, prune_leaves, prune_refuses, prune_stepped, prune_writes}
use Rattle.prune_command.specs.Facts.{prune_facts}
use Rattle.prune_family.specs.declared.task.PruneTask.{PruneTask}
use Rattle.prune_family.specs.Family.{prune_doing, prune_means}
use Rattle.prune_family.specs.Kinds.{asks_both, begins_of, begun_holds, ends_made, ends_tell, goes_on_its_way, has_answer, learns_on, never_claims, never_pins, not_made, makes_durable_prune, shows_founded, shows_prune, writes_no_bytes}
use Rattle.prune_family.specs.Learning.{learn_facts, learn_kind, learn_left}
use Rattle.prune_family.specs.Removing.{ends_of, keeps_of, no_boot, no_checkout, no_stage, removes_of, takes_of, vacant_only}
use Rattle.prune_family.specs.Says.{prune_unlisted, ends_remain, ends_say, outside_no}

abbrev pub prune_tasks : TaskSpec PruneTask
prune_tasks = task_spec (λ t. prune_kind t.work) (λ actor t. prune_writes actor t.work) (λ t u new. prune_stepped t.work u new.work) (λ t u new. prune_leaves t.work u new.work) (λ t. prune_refuses t.work) (λ lane t. prune_facts lane t.work)

step_laws : StepLaws prune_tasks prune_doing
step_laws = record {
  begun = λ start entries pending lane t v b stands home begins. begins_of lane t.work v b begins;
  quiet = λ lane t b begins none. begun_holds lane t.work b begins.0 none;
  stages = λ who actor lane t v w b is by f wrote home. no_stage lane who actor t.work v w b f wrote home;
  goes_on = λ since c t new is step. goes_on_its_way since c t.work new.work is step;
  falls = λ t new step. step.2;
  refused = λ start entries pending lane t v b e tree stands f why. why;
}

hear_laws : HearLaws prune_tasks prune_doing
hear_laws = record {
  facts = λ told lane t v b f. f;
  holds = λ told lane t b holds. holds;
  pursues = λ told since c t is. is;
  left = λ told t. omega arith;
  made = λ told t name made. made;
  unmade = λ told t name made. made;
  back = λ told t. refl;
}

learn_laws : LearnLaws prune_tasks prune_doing
learn_laws = record {
  kind = λ refs ids pins t new learns. learn_kind refs ids pins t.work new.work learns;
  pursues = λ refs ids pins since c t new learns is. learns_on since c refs ids pins t.work new.work learns is;
  left = λ refs ids pins t new learns. learn_left refs ids pins t.work new.work learns;
  met = λ refs ids pins t new learns. refl;
  made = λ refs ids pins t new name learns made. made;
  unmade = λ refs ids pins t new name learns made. made;
  facts = λ start entries pending refs ids pins lane t new v b told learns holds f. learn_facts start entries pending refs ids pins lane t.work new.work v b told learns holds f;
}

change_laws : ChangeLaws prune_tasks prune_means prune_doing
change_laws = record {
  shown = λ since c t e is kind. shows_prune since c t.work e is kind;
  settled = λ since c t e is kind. makes_durable_prune since c t.work e is kind;
  founds = λ lane t v b e f kind. shows_founded t.work v e kind;
  makes = λ since c t new a is step given settles. ends_made t.work new.work a step given settles;
  makes_not = λ since c t new a is step given settles made. not_made since c t.work new.work a is step given settles made;
  tells = λ since c t new a e is step given kind. ends_tell t.work new.work a e step given kind;
  kept = λ since opening lane c t new v w b right is f leaves settles. tt;
  keeps = λ since opening out removed c v w right stays is. tt;
  keeps_on = λ since opening out removed c v disk on is. tt;
  keeps_wider = λ since opening out more c v among is. tt;
  keeps_on_wider = λ since opening out more c disk among is. tt;
}

answer_laws : AnswerLaws prune_tasks prune_means prune_doing
answer_laws = record {
  answers = λ since c t new is step. has_answer t.work new.work step;
  says = λ since p c t new a is step given. tt;
  shows = λ since p lane c t new v w b a listed is f leaves given sound. ends_say since p lane c t.work new.work v w b a listed is f leaves given;
  remains = λ since p lane c t new v w b a listed is f leaves given. ends_remain since p lane c t.work new.work v w b a listed is f leaves given;
  remains_at_once = λ since c a v is. is.5 v;
  knows = λ since p lane c t new v w b a is f leaves given sees. tt;
  lacks_alone = λ since lane c t new v w b a commit is f leaves given lacks sum. absurd lacks;
  lacks = λ since v a c commit files shows lacks finished. lacks;
  outside = λ since v a c good shows outside. outside_no since.place.deployments since.limits c.depth v a good shows outside;
  full = λ told since c t new a is step given full. absurd full;
  left = λ since actor lane c t new v w b b' a is f leaves given does gone sound. tt;
  stays = λ since actor lane out removed a c v w b b' does only is. tt;
  stays_wider = λ since out more a c v b among is. tt;
}

store_laws : StoreLaws prune_tasks prune_means prune_doing
store_laws = record {
  holds = λ lane t v b f. tt;
  works = λ since c t wants name is kind pin. never_pins t.work wants name kind pin;
  reaches = λ since lane c t v b wants name is f kind pin. tt;
  brings = λ since actor lane c t v b name s bytes is f sum wrote reads. absurd (writes_no_bytes name.kind s bytes (vacant_only actor t.work v _ s wrote) reads);
  room = λ told since actor lane c t v b name s is f sum wrote stands. absurd (stands (vacant_only actor t.work v _ s wrote));
  stored = λ actor lane t new v w b name s f leaves sum wrote stands. absurd (stands (vacant_only actor t.work v _ s wrote));
  done = λ actor lane t new v w b name s f leaves sum wrote stands. absurd (stands (vacant_only actor t.work v _ s wrote));
  lacked = λ told since c t new v w name is leaves met. cc;
  there = λ lane t v b name f met. cc;
  keeps = λ since actor lane c t v b is f still. keeps_of since.limits (prune_means.brings since c) actor t.work v still;
}

remove_laws : RemoveLaws prune_tasks
remove_laws = record {
  removes = λ actor lane t v b f removing. removes_of actor lane t.work v b f removing;
  takes = λ lane t new v w b e owed o f kind leaves has. takes_of lane t.work new.work v w b e owed o f kind leaves has;
  ends = λ lane t new v w b e f kind prune leaves. ends_of lane t.work new.work v w b e f kind prune leaves;
}

pub prune_lists : ChangesNoList prune_means
prune_lists = λ since c e. prune_unlisted c.depth e

boot_laws : BootLaws prune_tasks prune_doing
boot_laws = no_boots prune_tasks prune_means prune_doing change_laws prune_lists (λ actor lane t v b p s by f wrote. no_boot lane t.work v b p s f wrote)

folder_laws : FolderLaws prune_tasks prune_means prune_doing
folder_laws = record {
  claims = λ actor lane t v b name s f wrote. absurd (no_checkout lane actor t.work v b name s f wrote);
  claimed = λ since c t name is kind. never_claims t.work name kind;
  finds = λ since lane c t new v w b a name is f leaves given finds. absurd finds;
  made = λ t new v w name leaves kind. never_claims t.work name kind;
  goes_on = λ t new v w name leaves made. made;
  begun = λ lane t name begins made. made;
  by_claim = λ t new v w name leaves made. absurd made;
  ends = λ since lane c t new v w b a name is f leaves given made. made;
  late = λ since c a name is made. made;
}

pub prune_command_laws : CommandLaws prune_tasks prune_means prune_doing
prune_command_laws = record {
  steps = step_laws;
  locks = in_order prune_tasks prune_doing (λ t. asks_both t.work);
  hears = hear_laws;
  learns = learn_laws;
  changes = change_laws;
  answers = answer_laws;
  store = store_laws;
  removes = remove_laws;
  boots = boot_laws;
  folders = folder_laws;
}

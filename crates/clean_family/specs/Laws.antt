-- The laws of a removal of deployments as a command.
use Rattle.std.proofs.Common.{refl, sym, arith}
use Rattle.command.specs.AnswerLaws.{AnswerLaws}
use Rattle.command.specs.BootLaws.{BootLaws, ChangesNoList}
use Rattle.command.specs.ChangeLaws.{ChangeLaws}
use Rattle.command.specs.FolderLaws.{FolderLaws}
use Rattle.command.specs.HearLaws.{HearLaws}
use Rattle.command.specs.Laws.{CommandLaws}
use Rattle.command.specs.LearnLaws.{LearnLaws}
use Rattle.command.specs.LockLaws.{LockLaws}
use Rattle.command.specs.RemoveLaws.{RemoveLaws, no_removals}
use Rattle.command.specs.StepLaws.{StepLaws}
use Rattle.command.specs.StoreLaws.{StoreLaws}
use Rattle.command.specs.Tasks.{TaskSpec, task_spec}
use Rattle.durable_store.proofs.Silent.{apart_keeps}
use Rattle.clean_command.specs.Commands.{clean_kind, clean_leaves, clean_refuses, clean_stepped, clean_writes}
use Rattle.clean_command.specs.Facts.{clean_facts}
use Rattle.clean_command.proofs.Ends.{begins_of, falls_of, learn_facts, learn_kind, learn_left}
use Rattle.clean_family.specs.declared.task.CleansTask.{CleansTask}
use Rattle.clean_family.specs.Answering.{cleaned_before, cleaned_remains, has_answer}
use Rattle.clean_family.specs.Boots.{off_deployment, off_list}
use Rattle.clean_family.specs.Family.{clean_doing, clean_means}
use Rattle.clean_family.specs.Kinds.{asks_first, asks_list_alone, begun_holds, claims_none, never_removes, never_settles, pins_none, publishes_none, settles_none}
use Rattle.clean_family.specs.Places.{no_checkout, no_object, no_stage, writes_apart}

abbrev pub clean_tasks : TaskSpec CleansTask
clean_tasks = task_spec (λ t. clean_kind t.work) (λ actor t. clean_writes actor t.work) (λ t u new. clean_stepped t.work u new.work) (λ t u new. clean_leaves t.work u new.work) (λ t. clean_refuses t.work) (λ lane t. clean_facts lane t.work)

step_laws : StepLaws clean_tasks clean_doing
step_laws = record {
  begun = λ start entries pending lane t v b stands home begins. begins_of lane t.work v b begins.0 begins.1;
  quiet = λ lane t b begins none. begun_holds lane t.work b begins.0 none;
  stages = λ who actor lane t v w b is by f wrote home. no_stage actor lane t.work v b f who w wrote home;
  goes_on = λ since c t new is step. tt;
  falls = λ t new step. falls_of t.work new.work step;
  refused = λ start entries pending lane t v b e tree stands f why. why;
}

lock_laws : LockLaws clean_tasks clean_doing
lock_laws = record {
  asks = λ since c t wants after is. asks_list_alone t.work wants is;
  first = λ t new step. asks_first t.work new.work step;
  heard = λ told t asks. asks;
}

hear_laws : HearLaws clean_tasks clean_doing
hear_laws = record {
  facts = λ told lane t v b f. f;
  holds = λ told lane t b holds. holds;
  pursues = λ told since c t is. is;
  left = λ told t. omega arith;
  made = λ told t name made. made;
  unmade = λ told t name made. made;
  back = λ told t. refl;
}

learn_laws : LearnLaws clean_tasks clean_doing
learn_laws = record {
  kind = λ refs ids pins t new learns. learn_kind ids t.work new.work learns;
  pursues = λ refs ids pins since c t new learns is. tt;
  left = λ refs ids pins t new learns. (let same = learn_left ids t.work new.work learns in omega (arith, same));
  met = λ refs ids pins t new learns. refl;
  made = λ refs ids pins t new name learns made. made;
  unmade = λ refs ids pins t new name learns made. made;
  facts = λ start entries pending refs ids pins lane t new v b told learns holds f. learn_facts ids t.work new.work learns lane v b (sym told.listed) told.bounded f;
}

change_laws : ChangeLaws clean_tasks clean_means clean_doing
change_laws = record {
  shown = λ since c t e is kind. publishes_none t.work e kind;
  settled = λ since c t e is kind. settles_none t.work e kind;
  founds = λ lane t v b e f kind. absurd (publishes_none t.work e kind);
  makes = λ since c t new a is step given settles. never_settles t.work settles;
  makes_not = λ since c t new a is step given settles made. made;
  tells = λ since c t new a e is step given kind. tt;
  kept = λ since opening lane c t new v w b right is f leaves settles. tt;
  keeps = λ since opening out removed c v w right stays is. tt;
  keeps_on = λ since opening out removed c v disk on is. tt;
  keeps_wider = λ since opening out more c v among is. tt;
  keeps_on_wider = λ since opening out more c disk among is. tt;
}

answer_laws : AnswerLaws clean_tasks clean_means clean_doing
answer_laws = record {
  answers = λ since c t new is step. has_answer t.work new.work step;
  says = λ since p c t new a is step given. tt;
  shows = λ since p lane c t new v w b a listed is f leaves given sound. cleaned_before p lane t.work new.work v w b f leaves listed;
  remains = λ since p lane c t new v w b a listed is f leaves given. cleaned_remains p lane t.work new.work v w b f leaves listed;
  remains_at_once = λ since c a v is. is.5 v;
  knows = λ since p lane c t new v w b a is f leaves given sees. tt;
  lacks_alone = λ since lane c t new v w b a commit is f leaves given lacks sum. absurd lacks;
  lacks = λ since v a c commit files shows lacks finished. lacks;
  outside = λ since v a c good shows outside. outside;
  full = λ told since c t new a is step given full. absurd full;
  left = λ since actor lane c t new v w b b' a is f leaves given does gone sound. tt;
  stays = λ since actor lane out removed a c v w b b' does only is. tt;
  stays_wider = λ since out more a c v b among is. tt;
}

store_laws : StoreLaws clean_tasks clean_means clean_doing
store_laws = record {
  holds = λ lane t v b f. tt;
  works = λ since c t wants name is kind pin. pins_none t.work wants name kind pin;
  reaches = λ since lane c t v b wants name is f kind pin. pins_none t.work wants name kind pin;
  brings = λ since actor lane c t v b name s bytes is f sum wrote reads. no_object actor lane t.work v b f name sum s wrote;
  room = λ told since actor lane c t v b name s is f sum wrote stands. absurd (no_object actor lane t.work v b f name sum s wrote);
  stored = λ actor lane t new v w b name s f leaves sum wrote stands. absurd (no_object actor lane t.work v b f name sum s wrote);
  done = λ actor lane t new v w b name s f leaves sum wrote stands. absurd (no_object actor lane t.work v b f name sum s wrote);
  lacked = λ told since c t new v w name is leaves met. cc;
  there = λ lane t v b name f met. cc;
  keeps = λ since actor lane c t v b is f still. apart_keeps since.limits (clean_means.brings since c) v (clean_writes actor t.work v) (writes_apart actor lane t.work v b f);
}

remove_laws : RemoveLaws clean_tasks
remove_laws = no_removals clean_tasks (λ t. never_removes t.work)

pub clean_lists : ChangesNoList clean_means
clean_lists = λ since c e none. absurd none

boot_laws : BootLaws clean_tasks clean_doing
boot_laws = record {
  list = λ since c actor lane t v b base rows p s taken not may writes way. off_list actor lane t.work v b base rows p s taken.facts taken.holds may writes way;
  deployments = λ since c actor lane t v b base rows row p s taken may among writes way. off_deployment actor lane t.work v b base rows p s taken.facts taken.holds may writes row among way;
  publishes = λ since c lane t v w b e rows kind some taken tree wrote listed boots. absurd (publishes_none t.work e kind);
  settles = λ since c lane t new v w b e link old come before after kind is taken wrote leaves listed lists. absurd (settles_none t.work e kind);
}

folder_laws : FolderLaws clean_tasks clean_means clean_doing
folder_laws = record {
  claims = λ actor lane t v b name s f wrote. absurd (no_checkout actor lane t.work v b f name s wrote);
  claimed = λ since c t name is kind. claims_none t.work name kind;
  finds = λ since lane c t new v w b a name is f leaves given finds. absurd finds;
  made = λ t new v w name leaves kind. claims_none t.work name kind;
  goes_on = λ t new v w name leaves made. made;
  begun = λ lane t name begins made. made;
  by_claim = λ t new v w name leaves made. absurd made;
  ends = λ since lane c t new v w b a name is f leaves given made. made;
  late = λ since c a name is made. made;
}

pub clean_command_laws : CommandLaws clean_tasks clean_means clean_doing
clean_command_laws = record {
  steps = step_laws;
  locks = lock_laws;
  hears = hear_laws;
  learns = learn_laws;
  changes = change_laws;
  answers = answer_laws;
  store = store_laws;
  removes = remove_laws;
  boots = boot_laws;
  folders = folder_laws;
}

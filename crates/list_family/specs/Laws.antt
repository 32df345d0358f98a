-- The laws of a family that runs no task.
use Rattle.std.proofs.Common.{ℕ, arith, refl, subst, sym}
use Rattle.fs_trait.specs.declared.types.FsErr.{FsErr}
use Rattle.fs_trait.specs.Change.{Nothing}
use Rattle.fs_trait.specs.Seen.{NotDirectory}
use Rattle.fs_trait.specs.View.{View}
use Rattle.fs_trait.proofs.Facts.{shows_kept}
use Rattle.repo_layout.specs.Paths.{stage_path}
use Rattle.rely_guarantee.specs.Books.{Books}
use Rattle.command.specs.AnswerLaws.{AnswerLaws}
use Rattle.command.specs.BootLaws.{BootLaws, ChangesNoList, no_boots}
use Rattle.command.specs.ChangeLaws.{ChangeLaws}
use Rattle.command.specs.FolderLaws.{FolderLaws}
use Rattle.command.specs.HearLaws.{HearLaws}
use Rattle.command.specs.Laws.{CommandLaws}
use Rattle.command.specs.LearnLaws.{LearnLaws, no_learning}
use Rattle.command.specs.RemoveLaws.{RemoveLaws, no_removals}
use Rattle.command.specs.StepLaws.{StepLaws}
use Rattle.command.specs.LockLaws.{in_order}
use Rattle.command.specs.StoreLaws.{StoreLaws}
use Rattle.command.specs.Tasks.{TaskSpec, task_spec}
use Rattle.list_family.specs.declared.task.ListTask.{ListTask}
use Rattle.list_family.specs.Family.{list_doing, list_kind, list_leaves, list_means, list_stepped}

abbrev pub list_tasks : TaskSpec ListTask
list_tasks = task_spec list_kind (λ (actor : ℕ) (t : ListTask) (v : View). Nothing) list_stepped list_leaves (λ (t : ListTask) (v : View) (e : FsErr). ⊥) (λ (lane : ℕ) (t : ListTask) (v : View) (b : Books). Unit {0})

step_laws : StepLaws list_tasks list_doing
step_laws = record {
  begun = λ start entries pending lane t v b stands home begins. tt;
  quiet = λ lane t b begins none. none;
  stages = λ who actor lane t v w b is by f wrote home. subst NotDirectory (sym (shows_kept _ v w (stage_path who) wrote (λ s bad. bad))) home;
  goes_on = λ since c t new is step. is;
  falls = λ t new step. cc;
  refused = λ start entries pending lane t v b e tree stands f why. absurd why;
}

hear_laws : HearLaws list_tasks list_doing
hear_laws = record {
  facts = λ told lane t v b f. tt;
  holds = λ told lane t b holds. holds;
  pursues = λ told since c t is. is;
  left = λ told t. omega arith;
  made = λ told t name made. made;
  unmade = λ told t name made. made;
  back = λ told t. refl;
}

learn_laws : LearnLaws list_tasks list_doing
learn_laws = no_learning list_tasks list_doing (λ refs ids pins t new is. is)

change_laws : ChangeLaws list_tasks list_means list_doing
change_laws = record {
  shown = λ since c t e is kind. is;
  settled = λ since c t e is kind. is;
  founds = λ lane t v b e f kind. cc;
  makes = λ since c t new a is step given settles. is;
  makes_not = λ since c t new a is step given settles made. made;
  tells = λ since c t new a e is step given kind. tt;
  kept = λ since opening lane c t new v w b right is f leaves settles. tt;
  keeps = λ since opening out removed c v w right stays is. tt;
  keeps_on = λ since opening out removed c v disk stays is. tt;
  keeps_wider = λ since opening out more c v among is. tt;
  keeps_on_wider = λ since opening out more c disk among is. tt;
}

answer_laws : AnswerLaws list_tasks list_means list_doing
answer_laws = record {
  answers = λ since c t new is step. absurd is;
  says = λ since p c t new a is step given. absurd is;
  shows = λ since p lane c t new v w b a listed is f leaves given sound. tt;
  remains = λ since p lane c t new v w b a listed is f leaves given. tt;
  remains_at_once = λ since c a v is. tt;
  knows = λ since p lane c t new v w b a is f leaves given sees. tt;
  lacks_alone = λ since lane c t new v w b a commit is f leaves given lacks sum. absurd lacks;
  lacks = λ since v a c commit files seen lacks finished. lacks;
  outside = λ since v a c good seen outside. outside;
  full = λ told since c t new a is step given full. absurd full;
  left = λ since actor lane c t new v w b b' a is f leaves given does gone sound. tt;
  stays = λ since actor lane out removed a c v w b b' does only is. tt;
  stays_wider = λ since out more a c v b among is. tt;
}

store_laws : StoreLaws list_tasks list_means list_doing
store_laws = record {
  holds = λ lane t v b f. tt;
  works = λ since c t wants name is kind pin. is;
  reaches = λ since lane c t v b wants name is f kind pin. is;
  brings = λ since actor lane c t v b name s bytes is f sum wrote reads. is;
  room = λ told since actor lane c t v b name s is f sum wrote stands. absurd is;
  stored = λ actor lane t new v w b name s f leaves sum wrote stands. absurd wrote;
  done = λ actor lane t new v w b name s f leaves sum wrote stands. absurd wrote;
  lacked = λ told since c t new v w name is leaves met. absurd is;
  there = λ lane t v b name f met. cc;
  keeps = λ since actor lane c t v b is f still. absurd is;
}

remove_laws : RemoveLaws list_tasks
remove_laws = no_removals list_tasks (λ t removes. removes)

pub list_lists : ChangesNoList list_means
list_lists = λ since c e none. absurd none

boot_laws : BootLaws list_tasks list_doing
boot_laws = no_boots list_tasks list_means list_doing change_laws list_lists (λ actor lane t v b p s by f wrote. absurd wrote)

folder_laws : FolderLaws list_tasks list_means list_doing
folder_laws = record {
  claims = λ actor lane t v b name s f wrote. absurd wrote;
  claimed = λ since c t name is kind. is;
  finds = λ since lane c t new v w b a name is f leaves given finds. absurd is;
  made = λ t new v w name leaves kind. cc;
  goes_on = λ t new v w name leaves made. made;
  begun = λ lane t name begins made. made;
  by_claim = λ t new v w name leaves made. absurd made;
  ends = λ since lane c t new v w b a name is f leaves given made. made;
  late = λ since c a name is made. made;
}

pub list_command_laws : CommandLaws list_tasks list_means list_doing
list_command_laws = record {
  steps = step_laws;
  locks = in_order list_tasks list_doing (λ t wants is. cc);
  hears = hear_laws;
  learns = learn_laws;
  changes = change_laws;
  answers = answer_laws;
  store = store_laws;
  removes = remove_laws;
  boots = boot_laws;
  folders = folder_laws;
}

-- What a removal of deployments says, and what its task is to it.
use Rattle.std.specs.Prelude.{◌≡◌, None}
use Rattle.clean_command.specs.declared.answer.CleanAnswer.{CleanAnswer}
use Rattle.clean_command.specs.Commands.{IsCleaned, IsNew, clean_answer, clean_learns, clean_left}
use Rattle.command.specs.Doing.{Doing}
use Rattle.command.specs.Meaning.{Meaning}
use Rattle.clean_family.specs.declared.task.CleansTask.{CleansTask}
use Rattle.clean_family.specs.declared.words.CleanWords.{CleanWords}

-- Before the last step, and behind it, no deployment stands that the list of the answer's place doesn't name, if any list is selected. That
-- says all of the one answer that there is.
abbrev pub clean_means : Meaning CleanWords CleanAnswer
clean_means = record {
  fit = λ limits c. Unit {0};
  changes = λ since c e. ⊥;
  makes = λ a c. ⊥;
  tells = λ a e. Unit {0};
  says = λ since a c. Unit {0};
  knows = λ since a c. Unit {0};
  shows = λ since v a c. IsCleaned v.now since.place.deployments;
  remains = λ since v a c. IsCleaned v.now since.place.deployments;
  stays = λ since out a c v b. Unit {0};
  keeps = λ since opening out c v. Unit {0};
  keeps_on = λ since opening out c disk. Unit {0};
  works = λ since c name. ⊥;
  reaches = λ since c name. ⊥;
  finds = λ a c name. ⊥;
  claims = λ c name. ⊥;
  checks_out = λ a c name. ⊥;
  brings = λ since c name bytes. ⊥;
  lacks = λ a commit. ⊥;
  outside = λ a. ⊥;
  full = λ a. ⊥;
}

abbrev pub clean_doing : Doing CleansTask CleanWords CleanAnswer
clean_doing = record {
  begins = λ lane t. IsNew t.work × (t.work.lane ≡ lane);
  pursues = λ since c t. Unit {0};
  answer = λ t. clean_answer t.work;
  left = λ t. clean_left t.work;
  hears = λ told t. t;
  heard = λ t. record { objects = 0 };
  learns = λ refs ids pins t new. clean_learns refs ids pins t.work new.work;
  asks = λ actor t. None;
  met = λ t. None;
  holds = λ lane t v b. Unit {0};
  made = λ t name. ⊥;
}

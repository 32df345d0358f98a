-- What the commands say: each answers its number.
use Rattle.std.specs.Prelude.{◌≡◌, ◌≤◌, ◌-◌, ℕ, Some, None}
use Rattle.command.specs.Doing.{Doing}
use Rattle.command.specs.LearnLaws.{learns_nothing}
use Rattle.command.specs.Meaning.{Meaning}
use Rattle.lane_system_check.specs.declared.task.WaitTask.{WaitTask}
use Rattle.lane_system_check.specs.declared.words.WaitWords.{WaitWords}
use Rattle.lane_system_check.specs.declared.words.WaitWords.TheVariants.{Echo, Wait}

abbrev pub number_of : WaitWords → ℕ
number_of (Echo number) = number
number_of (Wait number holds) = number

abbrev pub wait_means : Meaning WaitWords ℕ
wait_means = record {
  fit = λ limits c. Unit {0};
  changes = λ since c e. ⊥;
  makes = λ a c. ⊥;
  tells = λ a e. Unit {0};
  says = λ since a c. a ≡ number_of c;
  knows = λ since a c. Unit {0};
  shows = λ since v a c. Unit {0};
  remains = λ since v a c. Unit {0};
  stays = λ since out a c v b. Unit {0};
  keeps = λ since opening out c v. Unit {0};
  keeps_on = λ since opening out c disk. Unit {0};
  works = λ since c name. ⊥;
  reaches = λ since c name. Unit {0};
  finds = λ a c name. ⊥;
  claims = λ c name. ⊥;
  checks_out = λ a c name. ⊥;
  brings = λ since c name bytes. ⊥;
  lacks = λ a commit. ⊥;
  outside = λ a. ⊥;
  full = λ a. ⊥;
}

abbrev pub wait_pursues : WaitWords → WaitTask → Type 0
wait_pursues (Echo number) t = ⊥
wait_pursues (Wait number holds) t = (t.number ≡ number) × (t.taken ≤ number)

abbrev pub wait_doing : Doing WaitTask WaitWords ℕ
wait_doing = record {
  begins = λ lane t. t.taken ≡ 0;
  pursues = λ since. wait_pursues;
  answer = λ t. Some t.taken;
  left = λ t. t.number - t.taken;
  hears = λ told t. t;
  heard = λ t. record { objects = 0 };
  learns = learns_nothing;
  asks = λ actor t. None;
  met = λ t. None;
  holds = λ lane t v b. Unit {0};
  made = λ t name. ⊥;
}

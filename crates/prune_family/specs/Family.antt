-- What a prune says, and what its task is to it.
use Rattle.std.specs.Prelude.{◌≡◌, ◌≢◌, ℕ, length, Option, None}
use Rattle.rely_guarantee.specs.declared.event.Event.{Event}
use Rattle.rely_guarantee.specs.declared.event.Event.TheVariants.{SetRef, DropRef, Pruned, SetDeployments}
use Rattle.prune_sweep.specs.declared.part.Part.TheVariants as part
use Rattle.prune_command.specs.declared.answer.PruneAnswer.{PruneAnswer}
use Rattle.prune_command.specs.declared.answer.PruneAnswer.TheVariants as answer
use Rattle.prune_command.specs.declared.command.PruneCommand.{PruneCommand}
use Rattle.prune_command.specs.declared.phase.Phase.{Phase}
use Rattle.prune_command.specs.declared.phase.Phase.TheVariants as phase
use Rattle.prune_command.specs.Answers.{Says}
use Rattle.prune_command.specs.Commands.{IsNew, prune_answer, prune_learns, prune_left}
use Rattle.command.specs.Doing.{Doing}
use Rattle.command.specs.Meaning.{Meaning}
use Rattle.command.specs.Since.{Since}
use Rattle.prune_family.specs.declared.task.PruneTask.{PruneTask}
use Rattle.prune_family.specs.declared.words.PruneWords.{PruneWords}

-- the removal of objects with so many parents kept
abbrev pub IsPruneOf : ℕ → Event → Type 0
IsPruneOf depth (Pruned d roots held removed) = d ≡ depth
IsPruneOf depth (SetRef name seen commit) = ⊥
IsPruneOf depth (DropRef name seen) = ⊥
IsPruneOf depth (SetDeployments change list) = ⊥

-- it was made
abbrev pub prune_makes : PruneAnswer → Type 0
prune_makes (answer.Pruned kept removed) = Unit {0}
prune_makes (answer.Outside o) = ⊥

-- and removed so many
abbrev pub prune_tells : PruneAnswer → Event → Type 0
prune_tells (answer.Pruned kept removed) (Pruned depth roots held gone) = removed ≡ length gone
prune_tells a e = ⊥

-- an object isn't there as its name says
abbrev pub prune_outside : PruneAnswer → Type 0
prune_outside (answer.Pruned kept removed) = ⊥
prune_outside (answer.Outside o) = Unit {0}

abbrev pub prune_means : Meaning PruneWords PruneAnswer
prune_means = record {
  fit = λ limits c. Unit {0};
  changes = λ since c. IsPruneOf c.depth;
  makes = λ a c. prune_makes a;
  tells = prune_tells;
  says = λ since a c. Unit {0};
  knows = λ since a c. Unit {0};
  shows = λ since v a c. Says since.place.deployments c.depth since.limits.content v.now a;
  remains = λ since v a c. Says since.place.deployments c.depth since.limits.content v.now a;
  stays = λ since out a c v b. Unit {0};
  keeps = λ since opening out c v. Unit {0};
  keeps_on = λ since opening out c disk. Unit {0};
  works = λ since c name. ⊥;
  reaches = λ since c name. Unit {0};
  finds = λ a c name. ⊥;
  claims = λ c name. ⊥;
  checks_out = λ a c name. ⊥;
  brings = λ since c name bytes. ⊥;
  lacks = λ a commit. ⊥;
  outside = prune_outside;
  full = λ a. ⊥;
}

-- it isn't over
abbrev pub IsOnItsWay : Phase → Type 0
IsOnItsWay (phase.Sweeping r) = r.part ≢ part.Over
IsOnItsWay (phase.Over a) = ⊥
IsOnItsWay p = Unit {0}

-- it keeps so many parents, within these bounds
pub record IsPruning (since : Since) (c : PruneWords) (t : PruneCommand) : Type 0 where
  pub depth : t.depth ≡ c.depth
  pub limits : t.limits ≡ since.limits
  pub goes : IsOnItsWay t.phase

abbrev pub prune_doing : Doing PruneTask PruneWords PruneAnswer
prune_doing = record {
  begins = λ lane t. IsNew t.work × (t.work.lane ≡ lane);
  pursues = λ since c t. IsPruning since c t.work;
  answer = λ t. prune_answer t.work;
  left = λ t. prune_left t.work;
  hears = λ told t. t;
  heard = λ t. record { objects = 0 };
  learns = λ refs ids pins t new. prune_learns refs ids pins t.work new.work;
  asks = λ actor t. None;
  met = λ t. None;
  holds = λ lane t v b. Unit {0};
  made = λ t name. ⊥;
}

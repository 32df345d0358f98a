-- What two families of commands say, as one.
use Rattle.std.specs.Prelude.{Option, Some, None}
use Rattle.rely_guarantee.specs.declared.either.Either.{Either}
use Rattle.rely_guarantee.specs.declared.either.Either.TheVariants.{Left, Right}
use Rattle.rely_guarantee.specs.Either.{either_kind, either_writes, either_stepped, either_leaves, either_refuses, either_facts}
use Rattle.command.specs.Doing.{Doing}
use Rattle.command.specs.Meaning.{Meaning}
use Rattle.command.specs.Tasks.{TaskSpec, task_spec}

-- of one of two,
abbrev pub on_side : {A B : Type 0} → (A → Type 0) → (B → Type 0) → Either A B → Type 0
on_side f g (Left a) = f a
on_side f g (Right b) = g b

abbrev pub side_value : {A B X : Type 0} → (A → X) → (B → X) → Either A B → X
side_value f g (Left a) = f a
side_value f g (Right b) = g b

abbrev pub side_map : {A B C D : Type 0} → (A → C) → (B → D) → Either A B → Either C D
side_map f g (Left a) = Left (f a)
side_map f g (Right b) = Right (g b)

-- and of two of one kind
abbrev pub same_side : {A B C D : Type 0} → (A → C → Type 0) → (B → D → Type 0) → Either A B → Either C D → Type 0
same_side f g (Left a) (Left c) = f a c
same_side f g (Right b) (Right d) = g b d
same_side f g x y = ⊥

abbrev pub wrapped : {A B : Type 0} → (A → B) → Option A → Option B
wrapped f None = None
wrapped f (Some a) = Some (f a)

abbrev pub either_answer : {S T A B : Type 0} → (S → Option A) → (T → Option B) → Either S T → Option (Either A B)
either_answer f g (Left s) = wrapped Left (f s)
either_answer f g (Right t) = wrapped Right (g t)

abbrev pub either_means : {W V A B : Type 0} → Meaning W A → Meaning V B → Meaning (Either W V) (Either A B)
either_means m n = record {
  fit = λ limits. on_side (m.fit limits) (n.fit limits);
  changes = λ since c e. on_side (λ w. m.changes since w e) (λ w. n.changes since w e) c;
  makes = same_side m.makes n.makes;
  tells = λ a e. on_side (λ x. m.tells x e) (λ x. n.tells x e) a;
  says = λ since. same_side (m.says since) (n.says since);
  knows = λ since. same_side (m.knows since) (n.knows since);
  shows = λ since v. same_side (m.shows since v) (n.shows since v);
  remains = λ since v. same_side (m.remains since v) (n.remains since v);
  stays = λ since out a c v b. same_side (λ x w. m.stays since out x w v b) (λ x w. n.stays since out x w v b) a c;
  keeps = λ since opening out c v. on_side (λ w. m.keeps since opening out w v) (λ w. n.keeps since opening out w v) c;
  keeps_on = λ since opening out c disk. on_side (λ w. m.keeps_on since opening out w disk) (λ w. n.keeps_on since opening out w disk) c;
  works = λ since c name. on_side (λ w. m.works since w name) (λ w. n.works since w name) c;
  reaches = λ since c name. on_side (λ w. m.reaches since w name) (λ w. n.reaches since w name) c;
  finds = λ a c name. same_side (λ x w. m.finds x w name) (λ x w. n.finds x w name) a c;
  claims = λ c name. on_side (λ w. m.claims w name) (λ w. n.claims w name) c;
  checks_out = λ a c name. same_side (λ x w. m.checks_out x w name) (λ x w. n.checks_out x w name) a c;
  brings = λ since c name bytes. on_side (λ w. m.brings since w name bytes) (λ w. n.brings since w name bytes) c;
  lacks = λ a commit. on_side (λ x. m.lacks x commit) (λ x. n.lacks x commit) a;
  outside = on_side m.outside n.outside;
  full = on_side m.full n.full;
}

abbrev pub either_doing : {S T W V A B : Type 0} → Doing S W A → Doing T V B → Doing (Either S T) (Either W V) (Either A B)
either_doing d e = record {
  begins = λ lane. on_side (d.begins lane) (e.begins lane);
  pursues = λ since. same_side (d.pursues since) (e.pursues since);
  answer = either_answer d.answer e.answer;
  left = side_value d.left e.left;
  hears = λ told. side_map (d.hears told) (e.hears told);
  heard = side_value d.heard e.heard;
  learns = λ refs ids pins. same_side (d.learns refs ids pins) (e.learns refs ids pins);
  asks = λ actor. side_value (d.asks actor) (e.asks actor);
  met = side_value d.met e.met;
  holds = λ lane t v b. on_side (λ x. d.holds lane x v b) (λ x. e.holds lane x v b) t;
  made = λ t name. on_side (λ x. d.made x name) (λ x. e.made x name) t;
}

abbrev pub either_tasks : {S T : Type 0} → TaskSpec S → TaskSpec T → TaskSpec (Either S T)
either_tasks k l = task_spec (either_kind k.kind l.kind) (either_writes k.writes l.writes) (either_stepped k.stepped l.stepped) (either_leaves k.leaves l.leaves) (either_refuses k.refuses l.refuses) (either_facts k.facts l.facts)

-- The laws of two families are those of both.
use Rattle.std.specs.Prelude.{◌≡◌, ℕ, Option, Some, None, IsSome, refl}
use Rattle.std.proofs.Common.{ap}
use Rattle.fs_trait.specs.View.{View}
use Rattle.rely_guarantee.specs.Books.{Books}
use Rattle.rely_guarantee.specs.declared.either.Either.{Either}
use Rattle.rely_guarantee.specs.declared.either.Either.TheVariants.{Left, Right}
use Rattle.command.specs.Doing.{Doing}
use Rattle.command.specs.Since.{Since}
use Rattle.command.specs.Meaning.{Meaning}
use Rattle.command.specs.Tasks.{TaskSpec}
use Rattle.command.specs.StepLaws.{StepLaws}
use Rattle.command.specs.LockLaws.{LockLaws}
use Rattle.command.specs.HearLaws.{HearLaws}
use Rattle.command.specs.LearnLaws.{LearnLaws}
use Rattle.command.specs.RemoveLaws.{RemoveLaws}
use Rattle.command.specs.BootLaws.{BootLaws, ChangesNoList, IsTaken}
use Rattle.command.specs.ChangeLaws.{ChangeLaws}
use Rattle.command.specs.AnswerLaws.{AnswerLaws}
use Rattle.command.specs.StoreLaws.{StoreLaws}
use Rattle.command.specs.FolderLaws.{FolderLaws}
use Rattle.command.specs.Laws.{CommandLaws}
use Rattle.command.specs.EitherMeaning.{either_means, either_doing, either_tasks, wrapped}

is_wrapped : {A B : Type 0} (f : A → B) (o : Option A) → IsSome o → IsSome (wrapped f o)
is_wrapped f None is = is
is_wrapped f (Some a) is = refl

from_left : {A B : Type 0} (o : Option A) (a : A) → wrapped {A = A} {B = Either A B} Left o ≡ Some (Left a) → o ≡ Some a
from_left None a is = cc
from_left (Some x) a is = cc

from_right : {A B : Type 0} (o : Option B) (b : B) → wrapped {A = B} {B = Either A B} Right o ≡ Some (Right b) → o ≡ Some b
from_right None b is = cc
from_right (Some x) b is = cc

not_right : {A B : Type 0} (o : Option A) (b : B) → wrapped {A = A} {B = Either A B} Left o ≡ Some (Right b) → ⊥
not_right None b is = cc
not_right (Some x) b is = cc

not_left : {A B : Type 0} (o : Option B) (a : A) → wrapped {A = B} {B = Either A B} Right o ≡ Some (Left a) → ⊥
not_left None a is = cc
not_left (Some x) a is = cc

-- what is known of a task of one of them
module _ {S T W V A B : Type 0} (k : TaskSpec S) (l : TaskSpec T) (d : Doing S W A) (e : Doing T V B) where
  taken_left : (since : Since) (c : W) (actor lane : ℕ) (t : S) (v : View) (b : Books) → IsTaken (either_tasks k l) (either_doing d e) since (Left c) actor lane (Left t) v b → IsTaken k d since c actor lane t v b
  taken_left since c actor lane t v b is = record { after = is.after; by = is.by; holds = is.holds; facts = is.facts }

  taken_right : (since : Since) (c : V) (actor lane : ℕ) (t : T) (v : View) (b : Books) → IsTaken (either_tasks k l) (either_doing d e) since (Right c) actor lane (Right t) v b → IsTaken l e since c actor lane t v b
  taken_right since c actor lane t v b is = record { after = is.after; by = is.by; holds = is.holds; facts = is.facts }

module _ {S T W V A B : Type 0} {k : TaskSpec S} {l : TaskSpec T} {d : Doing S W A} {e : Doing T V B} where
  steps_laws : StepLaws k d → StepLaws l e → StepLaws (either_tasks k l) (either_doing d e)
  steps_laws one two = record {
    begun = λ start entries pending lane. elim [ Left t ↦ one.begun start entries pending lane t | Right t ↦ two.begun start entries pending lane t ];
    quiet = λ lane. elim [ Left t ↦ one.quiet lane t | Right t ↦ two.quiet lane t ];
    stages = λ who actor lane. elim [ Left t ↦ one.stages who actor lane t | Right t ↦ two.stages who actor lane t ];
    goes_on = λ since. elim [ Left c ↦ elim [ Left t ↦ elim [ Left new ↦ one.goes_on since c t new | Right new ↦ λ after step. absurd step ] | Right t ↦ λ new after step. absurd after ] | Right c ↦ elim [ Left t ↦ λ new after step. absurd after | Right t ↦ elim [ Left new ↦ λ after step. absurd step | Right new ↦ two.goes_on since c t new ] ] ];
    falls = elim [ Left t ↦ elim [ Left new ↦ one.falls t new | Right new ↦ λ step. absurd step ] | Right t ↦ elim [ Left new ↦ λ step. absurd step | Right new ↦ two.falls t new ] ];
    refused = λ start entries pending lane. elim [ Left t ↦ one.refused start entries pending lane t | Right t ↦ two.refused start entries pending lane t ];
  }

  lock_laws : LockLaws k d → LockLaws l e → LockLaws (either_tasks k l) (either_doing d e)
  lock_laws one two = record {
    asks = λ since. elim [ Left c ↦ elim [ Left t ↦ one.asks since c t | Right t ↦ λ wants after is. absurd after ] | Right c ↦ elim [ Left t ↦ λ wants after is. absurd after | Right t ↦ two.asks since c t ] ];
    first = elim [ Left t ↦ elim [ Left new ↦ one.first t new | Right new ↦ λ step. absurd step ] | Right t ↦ elim [ Left new ↦ λ step. absurd step | Right new ↦ two.first t new ] ];
    heard = λ told. elim [ Left t ↦ one.heard told t | Right t ↦ two.heard told t ];
  }

  hear_laws : HearLaws k d → HearLaws l e → HearLaws (either_tasks k l) (either_doing d e)
  hear_laws one two = record {
    facts = λ told lane. elim [ Left t ↦ one.facts told lane t | Right t ↦ two.facts told lane t ];
    holds = λ told lane. elim [ Left t ↦ one.holds told lane t | Right t ↦ two.holds told lane t ];
    pursues = λ told since. elim [ Left c ↦ elim [ Left t ↦ one.pursues told since c t | Right t ↦ λ after. absurd after ] | Right c ↦ elim [ Left t ↦ λ after. absurd after | Right t ↦ two.pursues told since c t ] ];
    left = λ told. elim [ Left t ↦ one.left told t | Right t ↦ two.left told t ];
    made = λ told. elim [ Left t ↦ one.made told t | Right t ↦ two.made told t ];
    unmade = λ told. elim [ Left t ↦ one.unmade told t | Right t ↦ two.unmade told t ];
    back = λ told. elim [ Left t ↦ ap Left (one.back told t) | Right t ↦ ap Right (two.back told t) ];
  }

  learn_laws : LearnLaws k d → LearnLaws l e → LearnLaws (either_tasks k l) (either_doing d e)
  learn_laws one two = record {
    kind = λ refs ids pins. elim [ Left t ↦ elim [ Left new ↦ one.kind refs ids pins t new | Right new ↦ λ learns. absurd learns ] | Right t ↦ elim [ Left new ↦ λ learns. absurd learns | Right new ↦ two.kind refs ids pins t new ] ];
    pursues = λ refs ids pins since. elim [ Left c ↦ elim [ Left t ↦ elim [ Left new ↦ one.pursues refs ids pins since c t new | Right new ↦ λ learns. absurd learns ] | Right t ↦ λ new learns after. absurd after ] | Right c ↦ elim [ Left t ↦ λ new learns after. absurd after | Right t ↦ elim [ Left new ↦ λ learns. absurd learns | Right new ↦ two.pursues refs ids pins since c t new ] ] ];
    left = λ refs ids pins. elim [ Left t ↦ elim [ Left new ↦ one.left refs ids pins t new | Right new ↦ λ learns. absurd learns ] | Right t ↦ elim [ Left new ↦ λ learns. absurd learns | Right new ↦ two.left refs ids pins t new ] ];
    met = λ refs ids pins. elim [ Left t ↦ elim [ Left new ↦ one.met refs ids pins t new | Right new ↦ λ learns. absurd learns ] | Right t ↦ elim [ Left new ↦ λ learns. absurd learns | Right new ↦ two.met refs ids pins t new ] ];
    made = λ refs ids pins. elim [ Left t ↦ elim [ Left new ↦ one.made refs ids pins t new | Right new ↦ λ name learns. absurd learns ] | Right t ↦ elim [ Left new ↦ λ name learns. absurd learns | Right new ↦ two.made refs ids pins t new ] ];
    unmade = λ refs ids pins. elim [ Left t ↦ elim [ Left new ↦ one.unmade refs ids pins t new | Right new ↦ λ name learns. absurd learns ] | Right t ↦ elim [ Left new ↦ λ name learns. absurd learns | Right new ↦ two.unmade refs ids pins t new ] ];
    facts = λ start entries pending refs ids pins lane. elim [ Left t ↦ elim [ Left new ↦ one.facts start entries pending refs ids pins lane t new | Right new ↦ λ v b is learns. absurd learns ] | Right t ↦ elim [ Left new ↦ λ v b is learns. absurd learns | Right new ↦ two.facts start entries pending refs ids pins lane t new ] ];
  }

  boot_laws : BootLaws k d → BootLaws l e → BootLaws (either_tasks k l) (either_doing d e)
  boot_laws one two = record {
    list = λ since. elim [
      | Left c ↦ λ actor lane. elim [ Left t ↦ λ v b base rows p s taken. one.list since c actor lane t v b base rows p s (taken_left k l d e since c actor lane t v b taken) | Right t ↦ λ v b base rows p s taken. absurd taken.after ]
      | Right c ↦ λ actor lane. elim [ Left t ↦ λ v b base rows p s taken. absurd taken.after | Right t ↦ λ v b base rows p s taken. two.list since c actor lane t v b base rows p s (taken_right k l d e since c actor lane t v b taken) ]
    ];
    deployments = λ since. elim [
      | Left c ↦ λ actor lane. elim [ Left t ↦ λ v b base rows row p s taken. one.deployments since c actor lane t v b base rows row p s (taken_left k l d e since c actor lane t v b taken) | Right t ↦ λ v b base rows row p s taken. absurd taken.after ]
      | Right c ↦ λ actor lane. elim [ Left t ↦ λ v b base rows row p s taken. absurd taken.after | Right t ↦ λ v b base rows row p s taken. two.deployments since c actor lane t v b base rows row p s (taken_right k l d e since c actor lane t v b taken) ]
    ];
    publishes = λ since. elim [
      | Left c ↦ λ lane. elim [ Left t ↦ λ v w b event rows kind some taken. one.publishes since c lane t v w b event rows kind some (taken_left k l d e since c lane lane t v b taken) | Right t ↦ λ v w b event rows kind some taken. absurd taken.after ]
      | Right c ↦ λ lane. elim [ Left t ↦ λ v w b event rows kind some taken. absurd taken.after | Right t ↦ λ v w b event rows kind some taken. two.publishes since c lane t v w b event rows kind some (taken_right k l d e since c lane lane t v b taken) ]
    ];
    settles = λ since. elim [
      | Left c ↦ λ lane. elim [
        | Left t ↦ elim [ Left new ↦ λ v w b event link old come before after kind is taken. one.settles since c lane t new v w b event link old come before after kind is (taken_left k l d e since c lane lane t v b taken) | Right new ↦ λ v w b event link old come before after kind is taken wrote leaves. absurd leaves ]
        | Right t ↦ λ new v w b event link old come before after kind is taken. absurd taken.after
      ]
      | Right c ↦ λ lane. elim [
        | Left t ↦ λ new v w b event link old come before after kind is taken. absurd taken.after
        | Right t ↦ elim [ Left new ↦ λ v w b event link old come before after kind is taken wrote leaves. absurd leaves | Right new ↦ λ v w b event link old come before after kind is taken. two.settles since c lane t new v w b event link old come before after kind is (taken_right k l d e since c lane lane t v b taken) ]
      ]
    ];
  }

module _ {S T : Type 0} {k : TaskSpec S} {l : TaskSpec T} where
  remove_laws : RemoveLaws k → RemoveLaws l → RemoveLaws (either_tasks k l)
  remove_laws one two = record {
    removes = λ actor lane. elim [ Left t ↦ one.removes actor lane t | Right t ↦ two.removes actor lane t ];
    takes = λ lane. elim [ Left t ↦ elim [ Left new ↦ one.takes lane t new | Right new ↦ λ v w b e owed o f is leaves. absurd leaves ] | Right t ↦ elim [ Left new ↦ λ v w b e owed o f is leaves. absurd leaves | Right new ↦ two.takes lane t new ] ];
    ends = λ lane. elim [ Left t ↦ elim [ Left new ↦ one.ends lane t new | Right new ↦ λ v w b e f is prune leaves. absurd leaves ] | Right t ↦ elim [ Left new ↦ λ v w b e f is prune leaves. absurd leaves | Right new ↦ two.ends lane t new ] ];
  }

pub either_no_list : {W V A B : Type 0} (m : Meaning W A) (n : Meaning V B) → ChangesNoList m → ChangesNoList n → ChangesNoList (either_means m n)
either_no_list m n one two since = elim [ Left c ↦ one since c | Right c ↦ two since c ]

module _ {S T W V A B : Type 0} {k : TaskSpec S} {l : TaskSpec T} {m : Meaning W A} {n : Meaning V B} {d : Doing S W A} {e : Doing T V B} where
  change_laws : ChangeLaws k m d → ChangeLaws l n e → ChangeLaws (either_tasks k l) (either_means m n) (either_doing d e)
  change_laws one two = record {
    shown = λ since. elim [ Left c ↦ elim [ Left t ↦ one.shown since c t | Right t ↦ λ event after is. absurd after ] | Right c ↦ elim [ Left t ↦ λ event after is. absurd after | Right t ↦ two.shown since c t ] ];
    settled = λ since. elim [ Left c ↦ elim [ Left t ↦ one.settled since c t | Right t ↦ λ event after is. absurd after ] | Right c ↦ elim [ Left t ↦ λ event after is. absurd after | Right t ↦ two.settled since c t ] ];
    founds = λ lane. elim [ Left t ↦ one.founds lane t | Right t ↦ two.founds lane t ];
    makes = λ since. elim [ Left c ↦ elim [ Left t ↦ elim [ Left new ↦ elim [ Left a ↦ λ after step is settles. one.makes since c t new a after step (from_left (d.answer new) a is) settles | Right a ↦ λ after step is settles. absurd (not_right (d.answer new) a is) ] | Right new ↦ λ a after step is settles. absurd step ] | Right t ↦ λ new a after step is settles. absurd after ] | Right c ↦ elim [ Left t ↦ λ new a after step is settles. absurd after | Right t ↦ elim [ Left new ↦ λ a after step is settles. absurd step | Right new ↦ elim [ Left a ↦ λ after step is settles. absurd (not_left (e.answer new) a is) | Right a ↦ λ after step is settles. two.makes since c t new a after step (from_right (e.answer new) a is) settles ] ] ] ];
    makes_not = λ since. elim [ Left c ↦ elim [ Left t ↦ elim [ Left new ↦ elim [ Left a ↦ λ after step is. one.makes_not since c t new a after step (from_left (d.answer new) a is) | Right a ↦ λ after step is. absurd (not_right (d.answer new) a is) ] | Right new ↦ λ a after step is. absurd step ] | Right t ↦ λ new a after step is. absurd after ] | Right c ↦ elim [ Left t ↦ λ new a after step is. absurd after | Right t ↦ elim [ Left new ↦ λ a after step is. absurd step | Right new ↦ elim [ Left a ↦ λ after step is. absurd (not_left (e.answer new) a is) | Right a ↦ λ after step is. two.makes_not since c t new a after step (from_right (e.answer new) a is) ] ] ] ];
    tells = λ since. elim [ Left c ↦ elim [ Left t ↦ elim [ Left new ↦ elim [ Left a ↦ λ event after step is. one.tells since c t new a event after step (from_left (d.answer new) a is) | Right a ↦ λ event after step is. absurd (not_right (d.answer new) a is) ] | Right new ↦ λ a event after step is. absurd step ] | Right t ↦ λ new a event after step is. absurd after ] | Right c ↦ elim [ Left t ↦ λ new a event after step is. absurd after | Right t ↦ elim [ Left new ↦ λ a event after step is. absurd step | Right new ↦ elim [ Left a ↦ λ event after step is. absurd (not_left (e.answer new) a is) | Right a ↦ λ event after step is. two.tells since c t new a event after step (from_right (e.answer new) a is) ] ] ] ];
    kept = λ since opening lane. elim [ Left c ↦ elim [ Left t ↦ elim [ Left new ↦ one.kept since opening lane c t new | Right new ↦ λ v w b right after f leaves settles. absurd leaves ] | Right t ↦ λ new v w b right after f leaves settles. absurd after ] | Right c ↦ elim [ Left t ↦ λ new v w b right after f leaves settles. absurd after | Right t ↦ elim [ Left new ↦ λ v w b right after f leaves settles. absurd leaves | Right new ↦ two.kept since opening lane c t new ] ] ];
    keeps = λ since opening out removed. elim [ Left c ↦ one.keeps since opening out removed c | Right c ↦ two.keeps since opening out removed c ];
    keeps_on = λ since opening out removed. elim [ Left c ↦ one.keeps_on since opening out removed c | Right c ↦ two.keeps_on since opening out removed c ];
    keeps_wider = λ since opening out more. elim [ Left c ↦ one.keeps_wider since opening out more c | Right c ↦ two.keeps_wider since opening out more c ];
    keeps_on_wider = λ since opening out more. elim [ Left c ↦ one.keeps_on_wider since opening out more c | Right c ↦ two.keeps_on_wider since opening out more c ];
  }

  answer_laws : AnswerLaws k m d → AnswerLaws l n e → AnswerLaws (either_tasks k l) (either_means m n) (either_doing d e)
  answer_laws one two = record {
    answers = λ since. elim [ Left c ↦ elim [ Left t ↦ elim [ Left new ↦ λ after step. is_wrapped Left (d.answer new) (one.answers since c t new after step) | Right new ↦ λ after step. absurd step ] | Right t ↦ λ new after step. absurd after ] | Right c ↦ elim [ Left t ↦ λ new after step. absurd after | Right t ↦ elim [ Left new ↦ λ after step. absurd step | Right new ↦ λ after step. is_wrapped Right (e.answer new) (two.answers since c t new after step) ] ] ];
    says = λ since p. elim [ Left c ↦ elim [ Left t ↦ elim [ Left new ↦ elim [ Left a ↦ λ after step is. one.says since p c t new a after step (from_left (d.answer new) a is) | Right a ↦ λ after step is. absurd (not_right (d.answer new) a is) ] | Right new ↦ λ a after step is. absurd step ] | Right t ↦ λ new a after step is. absurd after ] | Right c ↦ elim [ Left t ↦ λ new a after step is. absurd after | Right t ↦ elim [ Left new ↦ λ a after step is. absurd step | Right new ↦ elim [ Left a ↦ λ after step is. absurd (not_left (e.answer new) a is) | Right a ↦ λ after step is. two.says since p c t new a after step (from_right (e.answer new) a is) ] ] ] ];
    shows = λ since p lane. elim [ Left c ↦ elim [ Left t ↦ elim [ Left new ↦ λ v w b. elim [ Left a ↦ λ listed after f leaves is. one.shows since p lane c t new v w b a listed after f leaves (from_left (d.answer new) a is) | Right a ↦ λ listed after f leaves is. absurd (not_right (d.answer new) a is) ] | Right new ↦ λ v w b a listed after f leaves is. absurd leaves ] | Right t ↦ λ new v w b a listed after f leaves is. absurd after ] | Right c ↦ elim [ Left t ↦ λ new v w b a listed after f leaves is. absurd after | Right t ↦ elim [ Left new ↦ λ v w b a listed after f leaves is. absurd leaves | Right new ↦ λ v w b. elim [ Left a ↦ λ listed after f leaves is. absurd (not_left (e.answer new) a is) | Right a ↦ λ listed after f leaves is. two.shows since p lane c t new v w b a listed after f leaves (from_right (e.answer new) a is) ] ] ] ];
    remains = λ since p lane. elim [ Left c ↦ elim [ Left t ↦ elim [ Left new ↦ λ v w b. elim [ Left a ↦ λ listed after f leaves is. one.remains since p lane c t new v w b a listed after f leaves (from_left (d.answer new) a is) | Right a ↦ λ listed after f leaves is. absurd (not_right (d.answer new) a is) ] | Right new ↦ λ v w b a listed after f leaves is. absurd leaves ] | Right t ↦ λ new v w b a listed after f leaves is. absurd after ] | Right c ↦ elim [ Left t ↦ λ new v w b a listed after f leaves is. absurd after | Right t ↦ elim [ Left new ↦ λ v w b a listed after f leaves is. absurd leaves | Right new ↦ λ v w b. elim [ Left a ↦ λ listed after f leaves is. absurd (not_left (e.answer new) a is) | Right a ↦ λ listed after f leaves is. two.remains since p lane c t new v w b a listed after f leaves (from_right (e.answer new) a is) ] ] ] ];
    remains_at_once = λ since. elim [ Left c ↦ elim [ Left a ↦ one.remains_at_once since c a | Right a ↦ λ v is. absurd is.0 ] | Right c ↦ elim [ Left a ↦ λ v is. absurd is.0 | Right a ↦ two.remains_at_once since c a ] ];
    knows = λ since p lane. elim [ Left c ↦ elim [ Left t ↦ elim [ Left new ↦ λ v w b. elim [ Left a ↦ λ after f leaves is sees. one.knows since p lane c t new v w b a after f leaves (from_left (d.answer new) a is) sees | Right a ↦ λ after f leaves is sees. absurd (not_right (d.answer new) a is) ] | Right new ↦ λ v w b a after f leaves is sees. absurd leaves ] | Right t ↦ λ new v w b a after f leaves is sees. absurd after ] | Right c ↦ elim [ Left t ↦ λ new v w b a after f leaves is sees. absurd after | Right t ↦ elim [ Left new ↦ λ v w b a after f leaves is sees. absurd leaves | Right new ↦ λ v w b. elim [ Left a ↦ λ after f leaves is sees. absurd (not_left (e.answer new) a is) | Right a ↦ λ after f leaves is sees. two.knows since p lane c t new v w b a after f leaves (from_right (e.answer new) a is) sees ] ] ] ];
    lacks_alone = λ since lane. elim [ Left c ↦ elim [ Left t ↦ elim [ Left new ↦ λ v w b. elim [ Left a ↦ λ commit after f leaves is. one.lacks_alone since lane c t new v w b a commit after f leaves (from_left (d.answer new) a is) | Right a ↦ λ commit after f leaves is. absurd (not_right (d.answer new) a is) ] | Right new ↦ λ v w b a commit after f leaves is. absurd leaves ] | Right t ↦ λ new v w b a commit after f leaves is. absurd after ] | Right c ↦ elim [ Left t ↦ λ new v w b a commit after f leaves is. absurd after | Right t ↦ elim [ Left new ↦ λ v w b a commit after f leaves is. absurd leaves | Right new ↦ λ v w b. elim [ Left a ↦ λ commit after f leaves is. absurd (not_left (e.answer new) a is) | Right a ↦ λ commit after f leaves is. two.lacks_alone since lane c t new v w b a commit after f leaves (from_right (e.answer new) a is) ] ] ] ];
    lacks = λ since v. elim [ Left a ↦ elim [ Left c ↦ one.lacks since v a c | Right c ↦ λ commit files shown. absurd shown ] | Right a ↦ elim [ Left c ↦ λ commit files shown. absurd shown | Right c ↦ two.lacks since v a c ] ];
    outside = λ since v. elim [ Left a ↦ elim [ Left c ↦ one.outside since v a c | Right c ↦ λ good shown. absurd shown ] | Right a ↦ elim [ Left c ↦ λ good shown. absurd shown | Right c ↦ two.outside since v a c ] ];
    full = λ told since. elim [ Left c ↦ elim [ Left t ↦ elim [ Left new ↦ elim [ Left a ↦ λ after step is full. one.full told since c t new a after step (from_left (d.answer new) a is) full | Right a ↦ λ after step is full. absurd (not_right (d.answer new) a is) ] | Right new ↦ λ a after step is full. absurd step ] | Right t ↦ λ new a after step is full. absurd after ] | Right c ↦ elim [ Left t ↦ λ new a after step is full. absurd after | Right t ↦ elim [ Left new ↦ λ a after step is full. absurd step | Right new ↦ elim [ Left a ↦ λ after step is full. absurd (not_left (e.answer new) a is) | Right a ↦ λ after step is full. two.full told since c t new a after step (from_right (e.answer new) a is) full ] ] ] ];
    left = λ since actor lane. elim [ Left c ↦ elim [ Left t ↦ elim [ Left new ↦ λ v w b b'. elim [ Left a ↦ λ after f leaves is does gone. one.left since actor lane c t new v w b b' a after f leaves (from_left (d.answer new) a is) does gone | Right a ↦ λ after f leaves is does gone. absurd (not_right (d.answer new) a is) ] | Right new ↦ λ v w b b' a after f leaves is does gone. absurd leaves ] | Right t ↦ λ new v w b b' a after f leaves is does gone. absurd after ] | Right c ↦ elim [ Left t ↦ λ new v w b b' a after f leaves is does gone. absurd after | Right t ↦ elim [ Left new ↦ λ v w b b' a after f leaves is does gone. absurd leaves | Right new ↦ λ v w b b'. elim [ Left a ↦ λ after f leaves is does gone. absurd (not_left (e.answer new) a is) | Right a ↦ λ after f leaves is does gone. two.left since actor lane c t new v w b b' a after f leaves (from_right (e.answer new) a is) does gone ] ] ] ];
    stays = λ since actor lane out removed. elim [ Left a ↦ elim [ Left c ↦ one.stays since actor lane out removed a c | Right c ↦ λ v w b b' does only is. absurd is ] | Right a ↦ elim [ Left c ↦ λ v w b b' does only is. absurd is | Right c ↦ two.stays since actor lane out removed a c ] ];
    stays_wider = λ since out more. elim [ Left a ↦ elim [ Left c ↦ one.stays_wider since out more a c | Right c ↦ λ v b among is. absurd is ] | Right a ↦ elim [ Left c ↦ λ v b among is. absurd is | Right c ↦ two.stays_wider since out more a c ] ];
  }

  store_laws : StoreLaws k m d → StoreLaws l n e → StoreLaws (either_tasks k l) (either_means m n) (either_doing d e)
  store_laws one two = record {
    holds = λ lane. elim [ Left t ↦ one.holds lane t | Right t ↦ two.holds lane t ];
    works = λ since. elim [ Left c ↦ elim [ Left t ↦ one.works since c t | Right t ↦ λ wants name after take pin. absurd after ] | Right c ↦ elim [ Left t ↦ λ wants name after take pin. absurd after | Right t ↦ two.works since c t ] ];
    reaches = λ since lane. elim [ Left c ↦ elim [ Left t ↦ one.reaches since lane c t | Right t ↦ λ v b wants name after f take pin. absurd after ] | Right c ↦ elim [ Left t ↦ λ v b wants name after f take pin. absurd after | Right t ↦ two.reaches since lane c t ] ];
    brings = λ since actor lane. elim [ Left c ↦ elim [ Left t ↦ one.brings since actor lane c t | Right t ↦ λ v b name s bytes after f sum writes holds. absurd after ] | Right c ↦ elim [ Left t ↦ λ v b name s bytes after f sum writes holds. absurd after | Right t ↦ two.brings since actor lane c t ] ];
    room = λ told since actor lane. elim [ Left c ↦ elim [ Left t ↦ one.room told since actor lane c t | Right t ↦ λ v b name s after f sum writes. absurd after ] | Right c ↦ elim [ Left t ↦ λ v b name s after f sum writes. absurd after | Right t ↦ two.room told since actor lane c t ] ];
    stored = λ actor lane. elim [ Left t ↦ elim [ Left new ↦ one.stored actor lane t new | Right new ↦ λ v w b name s f leaves sum writes. absurd leaves ] | Right t ↦ elim [ Left new ↦ λ v w b name s f leaves sum writes. absurd leaves | Right new ↦ two.stored actor lane t new ] ];
    done = λ actor lane. elim [ Left t ↦ elim [ Left new ↦ one.done actor lane t new | Right new ↦ λ v w b name s f leaves sum writes. absurd leaves ] | Right t ↦ elim [ Left new ↦ λ v w b name s f leaves sum writes. absurd leaves | Right new ↦ two.done actor lane t new ] ];
    lacked = λ told since. elim [ Left c ↦ elim [ Left t ↦ elim [ Left new ↦ one.lacked told since c t new | Right new ↦ λ v w name after leaves met. absurd leaves ] | Right t ↦ λ new v w name after leaves met. absurd after ] | Right c ↦ elim [ Left t ↦ λ new v w name after leaves met. absurd after | Right t ↦ elim [ Left new ↦ λ v w name after leaves met. absurd leaves | Right new ↦ two.lacked told since c t new ] ] ];
    there = λ lane. elim [ Left t ↦ one.there lane t | Right t ↦ two.there lane t ];
    keeps = λ since actor lane. elim [ Left c ↦ elim [ Left t ↦ one.keeps since actor lane c t | Right t ↦ λ v b after f. absurd after ] | Right c ↦ elim [ Left t ↦ λ v b after f. absurd after | Right t ↦ two.keeps since actor lane c t ] ];
  }

  folder_laws : FolderLaws k m d → FolderLaws l n e → FolderLaws (either_tasks k l) (either_means m n) (either_doing d e)
  folder_laws one two = record {
    claims = λ actor lane. elim [ Left t ↦ one.claims actor lane t | Right t ↦ two.claims actor lane t ];
    claimed = λ since. elim [ Left c ↦ elim [ Left t ↦ one.claimed since c t | Right t ↦ λ name after is. absurd after ] | Right c ↦ elim [ Left t ↦ λ name after is. absurd after | Right t ↦ two.claimed since c t ] ];
    finds = λ since lane. elim [ Left c ↦ elim [ Left t ↦ elim [ Left new ↦ λ v w b. elim [ Left a ↦ λ name after f leaves is. one.finds since lane c t new v w b a name after f leaves (from_left (d.answer new) a is) | Right a ↦ λ name after f leaves is. absurd (not_right (d.answer new) a is) ] | Right new ↦ λ v w b a name after f leaves. absurd leaves ] | Right t ↦ λ new v w b a name after. absurd after ] | Right c ↦ elim [ Left t ↦ λ new v w b a name after. absurd after | Right t ↦ elim [ Left new ↦ λ v w b a name after f leaves. absurd leaves | Right new ↦ λ v w b. elim [ Left a ↦ λ name after f leaves is. absurd (not_left (e.answer new) a is) | Right a ↦ λ name after f leaves is. two.finds since lane c t new v w b a name after f leaves (from_right (e.answer new) a is) ] ] ] ];
    made = elim [ Left t ↦ elim [ Left new ↦ one.made t new | Right new ↦ λ v w name leaves is. absurd leaves ] | Right t ↦ elim [ Left new ↦ λ v w name leaves is. absurd leaves | Right new ↦ two.made t new ] ];
    goes_on = elim [ Left t ↦ elim [ Left new ↦ one.goes_on t new | Right new ↦ λ v w name leaves made. absurd leaves ] | Right t ↦ elim [ Left new ↦ λ v w name leaves made. absurd leaves | Right new ↦ two.goes_on t new ] ];
    begun = λ lane. elim [ Left t ↦ one.begun lane t | Right t ↦ two.begun lane t ];
    by_claim = elim [ Left t ↦ elim [ Left new ↦ one.by_claim t new | Right new ↦ λ v w name leaves made. absurd leaves ] | Right t ↦ elim [ Left new ↦ λ v w name leaves made. absurd leaves | Right new ↦ two.by_claim t new ] ];
    ends = λ since lane. elim [ Left c ↦ elim [ Left t ↦ elim [ Left new ↦ λ v w b. elim [ Left a ↦ λ name after f leaves is. one.ends since lane c t new v w b a name after f leaves (from_left (d.answer new) a is) | Right a ↦ λ name after f leaves is. absurd (not_right (d.answer new) a is) ] | Right new ↦ λ v w b a name after f leaves. absurd leaves ] | Right t ↦ λ new v w b a name after. absurd after ] | Right c ↦ elim [ Left t ↦ λ new v w b a name after. absurd after | Right t ↦ elim [ Left new ↦ λ v w b a name after f leaves. absurd leaves | Right new ↦ λ v w b. elim [ Left a ↦ λ name after f leaves is. absurd (not_left (e.answer new) a is) | Right a ↦ λ name after f leaves is. two.ends since lane c t new v w b a name after f leaves (from_right (e.answer new) a is) ] ] ] ];
    late = λ since. elim [ Left c ↦ elim [ Left a ↦ λ name is. one.late since c a name is | Right a ↦ λ name is made. absurd made ] | Right c ↦ elim [ Left a ↦ λ name is made. absurd made | Right a ↦ λ name is. two.late since c a name is ] ];
  }

  pub either_command_laws : CommandLaws k m d → CommandLaws l n e → CommandLaws (either_tasks k l) (either_means m n) (either_doing d e)
  either_command_laws one two = record {
    steps = steps_laws one.steps two.steps;
    locks = lock_laws one.locks two.locks;
    hears = hear_laws one.hears two.hears;
    learns = learn_laws one.learns two.learns;
    changes = change_laws one.changes two.changes;
    answers = answer_laws one.answers two.answers;
    store = store_laws one.store two.store;
    removes = remove_laws one.removes two.removes;
    boots = boot_laws one.boots two.boots;
    folders = folder_laws one.folders two.folders;
  }

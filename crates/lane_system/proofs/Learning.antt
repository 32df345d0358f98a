-- A task that is told something behind each step that goes on: its laws are those of its family.
use Rattle.std.proofs.Common.{◌≡◌, ◌⊎◌, ℕ, sym, ◌∙◌, subst, arith, Some}
use Rattle.fs_trait.specs.View.{View}
use Rattle.obj_store.specs.declared.phase.Put.TheVariants.{Stored}
use Rattle.rely_guarantee.specs.Books.{Books}
use Rattle.command.specs.AnswerLaws.{AnswerLaws}
use Rattle.command.specs.ChangeLaws.{ChangeLaws}
use Rattle.command.specs.Doing.{Doing}
use Rattle.command.specs.FolderLaws.{FolderLaws}
use Rattle.command.specs.HearLaws.{HearLaws}
use Rattle.command.specs.Laws.{CommandLaws}
use Rattle.command.specs.LearnLaws.{LearnLaws}
use Rattle.command.specs.LockLaws.{AsksList, LockLaws}
use Rattle.command.specs.Meaning.{Meaning}
use Rattle.command.specs.RemoveLaws.{RemoveLaws}
use Rattle.command.specs.BootLaws.{BootLaws, IsTaken}
use Rattle.command.specs.Since.{Since}
use Rattle.command.specs.StepLaws.{StepLaws}
use Rattle.command.specs.StoreLaws.{StoreLaws}
use Rattle.command.specs.Tasks.{TaskSpec}
use Rattle.lane_system.specs.Family.{learning}

module _ {T W A : Type 0} (k : TaskSpec T) (m : Meaning W A) (d : Doing T W A) (laws : CommandLaws k m d) where
  learns : LearnLaws k d
  learns = laws.learns

  steps_on : StepLaws (learning k d) d
  steps_on = (let l = laws.steps in record {
    begun = l.begun;
    quiet = l.quiet;
    stages = l.stages;
    goes_on = λ since c t new after step. learns.pursues step.2.0 step.2.1 step.2.2 since c step.0 new step.2.3 (l.goes_on since c t step.0 after step.1);
    falls = λ t new step. omega (arith, l.falls t step.0 step.1, learns.left step.2.0 step.2.1 step.2.2 step.0 new step.2.3);
    refused = l.refused;
  })

  locks_on : LockLaws (learning k d) d
  locks_on = (let l = laws.locks in record {
    asks = l.asks;
    first = λ t new step asks. l.first t step.0 step.1 (subst AsksList (learns.kind step.2.0 step.2.1 step.2.2 step.0 new step.2.3) asks);
    heard = l.heard;
  })

  hears_on : HearLaws (learning k d) d
  hears_on = (let l = laws.hears in record { facts = l.facts; holds = l.holds; pursues = l.pursues; left = l.left; made = l.made; unmade = l.unmade; back = l.back })

  learns_on : LearnLaws (learning k d) d
  learns_on = (let l = laws.learns in record { kind = l.kind; pursues = l.pursues; left = l.left; met = l.met; made = l.made; unmade = l.unmade; facts = l.facts })

  changes_on : ChangeLaws (learning k d) m d
  changes_on = (let l = laws.changes in record {
    shown = l.shown;
    settled = l.settled;
    founds = l.founds;
    makes = l.makes;
    makes_not = l.makes_not;
    tells = l.tells;
    kept = l.kept;
    keeps = l.keeps;
    keeps_on = l.keeps_on;
    keeps_wider = l.keeps_wider;
    keeps_on_wider = l.keeps_on_wider;
  })

  answers_on : AnswerLaws (learning k d) m d
  answers_on = (let l = laws.answers in record {
    answers = l.answers;
    says = l.says;
    shows = l.shows;
    remains = l.remains;
    remains_at_once = l.remains_at_once;
    knows = l.knows;
    lacks_alone = l.lacks_alone;
    lacks = l.lacks;
    outside = l.outside;
    full = l.full;
    left = l.left;
    stays = l.stays;
    stays_wider = l.stays_wider;
  })

  store_on : StoreLaws (learning k d) m d
  store_on = (let l = laws.store in record {
    holds = l.holds;
    works = l.works;
    reaches = l.reaches;
    brings = l.brings;
    room = l.room;
    stored = λ actor lane t new v w b name s f leaves sum writes some. subst (λ x. (w ≡ v) ⊎ (x ≡ Some (name, Stored))) (sym (learns.met leaves.2.0 leaves.2.1 leaves.2.2 leaves.0 new leaves.2.3)) (l.stored actor lane t leaves.0 v w b name s f leaves.1 sum writes some);
    done = l.done;
    lacked = λ told since c t new v w name after leaves met. l.lacked told since c t leaves.0 v w name after leaves.1 (sym (learns.met leaves.2.0 leaves.2.1 leaves.2.2 leaves.0 new leaves.2.3) ∙ met);
    there = l.there;
    keeps = l.keeps;
  })

  removes_on : RemoveLaws (learning k d)
  removes_on = (let l = laws.removes in record {
    removes = l.removes;
    takes = λ lane t new v w b e owed o f is leaves has. l.takes lane t leaves.0 v w b e owed o f is leaves.1 has;
    ends = l.ends;
  })

  taken_on : (since : Since) (c : W) (actor lane : ℕ) (t : T) (v : View) (b : Books) → IsTaken (learning k d) d since c actor lane t v b → IsTaken k d since c actor lane t v b
  taken_on since c actor lane t v b is = record { after = is.after; by = is.by; holds = is.holds; facts = is.facts }

  boots_on : BootLaws (learning k d) d
  boots_on = (let l = laws.boots in record {
    list = λ since c actor lane t v b base rows p s taken. l.list since c actor lane t v b base rows p s (taken_on since c actor lane t v b taken);
    deployments = λ since c actor lane t v b base rows row p s taken. l.deployments since c actor lane t v b base rows row p s (taken_on since c actor lane t v b taken);
    publishes = λ since c lane t v w b e rows kind some taken. l.publishes since c lane t v w b e rows kind some (taken_on since c lane lane t v b taken);
    settles = λ since c lane t new v w b e link old come before after kind is taken. l.settles since c lane t new v w b e link old come before after kind is (taken_on since c lane lane t v b taken);
  })

  folders_on : FolderLaws (learning k d) m d
  folders_on = (let l = laws.folders in record {
    claims = l.claims;
    claimed = l.claimed;
    finds = l.finds;
    made = λ t new v w name leaves is. learns.made leaves.2.0 leaves.2.1 leaves.2.2 leaves.0 new name leaves.2.3 (l.made t leaves.0 v w name leaves.1 is);
    goes_on = λ t new v w name leaves made. learns.made leaves.2.0 leaves.2.1 leaves.2.2 leaves.0 new name leaves.2.3 (l.goes_on t leaves.0 v w name leaves.1 made);
    begun = l.begun;
    by_claim = λ t new v w name leaves made. l.by_claim t leaves.0 v w name leaves.1 (learns.unmade leaves.2.0 leaves.2.1 leaves.2.2 leaves.0 new name leaves.2.3 made);
    ends = l.ends;
    late = l.late;
  })

  pub laws_on : CommandLaws (learning k d) m d
  laws_on = record { steps = steps_on; locks = locks_on; hears = hears_on; learns = learns_on; changes = changes_on; answers = answers_on; store = store_on; removes = removes_on; boots = boots_on; folders = folders_on }

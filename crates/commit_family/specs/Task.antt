-- A step of the task of a commit, and its laws.
use Rattle.std.specs.Prelude.{ℕ}
use Rattle.ost_types.specs.Path.{Path}
use Rattle.fs_trait.specs.declared.task.StepResult.{StepResult}
use Rattle.fs_trait.specs.declared.task.StepResult.TheVariants as turn
use Rattle.fs_trait.specs.Seen.{Seen}
use Rattle.fs_trait.specs.View.{View}
use Rattle.rely_guarantee.specs.Books.{Books}
use Rattle.rely_guarantee.specs.Laws.{Kind, Laws}
use Rattle.rely_guarantee.specs.Along.{laws_along}
use Rattle.commit_build.specs.Committing.{IsMade}
use Rattle.commit_command.specs.Facts.{commit_facts}
use Rattle.commit_command.specs.Kinds.{commit_kind, commit_leaves, commit_needs, commit_stepped, commit_writes}
use Rattle.commit_command.specs.Laws.{commit_laws}
use Rattle.commit_family.specs.declared.task.CommitsTask.{CommitsTask}

-- a step of the commit, which leaves its build as builds are kept
abbrev pub commits_stepped : CommitsTask → StepResult (Unit {0}) → CommitsTask → Type 0
commits_stepped t u new = commit_stepped t.work u new.work × IsMade new.work.build

-- what is a law where less is known of a step is one where more is
narrower : {T : Type 0} {k : T → Kind} {n : ℕ → T → View → Type 0} {w : ℕ → T → View → Path → Seen → Type 0} {s more : T → StepResult (Unit {0}) → T → Type 0} {l : T → StepResult (Unit {0}) → T → View → View → Type 0} {f : ℕ → T → View → Books → Type 0}
    → ((t : T) (u : StepResult (Unit {0})) (new : T) → more t u new → s t u new) → Laws k n w s l f → Laws k n w more l f
narrower less laws = record {
  ready = laws.ready;
  kept = laws.kept;
  gains = laws.gains;
  duty = laws.duty;
  chain = λ t new step. laws.chain t new (less t turn.More new step);
  last = λ t new step. laws.last t new (less t (turn.Done tt) new step);
  next = laws.next;
  claims = λ lane t new v w b name is step. laws.claims lane t new v w b name is (less t turn.More new step);
}

pub commits_laws : Laws (λ (t : CommitsTask). commit_kind t.work) (λ actor t. commit_needs actor t.work) (λ actor t. commit_writes actor t.work) commits_stepped (λ t u new. commit_leaves t.work u new.work) (λ lane t. commit_facts lane t.work)
commits_laws = narrower (λ t u new step. step.0) (laws_along (λ (t : CommitsTask). t.work) commit_laws)

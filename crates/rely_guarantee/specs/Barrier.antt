-- A sync of all as a task, and its laws.
use Rattle.std.specs.Prelude.{◌≡◌, ℕ}
use Rattle.ost_types.specs.Path.{Path}
use Rattle.fs_trait.specs.declared.task.StepResult.{StepResult}
use Rattle.fs_trait.specs.declared.task.StepResult.TheVariants as turn
use Rattle.fs_trait.specs.declared.types.FsErr.{FsErr}
use Rattle.fs_trait.specs.Effect.{OfNone}
use Rattle.fs_trait.specs.View.{View, all_synced}
use Rattle.fs_trait.specs.Seen.{Seen}
use Rattle.fs_trait.specs.Change.{Nothing}
use Rattle.rely_guarantee.specs.declared.barrier.Barrier.{Barrier}
use Rattle.rely_guarantee.specs.Books.{Books}
use Rattle.rely_guarantee.specs.Laws.{Kind, Quiet, Laws}

abbrev pub barrier_kind : Barrier → Kind
barrier_kind t = Quiet

abbrev pub barrier_needs : ℕ → Barrier → View → Type 0
barrier_needs actor t v = Unit {0}

abbrev pub barrier_writes : ℕ → Barrier → View → Path → Seen → Type 0
barrier_writes actor t v = Nothing

-- it is done after its one step
abbrev pub barrier_stepped : Barrier → StepResult (Unit {0}) → Barrier → Type 0
barrier_stepped t turn.More new = ⊥
barrier_stepped t (turn.Done x) new = Unit {0}

abbrev pub barrier_leaves : Barrier → StepResult (Unit {0}) → Barrier → View → View → Type 0
barrier_leaves t turn.More new v w = ⊥
barrier_leaves t (turn.Done x) new v w = w ≡ all_synced v

abbrev pub barrier_refuses : Barrier → View → FsErr → Type 0
barrier_refuses t v = OfNone

abbrev pub barrier_facts : ℕ → Barrier → View → Books → Type 0
barrier_facts lane t v b = Unit {0}

pub barrier_laws : Laws barrier_kind barrier_needs barrier_writes barrier_stepped barrier_leaves barrier_facts
barrier_laws = record {
  ready = λ actor lane t v b by f. tt;
  kept = λ actor lane mine t v w b b' other not does holds f. tt;
  gains = λ lane t v b b' keeps same f. tt;
  duty = λ actor lane t new v b agrees by stood f. ((λ p s wrote. absurd wrote), (λ q s wrote. absurd wrote));
  chain = λ t new step. absurd step;
  last = λ t new step. tt;
  next = λ actor lane t new v w b b' stood f leaves keeps own. tt;
  claims = λ lane t new v w b name is step f leaves. absurd step;
}

-- The laws of a task that is seen as another one.
use Rattle.std.specs.Prelude.{ℕ}
use Rattle.ost_types.specs.Path.{Path}
use Rattle.fs_trait.specs.declared.task.StepResult.{StepResult}
use Rattle.fs_trait.specs.View.{View}
use Rattle.fs_trait.specs.Seen.{Seen}
use Rattle.rely_guarantee.specs.Books.{Books}
use Rattle.rely_guarantee.specs.Laws.{Kind, Laws}

-- laws of what a task is seen as are laws of the task
pub laws_along : {T P : Type 0} (f : T → P) {k : P → Kind} {n : ℕ → P → View → Type 0} {w : ℕ → P → View → Path → Seen → Type 0} {s : P → StepResult (Unit {0}) → P → Type 0} {l : P → StepResult (Unit {0}) → P → View → View → Type 0} {fs : ℕ → P → View → Books → Type 0}
    → Laws k n w s l fs → Laws (λ t. k (f t)) (λ actor t. n actor (f t)) (λ actor t. w actor (f t)) (λ t u new. s (f t) u (f new)) (λ t u new. l (f t) u (f new)) (λ lane t. fs lane (f t))
laws_along f laws = record {
  ready = λ actor lane t. laws.ready actor lane (f t);
  kept = λ actor lane mine t. laws.kept actor lane mine (f t);
  gains = λ lane t. laws.gains lane (f t);
  duty = λ actor lane t new. laws.duty actor lane (f t) (f new);
  chain = λ t new. laws.chain (f t) (f new);
  last = λ t new. laws.last (f t) (f new);
  next = λ actor lane t new. laws.next actor lane (f t) (f new);
  claims = λ lane t new. laws.claims lane (f t) (f new);
}

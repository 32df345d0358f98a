-- A task that reads and writes nothing: it takes so many steps, and may take the ref lock with the first.
use Rattle.std.proofs.Common.{◌≡◌, ◌<◌, ◌≤◌, ◌+◌, ℕ, Bool, true, false, sym, subst, None}
use Rattle.std.specs.Prelude.{◌==◌}
use Rattle.fs_trait.specs.declared.task.StepResult.{StepResult}
use Rattle.fs_trait.specs.declared.task.StepResult.TheVariants as turn
use Rattle.fs_trait.specs.Change.{Nothing}
use Rattle.fs_trait.specs.View.{View}
use Rattle.rely_guarantee.specs.declared.kind.Wants.{Wants}
use Rattle.rely_guarantee.specs.Books.{Books}
use Rattle.rely_guarantee.specs.Laws.{Chain, IsBefore, IsClaim, IsLastly, Kind, Laws, Quiet, StepObligation, Take}
use Rattle.lane_system_check.specs.declared.task.WaitTask.{WaitTask}

abbrev pub lock_wants : Wants
lock_wants = record { exclusive = false; turn = true; shared = false; sysroot = false; hold = None; pin = None }

abbrev pub kind_at : Bool → Bool → Kind
kind_at true true = Take lock_wants
kind_at holds begins = Quiet

abbrev pub wait_kind : WaitTask → Kind
wait_kind t = kind_at t.holds (t.taken == 0)

abbrev pub wait_stepped : WaitTask → StepResult (Unit {0}) → WaitTask → Type 0
wait_stepped t turn.More new = (t.taken < t.number) × (new ≡ record t { taken = t.taken + 1 })
wait_stepped t (turn.Done x) new = (t.number ≤ t.taken) × (new ≡ t)

abbrev pub wait_leaves : WaitTask → StepResult (Unit {0}) → WaitTask → View → View → Type 0
wait_leaves t u new v w = (w ≡ v) × wait_stepped t u new

before : (holds begins : Bool) → IsBefore (kind_at holds begins)
before true true = tt
before true false = tt
before false begins = tt

chained : (holds begins : Bool) (k : Kind) → IsBefore k → Chain (kind_at holds begins) k
chained true true k is = is
chained true false k is = is
chained false begins k is = is

lastly : (holds begins : Bool) → IsLastly (kind_at holds begins)
lastly true true = tt
lastly true false = tt
lastly false begins = tt

owes_nothing : (holds begins : Bool) (actor lane : ℕ) (v : View) (b : Books) (Done : View → Type 0) → StepObligation (kind_at holds begins) actor lane v b Nothing Done
owes_nothing true true actor lane v b Done = ((λ p s wrote. absurd wrote), (λ q s wrote. absurd wrote))
owes_nothing true false actor lane v b Done = ((λ p s wrote. absurd wrote), (λ q s wrote. absurd wrote))
owes_nothing false begins actor lane v b Done = ((λ p s wrote. absurd wrote), (λ q s wrote. absurd wrote))

pub no_claim : {P : Type 0} (holds begins : Bool) → IsClaim (kind_at holds begins) → P
no_claim true true is = absurd is
no_claim true false is = absurd is
no_claim false begins is = absurd is

pub wait_laws : Laws wait_kind (λ (actor : ℕ) (t : WaitTask) (v : View). Unit {0}) (λ (actor : ℕ) (t : WaitTask) (v : View). Nothing) wait_stepped wait_leaves (λ (lane : ℕ) (t : WaitTask) (v : View) (b : Books). Unit {0})
wait_laws = record {
  ready = λ actor lane t v b by f. tt;
  kept = λ actor lane mine t v w b b' other not does holds f. tt;
  gains = λ lane t v b b' keeps same f. tt;
  duty = λ actor lane t new v b agrees by stood f. owes_nothing t.holds (t.taken == 0) actor lane v b (wait_leaves t (turn.Done tt) new v);
  chain = λ t new step. chained t.holds (t.taken == 0) (wait_kind new) (before new.holds (new.taken == 0));
  last = λ t new step. lastly t.holds (t.taken == 0);
  next = λ actor lane t new v w b b' stood f leaves keeps own. tt;
  claims = λ lane t new v w b name is step f leaves. no_claim t.holds (t.taken == 0) (subst IsClaim (sym is) tt);
}

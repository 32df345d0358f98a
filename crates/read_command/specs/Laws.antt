-- The laws of the commands that read a commit.
use Rattle.std.proofs.Common.{ℕ, List, [], ◌∷◌, sym, subst}
use Rattle.fs_trait.specs.declared.task.StepResult.TheVariants as turn
use Rattle.fs_trait.specs.View.{View}
use Rattle.fs_trait.specs.Change.{Nothing}
use Rattle.repo_model.specs.Objects.{Stores}
use Rattle.rely_guarantee.specs.Books.{Books}
use Rattle.rely_guarantee.specs.Laws.{Kind, Laws, IsBefore, IsClaim, IsLastly, Chain, StepObligation}
use Rattle.script.specs.declared.rows.LogRow.{LogRow}
use Rattle.ref_command.specs.Pins.{others_pins}
use Rattle.read_command.specs.declared.command.ReadCommand.{ReadCommand}
use Rattle.read_command.specs.declared.command.ReadCommand.TheVariants.{Look, Cat, Ls, Log, Ended}
use Rattle.read_command.specs.Commands.{read_facts, read_kind, read_leaves, read_needs, read_stepped, read_writes}
use Rattle.read_command.specs.Founded.{IsFounded}
use Rattle.read_command.specs.Founding.{founded_kept, founded_next}
use Rattle.read_command.specs.Pinned.{are_pinned_on, pinned_next}
use Rattle.read_command.specs.Guarded.{knows_kept}
use Rattle.read_command.specs.LogSteps.{log_kind}

log_before : (rows : List LogRow) (next : List ℕ) → IsBefore (log_kind rows next)
log_before [] next = tt
log_before (r ∷ rows) next = tt

before : (t : ReadCommand) → IsBefore (read_kind t)
before (Look l) = tt
before (Cat c) = tt
before (Ls s) = tt
before (Log g) = log_before g.rows.items g.next
before (Ended a) = tt

log_chain : (rows : List LogRow) (next : List ℕ) (k : Kind) → IsBefore k → Chain (log_kind rows next) k
log_chain [] next k is = is
log_chain (r ∷ rows) next k is = is

chain_of : (t : ReadCommand) (k : Kind) → IsBefore k → Chain (read_kind t) k
chain_of (Look l) k is = is
chain_of (Cat c) k is = is
chain_of (Ls s) k is = is
chain_of (Log g) k is = log_chain g.rows.items g.next k is
chain_of (Ended a) k is = is

log_last : (rows : List LogRow) (next : List ℕ) → IsLastly (log_kind rows next)
log_last [] next = tt
log_last (r ∷ rows) next = tt

last_of : (t : ReadCommand) → IsLastly (read_kind t)
last_of (Look l) = tt
last_of (Cat c) = tt
last_of (Ls s) = tt
last_of (Log g) = log_last g.rows.items g.next
last_of (Ended a) = tt

log_duty : (rows : List LogRow) (next : List ℕ) (actor lane : ℕ) (v : View) (b : Books) (Done : View → Type 0) → StepObligation (log_kind rows next) actor lane v b Nothing Done
log_duty [] next actor lane v b Done = ((λ p s a. absurd a), (λ q s a. absurd a))
log_duty (r ∷ rows) next actor lane v b Done = ((λ p s a. absurd a), (λ q s a. absurd a))

duty_of : (t : ReadCommand) (actor lane : ℕ) (v : View) (b : Books) (Done : View → Type 0) → StepObligation (read_kind t) actor lane v b Nothing Done
duty_of (Look l) actor lane v b Done = ((λ p s a. absurd a), (λ q s a. absurd a))
duty_of (Cat c) actor lane v b Done = ((λ p s a. absurd a), (λ q s a. absurd a))
duty_of (Ls s) actor lane v b Done = ((λ p s a. absurd a), (λ q s a. absurd a))
duty_of (Log g) actor lane v b Done = log_duty g.rows.items g.next actor lane v b Done
duty_of (Ended a) actor lane v b Done = ((λ p s a. absurd a), (λ q s a. absurd a))

log_claim : (rows : List LogRow) (next : List ℕ) → IsClaim (log_kind rows next) → ⊥
log_claim [] next is = is
log_claim (r ∷ rows) next is = is

-- no step makes the folder of a checkout
pub no_read_claim : (t : ReadCommand) → IsClaim (read_kind t) → ⊥
no_read_claim (Look l) is = is
no_read_claim (Cat c) is = is
no_read_claim (Ls s) is = is
no_read_claim (Log g) is = log_claim g.rows.items g.next is
no_read_claim (Ended a) is = is

pub read_laws : Laws read_kind read_needs read_writes read_stepped read_leaves read_facts
read_laws = record {
  ready = λ actor lane t v b by f. f.0;
  kept = λ actor lane mine t v w b b' not other does holds f. (knows_kept b v w actor lane does.writes mine other t f.2 f.0, founded_kept b v w actor lane does.writes mine other t f.2 f.1, are_pinned_on mine b b' (others_pins actor lane mine v w b b' other does) t f.2);
  gains = λ lane t v b b' keeps same f. (f.0, f.1, are_pinned_on lane b b' keeps.pins t f.2);
  duty = λ actor lane t new v b agrees by stood f. duty_of t actor lane v b (read_leaves t (turn.Done tt) new v);
  chain = λ t new step. chain_of t (read_kind new) (before new);
  last = λ t new step. last_of t;
  next = λ actor lane t new v w b b' stood f leaves keeps own. (leaves.2, subst (IsFounded new) (sym leaves.0) (founded_next v t new f.1 leaves.4 leaves.3 leaves.1), pinned_next (Stores v.now) t new actor lane b b' keeps.pins f.0 f.2 stood leaves.5 leaves.3 leaves.1);
  claims = λ lane t new v w b name is step f leaves. absurd (no_read_claim t (subst IsClaim (sym is) tt));
}

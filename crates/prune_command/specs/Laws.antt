-- The laws of a prune as a task.
use Rattle.std.proofs.Common.{ℕ}
use Rattle.fs_trait.specs.declared.task.StepResult.TheVariants as turn
use Rattle.rely_guarantee.specs.Laws.{Laws}
use Rattle.prune_command.specs.Commands.{prune_kind, prune_leaves, prune_needs, prune_stepped, prune_writes}
use Rattle.prune_command.specs.Duties.{chain_of, duty_of, last_of, ready_of, unclaimed}
use Rattle.prune_command.specs.Facts.{prune_facts}
use Rattle.prune_command.specs.Kept.{facts_gain, facts_kept}
use Rattle.prune_command.specs.Nexts.{facts_next}

pub prune_laws : Laws prune_kind prune_needs prune_writes prune_stepped prune_leaves prune_facts
prune_laws = record {
  ready = λ actor lane t v b by f. ready_of actor lane t v b f;
  kept = λ actor lane mine t v w b b' not other does holds f. facts_kept actor lane mine t v w b b' other does f;
  gains = λ lane t v b b' keeps same f. facts_gain lane t v b b' keeps same f;
  duty = λ actor lane t new v b agrees by stood f. duty_of t actor lane v b (prune_leaves t (turn.Done tt) new v) f;
  chain = λ t new step. chain_of t new step;
  last = λ t new step. last_of t new step;
  next = λ actor lane t new v w b b' stood f leaves keeps own. facts_next actor lane t new v w b b' stood f leaves keeps own;
  claims = λ lane t new v w b name kind step f leaves. absurd (unclaimed t name kind);
}

-- The laws of a removal of deployments as a task.
use Rattle.fs_trait.specs.declared.task.StepResult.TheVariants as turn
use Rattle.rely_guarantee.specs.Laws.{Laws}
use Rattle.clean_command.specs.Commands.{clean_kind, clean_leaves, clean_needs, clean_stepped, clean_writes}
use Rattle.clean_command.specs.Duties.{chain_of, duty_of, last_of, ready_of, unclaimed}
use Rattle.clean_command.specs.Facts.{clean_facts}
use Rattle.clean_command.specs.Kept.{facts_gain, facts_kept}
use Rattle.clean_command.specs.Nexts.{facts_next}

pub clean_laws : Laws clean_kind clean_needs clean_writes clean_stepped clean_leaves clean_facts
clean_laws = record {
  ready = λ actor lane t v b by f. ready_of actor lane t v b f;
  kept = λ actor lane mine t v w b b' not other does holds f. facts_kept actor lane mine v w b b' other does t f;
  gains = λ lane t v b b' keeps same f. facts_gain lane t v b b' keeps f;
  duty = λ actor lane t new v b agrees by stood f. duty_of t actor lane v b (clean_leaves t (turn.Done tt) new v) f;
  chain = λ t new step. chain_of t new step;
  last = λ t new step. last_of t new step;
  next = λ actor lane t new v w b b' stood f leaves keeps own. facts_next actor lane t new v w b b' stood f leaves keeps;
  claims = λ lane t new v w b name kind step f leaves. absurd (unclaimed t name kind);
}

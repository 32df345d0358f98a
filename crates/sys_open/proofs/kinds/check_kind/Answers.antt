use Rattle.std.proofs.Common.{subst}
use Rattle.ost_types.specs.Path.{Path}
use Rattle.sys_open.specs.declared.fault.Why.TheVariants.{WrongKind}
use Rattle.layout_rules.specs.declared.rule.Rule.{Rule}
use Rattle.layout_rules.specs.Checks.{Suits}
use Rattle.layout_rules.specs.Spots.{rule_of}
use Rattle.sys_open.specs.Walk.{Looked}
use Rattle.sys_open.proofs.kinds.check_kind.Goals as goal

pub returns-clause-told : goal.returns-clause-told
returns-clause-told g c = λ v told.
    subst (λ (p : Path). Looked {T = Unit {0}} (Suits (rule_of c.args.spot) (v.now.at p)) WrongKind p c.check_rule.result) c.in_ok-at.ensures
    (subst (λ (r : Rule). Looked {T = Unit {0}} (Suits r (v.now.at c.in_ok-at.at)) WrongKind c.in_ok-at.at c.check_rule.result) c.rule_of.ensures (c.check_rule.ensures.told v told))

use Rattle.std.proofs.Common.{◌∙◌, ap, subst}
use Rattle.ost_types.specs.Path.{Path}
use Rattle.repo_layout.specs.Paths.{folder_path}
use Rattle.sys_open.specs.declared.fault.Why.TheVariants.{WrongKind}
use Rattle.layout_rules.specs.Checks.{AsksIn}
use Rattle.sys_open.specs.Walk.{Walked}
use Rattle.sys_open.proofs.ManyWalks.{widen}
use Rattle.sys_open.proofs.inside.check_many.Goals as goal

pub returns-clause-told : goal.returns-clause-told
returns-clause-told g c = λ v told.
    widen (Unit {0}) v.now c.args.many c.check_names.result (subst (λ (p : Path). Walked {T = Unit {0}} (AsksIn c.args.many v.now) WrongKind p c.check_names.result) (c.in_ok-folder.ensures ∙ ap folder_path c.folder_of.ensures) (c.check_names.ensures.told v told))

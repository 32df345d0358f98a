use Rattle.std.proofs.Common.{◌≡◌, true, false, sym, ◌∙◌, subst}
use Rattle.ost_types.specs.Path.{IsPath, Path, under}
use Rattle.ost_types.specs.Text.{IsName}
use Rattle.repo_layout.specs.declared.folder.Folder.TheVariants as layout
use Rattle.sys_open.specs.declared.fault.Why.TheVariants.{WrongKind}
use Rattle.layout_rules.specs.declared.rule.Rule.TheVariants.{NoFolder}
use Rattle.layout_rules.specs.Checks.{Suits}
use Rattle.layout_rules.specs.Many.{IsCopyName}
use Rattle.sys_open.specs.Walk.{Looked}
use Rattle.sys_open.proofs.ManyPaths.{known_grandchild}
use Rattle.sys_open.proofs.ManyWalks.{copy_passed_at, copy_walk_at}
use Rattle.sys_open.proofs.inside.check_copy.Goals as goal

pub child-requires : goal.child-requires
child-requires g c =
    subst (λ f. IsPath (under f c.args.name.now)) (sym c.requires.3)
    (known_grandchild layout.Kernels c.requires.0 c.args.name.now c.requires.1 (subst (λ n. IsName n) c.as_slice.ensures.value c.as_slice.ensures.name))

pub returns-in_ok-at-clause-told : goal.returns-in_ok-at-clause-told
returns-in_ok-at-clause-told g c = λ v told.
    copy_walk_at v.now c.requires.0 c.requires.2 c.args.name.now c.args.folder.now c.requires.3 (Unit {0}) c.check_rule.result
    (subst IsCopyName c.as_slice.ensures.value (c.is_copy_name.ensures.0 c.if-is_copy_name.true))
    (subst (λ (p : Path). Looked {T = Unit {0}} (Suits NoFolder (v.now.at p)) WrongKind p c.check_rule.result) c.in_ok-at.ensures (c.check_rule.ensures.told v told))

pub returns-else-is_copy_name-clause-told : goal.returns-else-is_copy_name-clause-told
returns-else-is_copy_name-clause-told g c = λ v told.
    copy_passed_at v.now c.requires.0 c.requires.2 c.args.name.now c.args.folder.now c.requires.3
    (λ copy. let n : true ≡ false = sym (c.is_copy_name.ensures.1 (subst IsCopyName (sym c.as_slice.ensures.value) copy)) ∙ c.if-is_copy_name.false in cc)

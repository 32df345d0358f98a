use Rattle.std.proofs.Common.{◌≡◌, true, false, sym, ◌∙◌, subst}
use Rattle.ost_types.specs.Path.{IsPath, Path, under}
use Rattle.ost_types.specs.Text.{IsName}
use Rattle.sys_open.specs.declared.fault.Why.TheVariants.{WrongKind}
use Rattle.layout_rules.specs.declared.rule.Rule.TheVariants.{FileOrNothing, FolderOrNothing}
use Rattle.layout_rules.specs.Checks.{AsksIn, Suits}
use Rattle.layout_rules.specs.Many.{IsNameOf, folder_of}
use Rattle.sys_open.specs.Walk.{IsSoBelow, Looked}
use Rattle.sys_open.proofs.ManyPaths.{known_child}
use Rattle.sys_open.proofs.ManyWalks.{mark_told, object_told, passed}
use Rattle.sys_open.proofs.inside.check_name.Goals as goal

pub returns-then-not-branch-clause-told : goal.returns-then-not-branch-clause-told
returns-then-not-branch-clause-told g c = λ v told.
    subst (λ (f : Path). IsSoBelow (AsksIn c.args.many v.now) (under f c.args.name.now)) (sym c.requires)
    (passed v.now c.args.many c.args.name.now (λ is. let n : true ≡ false = sym (c.in_ok-is_name_of.ensures.1 (subst (IsNameOf c.args.many) (sym c.as_slice.ensures.value) is)) ∙ c.if-not-branch.true in cc))

pub child-requires : goal.child-requires
child-requires g c =
    subst (λ (f : Path). IsPath (under f c.args.name.now)) (sym c.requires)
    (known_child (folder_of c.args.many) c.args.name.now (subst IsName c.as_slice.ensures.value c.as_slice.ensures.name))

pub returns-in-Objects-clause-told : goal.returns-in-Objects-clause-told
returns-in-Objects-clause-told g c = λ v told.
    object_told (Unit {0}) v.now c.args.folder.now c.args.name.now c.check_rule.result c.args.many c.in-Objects.is c.requires
    (subst (IsNameOf c.args.many) c.as_slice.ensures.value (c.in_ok-is_name_of.ensures.0 c.if-not-branch.false))
    (subst (λ (p : Path). Looked {T = Unit {0}} (Suits FolderOrNothing (v.now.at p)) WrongKind p c.check_rule.result) c.in_ok-at.ensures (c.check_rule.ensures.told v told))

pub returns-clause-told : goal.returns-clause-told
returns-clause-told g c = λ v told.
    mark_told (Unit {0}) v.now c.args.folder.now c.args.name.now c.check_rule-in-Marks.result c.args.many c.in-Marks.is c.requires
    (subst (IsNameOf c.args.many) c.as_slice.ensures.value (c.in_ok-is_name_of.ensures.0 c.if-not-branch.false))
    (subst (λ (p : Path). Looked {T = Unit {0}} (Suits FileOrNothing (v.now.at p)) WrongKind p c.check_rule-in-Marks.result) c.in_ok-at.ensures (c.check_rule-in-Marks.ensures.told v told))

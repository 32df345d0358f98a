use Rattle.std.proofs.Common.{◌≡◌, true, false, sym, ◌∙◌, ap, subst, codes}
use Rattle.std.specs.Prelude.{IfSome, is_some}
use Rattle.ost_types.specs.Path.{IsPath, under}
use Rattle.ost_types.specs.Text.{IsName}
use Rattle.repo_layout.specs.declared.folder.Folder.TheVariants as layout
use Rattle.sys_open.proofs.ManyPaths.{deploy_is_name, known_grandchild}
use Rattle.sys_open.proofs.inside.deployments_of.Goals as goal

pub unreachable-requires : goal.unreachable-requires
unreachable-requires c = let n : false ≡ true = sym (ap is_some c.in_default.is) ∙ c.in_ok-name.ensures.exact.1 deploy_is_name in cc

pub child-requires : goal.child-requires
child-requires c =
    let is : c.in-Some.name ≡ codes "deploy" = subst (λ n. IfSome n (λ x. x ≡ codes "deploy")) c.in-Some.is c.in_ok-name.ensures.value in
    subst (λ f. IsPath (under f c.in-Some.name)) (sym c.requires.3) (known_grandchild layout.Deploy c.requires.0 c.in-Some.name c.requires.1 (subst IsName (sym is) deploy_is_name))

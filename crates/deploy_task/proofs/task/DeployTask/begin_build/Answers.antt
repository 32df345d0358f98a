use Rattle.std.proofs.Common.{refl, sym, ◌∙◌, ap, subst}
use Rattle.ost_types.specs.PathMap.{IsAscending, Nodes, paths_of}
use Rattle.deploy_task.specs.Deploying.{Deploying}
use Rattle.deploy_task.specs.Steps.{Needs}
use Rattle.deploy_task.proofs.BuildPart.{began_as, begun_as, build_began_in, may_build_as}
use Rattle.deploy_task.proofs.Telling.{told_as}
use Rattle.deploy_task.proofs.task.DeployTask.begin_build.Goals as goal

pub new-requires : goal.new-requires
new-requires c =
    let made = c.self.invariant in
    let ascending = subst (λ (n : Nodes). IsAscending (paths_of n)) c.as_slice-tree.ensures.value c.as_slice-tree.ensures.map.ascending in
    may_build_as _ _ _ made.may made.numbered c.in_ok-etc.etc ascending c.in_ok-etc.ensures.defaults c.in_ok-etc.ensures.few c.in_ok-copy.field-0 c.in_ok-copy.ensures c.in_ok-new.new c.in_ok-new.ensures

pub returns-clause-stepped : goal.returns-clause-stepped
returns-clause-stepped c =
    let is = ap (λ (t : Deploying). t.phase) c.self.view_is ∙ c.requires in
    let same = begun_as c.self.inside.deploy c.self.inside.id c.in_ok-etc.etc c.in_ok-copy.field-0 c.in_ok-new.new c.in_ok-build.build c.in_ok-copy.ensures c.in_ok-new.ensures c.in_ok-build.ensures.value in
    began_as _ is c.in_ok-etc.etc c.in_ok-etc.ensures.defaults c.in_ok-build.build same c.go_on.new.phase c.go_on.ensures _ c.self.view_is

pub returns-clause-told : goal.returns-clause-told
returns-clause-told c = λ v needs.
    let is = ap (λ (t : Deploying). t.phase) c.self.view_is ∙ c.requires in
    let same = begun_as c.self.inside.deploy c.self.inside.id c.in_ok-etc.etc c.in_ok-copy.field-0 c.in_ok-new.new c.in_ok-build.build c.in_ok-copy.ensures c.in_ok-new.ensures c.in_ok-build.ensures.value in
    told_as _ _ _ _ c.self.view_is refl v _ _
    (build_began_in _ is v (subst (λ t. Needs t v) (sym c.self.view_is) needs) c.in_ok-etc.etc c.in_ok-etc.ensures.defaults c.in_ok-build.build same c.in_ok-build.ensures.made c.go_on.new.phase c.go_on.ensures)

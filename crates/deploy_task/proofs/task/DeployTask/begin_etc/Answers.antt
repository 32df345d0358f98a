use Rattle.std.proofs.Common.{sym, subst, codes}
use Rattle.ost_types.specs.Path.{Path, IsPath, under}
use Rattle.deploy_task.specs.declared.phase.Phase.TheVariants.{Source}
use Rattle.deploy_task.specs.Listed.{IsFirstOf, NoneOf}
use Rattle.deploy_task.specs.Deploying.{Deploying, items_of}
use Rattle.deploy_task.proofs.Keeping.{in_part}
use Rattle.deploy_task.proofs.Sources.{none_first, source_path}
use Rattle.deploy_task.proofs.task.DeployTask.begin_etc.Goals as goal

pub unreachable-requires-in_default-first_of : goal.unreachable-requires-in_default-first_of
unreachable-requires-in_default-first_of c =
    let plan = c.self.inside.deploy in
    let t : Deploying = record { plan = plan; id = c.self.inside.id; kept = c.self.inside.kept.items; phase = c.self.inside.phase } in
    let of = (in_part t (Source c.in-Source.walk) c.in-Source.is c.self.invariant).1 in
    none_first (items_of plan) plan.os of.source (subst (λ items. NoneOf items plan.os) c.deref.ensures.value c.in_default-first_of.ensures) of.is_source

pub etc_path-requires : goal.etc_path-requires
etc_path-requires c =
    let plan = c.self.inside.deploy in
    let t : Deploying = record { plan = plan; id = c.self.inside.id; kept = c.self.inside.kept.items; phase = c.self.inside.phase } in
    let first = subst (λ items. IsFirstOf items plan.os c.in-Some.source.now) c.deref.ensures.value c.in-Some.ensures in
    subst (λ (f : Path). IsPath (under f (codes "etc"))) (sym c.in_ok-folder.ensures) (source_path t c.self.invariant c.in-Some.source.now first)

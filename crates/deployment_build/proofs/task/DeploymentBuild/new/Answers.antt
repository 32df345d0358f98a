use Rattle.std.proofs.Common.{◌<◌, ◌^◌, rules, length}
use Rattle.deployment_build.specs.Deployment.{etc_of}
use Rattle.deployment_build.proofs.PathBounds.{placed-path}
use Rattle.deployment_build.proofs.Begins.{made_as}
use Rattle.deployment_build.proofs.task.DeploymentBuild.new.Goals as goal

pub places_and_kernel-requires-clause-etc : goal.places_and_kernel-requires-clause-etc
places_and_kernel-requires-clause-etc c = placed-path (etc_of c.args.new.id) c.args.new.etc c.requires.etc

pub invariant_of-result : goal.invariant_of-result
invariant_of-result c =
    let short : length c.args.new.origin < 2 ^ 63 = search rules in
    let both = c.in_ok-places.ensures in
    made_as c.args.stage c.args.new c.requires short c.in_ok-places.places both.0 _ c.file_meta.ensures.value _ _ _ _ c.new.ensures.value c.new-2.ensures.value c.new-3.ensures both.1

pub returns-clause-made : goal.returns-clause-made
returns-clause-made c =
    let short : length c.args.new.origin < 2 ^ 63 = search rules in
    let both = c.in_ok-places.ensures in
    made_as c.args.stage c.args.new c.requires short c.in_ok-places.places both.0 _ c.file_meta.ensures.value _ _ _ _ c.new.ensures.value c.new-2.ensures.value c.new-3.ensures both.1

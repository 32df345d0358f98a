use Rattle.boot_read.specs.Faults.IsFirstBadLink.{OfLoader}
use Rattle.boot_read.proofs.Looking.{selects, selects_none}
use Rattle.boot_read.proofs.versions.loader_version.Goals as goal

pub returns-in-Some-clause-told : goal.returns-in-Some-clause-told
returns-in-Some-clause-told c = λ d is at.
    selects d c.args.at c.args.node.now is c.loader_target.result.now c.loader_target-2.result.now c.version_of-version.result c.version_of-version.ensures at c.loader_target.ensures c.loader_target-2.ensures c.in-Some.version c.in-Some.is

pub returns-in-None-clause-told : goal.returns-in-None-clause-told
returns-in-None-clause-told c = λ d is at.
    OfLoader (selects_none d c.args.at c.args.node.now is c.loader_target.result.now c.loader_target-2.result.now c.version_of-version.result c.version_of-version.ensures at c.loader_target.ensures c.loader_target-2.ensures c.in-None.is) at

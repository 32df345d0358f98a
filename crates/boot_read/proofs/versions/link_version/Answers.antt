use Rattle.repo_layout.specs.Fixed.{number}
use Rattle.boot_read.specs.Faults.IsFirstBadLink.{OfVersion}
use Rattle.boot_read.proofs.Looking.{has_no_sub, has_sub}
use Rattle.boot_read.proofs.versions.link_version.Goals as goal

pub returns-in-Some-clause-told : goal.returns-in-Some-clause-told
returns-in-Some-clause-told c = λ d is at sel.
    has_sub d c.args.at c.args.node.now is c.boot_target.result.now c.boot_target-2.result.now c.version_of-version.result c.version_of-version.ensures (number c.args.loader) at c.boot_target.ensures c.boot_target-2.ensures c.in-Some.sub c.in-Some.is

pub returns-in-None-clause-told : goal.returns-in-None-clause-told
returns-in-None-clause-told c = λ d is at sel.
    OfVersion (number c.args.loader)
    (record { selects = sel; none = has_no_sub d c.args.at c.args.node.now is c.boot_target.result.now c.boot_target-2.result.now c.version_of-version.result c.version_of-version.ensures (number c.args.loader) at c.boot_target.ensures c.boot_target-2.ensures c.in-None.is }) at

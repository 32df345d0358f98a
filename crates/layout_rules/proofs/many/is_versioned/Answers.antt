use Rattle.layout_rules.proofs.NameTests.{version_test}
use Rattle.layout_rules.proofs.many.is_versioned.Goals as goal

pub returns-in-Some : goal.returns-in-Some
returns-in-Some c = version_test c.args.name.now c.args.front.now c.args.end.now c.in-Some.version.now c.is_version.result c.is_version.ensures c.in-Some.ensures

use Rattle.std.proofs.Common.{sym}
use Rattle.memory_table.proofs.Holding.{no_names, any_there}
use Rattle.memory_table.proofs.tree.Tree.has_names.Goals as goal

pub returns-in-Some : goal.returns-in-Some
returns-in-Some g c = λ h holds. any_there c.args.self.now h c.args.folder.now c.text.result.now c.in-Some.names.now c.has_any.result holds c.text.ensures.names c.text.ensures.value (sym c.in-Some.ensures.value) c.has_any.ensures

pub returns-in-None : goal.returns-in-None
returns-in-None g c = λ h holds x. no_names c.args.self.now h c.args.folder.now c.text.result.now x holds c.text.ensures.names c.text.ensures.value (sym c.in-None.ensures.value)

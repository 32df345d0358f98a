use Rattle.std.proofs.Common.{sym}
use Rattle.memory_table.proofs.Holding.{listed, none_listed, both_ok}
use Rattle.memory_table.proofs.tree.Tree.names_in.Goals as goal

pub returns-in-Some : goal.returns-in-Some
returns-in-Some g c = both_ok c.names.result _ _ _ (λ ns sorted exact h holds. listed c.args.self.now h c.args.folder.now c.text.result.now c.in-Some.names.now ns holds c.text.ensures.names c.text.ensures.value (sym c.in-Some.ensures.value) sorted exact) c.names.ensures.ascending c.names.ensures.exact

pub returns-in-None : goal.returns-in-None
returns-in-None g c = λ h holds. none_listed c.args.self.now h c.args.folder.now c.text.result.now _ holds c.text.ensures.names c.text.ensures.value (sym c.in-None.ensures.value) c.new.ensures

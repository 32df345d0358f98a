use Rattle.std.proofs.Common.{ap, ◌∙◌, sym}
use Rattle.memory_table.proofs.Holding.{Holds-get, root_text}
use Rattle.memory_table.proofs.tree.Tree.get.Goals as goal

pub returns-in-None : goal.returns-in-None
returns-in-None g c = λ h p holds names is. c.as_ref.ensures.value ∙ holds.root ∙ ap h (sym (root_text p c.args.text.now is c.in-None.ensures.none))

pub returns-in-Some : goal.returns-in-Some
returns-in-Some g c = λ h p holds names is. Holds-get c.args.self.now h p c.args.text.now c.in-Some.at.folder.now c.in-Some.at.name.now _ holds names is c.in-Some.ensures.filled c.in-Some.ensures.some c.look.ensures

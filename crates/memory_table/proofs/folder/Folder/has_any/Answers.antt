use Rattle.std.proofs.Common.{◌≡◌, Some, None, sym, ◌∙◌, true, false}
use Rattle.memory_table.proofs.Keyed.{no_entries}
use Rattle.memory_table.proofs.folder.Folder.has_any.Goals as goal

pub returns-in-Some : goal.returns-in-Some
returns-in-Some g c = (c.in-Some.field-0.0.now.items, λ none. let n : None ≡ Some c.in-Some.field-0.1.now = sym none ∙ c.in-Some.ensures.value in cc)

pub returns-in-None : goal.returns-in-None
returns-in-None g c = λ x. no_entries c.args.self.now.values x (λ some. let n : false ≡ true = c.in-None.ensures.variant.1 some in cc)

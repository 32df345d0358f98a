use Rattle.std.proofs.Common.{refl, None}
use Rattle.memory_table.proofs.Holding.{Holds-root, Holds-put_at, root_text, on_ok}
use Rattle.memory_table.proofs.tree.Tree.remove.Goals as goal

pub returns-in-None : goal.returns-in-None
returns-in-None g c = λ h holds. Holds-root c.args.self.now _ c.args.place.now None h (root_text c.args.place.now c.text.result.now c.text.ensures.value c.in-None.ensures.none) refl (λ t x. refl) holds

pub returns-in-Some : goal.returns-in-Some
returns-in-Some g c = on_ok c.remove_in.result _ _ (λ below h holds. Holds-put_at c.args.self.now c.remove_in.new.self c.args.place.now c.text.result.now c.in-Some.at.folder.now c.in-Some.at.name.now None h c.text.ensures.names c.text.ensures.value c.in-Some.ensures.filled c.in-Some.ensures.some c.remove_in.ensures.root below holds) c.remove_in.ensures.below

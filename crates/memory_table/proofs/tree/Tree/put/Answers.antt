use Rattle.std.proofs.Common.{refl, Some}
use Rattle.memory_table.proofs.Holding.{Holds-root, Holds-put_at, root_text, name_at, on_ok}
use Rattle.memory_table.proofs.tree.Tree.put.Goals as goal

pub put_in-requires : goal.put_in-requires
put_in-requires g c = name_at c.args.place.now c.text.result.now c.in-Some.at.folder.now c.in-Some.at.name.now c.text.ensures.names c.text.ensures.value c.in-Some.ensures.filled c.in-Some.ensures.some

pub returns-in-None : goal.returns-in-None
returns-in-None g c = λ h holds. Holds-root c.args.self.now _ c.args.place.now (Some c.args.value) h (root_text c.args.place.now c.text.result.now c.text.ensures.value c.in-None.ensures.none) refl (λ t x. refl) holds

pub returns-in-Some : goal.returns-in-Some
returns-in-Some g c = on_ok c.put_in.result _ _ (λ below h holds. Holds-put_at c.args.self.now c.put_in.new.self c.args.place.now c.text.result.now c.in-Some.at.folder.now c.in-Some.at.name.now (Some c.args.value) h c.text.ensures.names c.text.ensures.value c.in-Some.ensures.filled c.in-Some.ensures.some c.put_in.ensures.root below holds) c.put_in.ensures.below

use Rattle.std.proofs.Common.{refl, None, ◌∙◌, ap, sym}
use Rattle.memory_table.proofs.Holding.{Holds-root, Holds-put_at, Holds-get, root_text, on_ok}
use Rattle.memory_table.proofs.Tying.{if_ok}
use Rattle.memory_table.proofs.tree.Tree.take_value.Goals as goal

pub returns-in-None-clause-value : goal.returns-in-None-clause-value
returns-in-None-clause-value g c = λ h holds. c.take.ensures.value ∙ holds.root ∙ ap h (sym (root_text c.args.place.now c.text.result.now c.text.ensures.value c.in-None.ensures.none))

pub returns-in-None-clause-taken : goal.returns-in-None-clause-taken
returns-in-None-clause-taken g c = λ h holds. Holds-root c.args.self.now _ c.args.place.now None h (root_text c.args.place.now c.text.result.now c.text.ensures.value c.in-None.ensures.none) (c.take.ensures.after) (λ t x. refl) holds

pub returns-in-Some-clause-value : goal.returns-in-Some-clause-value
returns-in-Some-clause-value g c = if_ok c.take_in.result _ _ (λ o is h holds. Holds-get c.args.self.now h c.args.place.now c.text.result.now c.in-Some.at.folder.now c.in-Some.at.name.now o holds c.text.ensures.names c.text.ensures.value c.in-Some.ensures.filled c.in-Some.ensures.some is) c.take_in.ensures.value

pub returns-in-Some-clause-taken : goal.returns-in-Some-clause-taken
returns-in-Some-clause-taken g c = on_ok c.take_in.result _ _ (λ below h holds. Holds-put_at c.args.self.now c.take_in.new.self c.args.place.now c.text.result.now c.in-Some.at.folder.now c.in-Some.at.name.now None h c.text.ensures.names c.text.ensures.value c.in-Some.ensures.filled c.in-Some.ensures.some c.take_in.ensures.root below holds) c.take_in.ensures.below

use Rattle.std.proofs.Common.{[], ◌∷◌, ◌++◌, ap, ◌∙◌}
use Rattle.gv_core.proofs.Stacks.{popped_one}
use Rattle.gv_core.proofs.type_string.pop_kind.Goals as goal

pub returns-in-Some-One : goal.returns-in-Some-One
returns-in-Some-One c = λ st s. popped_one st _ _ _ _ (c.in-Some-One.ensures.items ∙ ap (λ e. c.pop.new.self.items ++ e ∷ []) c.in-Some-One.field-0-is) s

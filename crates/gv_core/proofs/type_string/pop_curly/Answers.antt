use Rattle.std.proofs.Common.{[], ◌∷◌, ◌++◌, ap, ◌∙◌}
use Rattle.gv_core.proofs.Stacks.{popped_curly}
use Rattle.gv_core.proofs.type_string.pop_curly.Goals as goal

pub returns-in-Some-Curly : goal.returns-in-Some-Curly
returns-in-Some-Curly c = λ st s. popped_curly st _ _ (c.in-Some-Curly.ensures.items ∙ ap (λ e. c.pop.new.self.items ++ e ∷ []) c.in-Some-Curly.field-0-is) s

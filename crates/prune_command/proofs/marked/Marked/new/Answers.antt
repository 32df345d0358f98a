use Rattle.std.proofs.Common.{List, ◌∙◌, subst}
use Rattle.ost_types.specs.declared.object.ObjName.{ObjName}
use Rattle.prune_mark.specs.Marking.{Knows}
use Rattle.prune_command.proofs.marked.Marked.new.Goals as goal

pub returns-clause-begun : goal.returns-clause-begun
returns-clause-begun c = λ d are. subst (λ (l : List ObjName). Knows d l c.in_ok-marking.marking) (c.as_slice.ensures.value ∙ c.in_ok-from.ensures) (c.in_ok-marking.ensures.begun d are)

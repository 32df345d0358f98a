use Rattle.std.proofs.Common.{◌++◌, ◌∷◌, [], ◌∙◌, ap, subst}
use Rattle.ost_types.specs.Path.{AreNames}
use Rattle.ost_types.specs.Flat.{flat}
use Rattle.memory_record.proofs.Leaving.{both_left}
use Rattle.memory_table.proofs.Splitting.{AreNames-folder}
use Rattle.memory_record.proofs.crash.leave.Goals as goal

pub returns-then-picked-clause-left : goal.returns-then-picked-clause-left
returns-then-picked-clause-left c = λ v f x s is.
    let names = subst AreNames is c.text.ensures.names in
    let folder = c.value_at.ensures f (AreNames-folder f x names) (c.folder_of.ensures.value f x names (c.text-2.ensures.value ∙ ap flat is)) in
    c.in_ok-push.ensures.items ∙ ap (λ n. c.args.left.now.changes.items ++ n ∷ []) (both_left _ _ _ _ _ _ _ c.in_ok-copy.ensures c.in_ok-value.ensures folder (c.pick-picked.ensures.value v c.args.path.now s c.text.ensures.names c.text.ensures.value))

pub returns-else-picked-clause-left : goal.returns-else-picked-clause-left
returns-else-picked-clause-left c = λ v f x s is.
    let names = subst AreNames is c.text.ensures.names in
    let folder = c.value_at.ensures f (AreNames-folder f x names) (c.folder_of.ensures.value f x names (c.text-2.ensures.value ∙ ap flat is)) in
    c.in_ok-push.ensures.items ∙ ap (λ n. c.args.left.now.changes.items ++ n ∷ []) (both_left _ _ _ _ _ _ _ c.in_ok-copy.ensures c.in_ok-value.ensures folder (c.pick-picked.ensures.value v c.args.path.now s c.text.ensures.names c.text.ensures.value))

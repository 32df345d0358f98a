use Rattle.std.proofs.Common.{◌++◌, ◌∷◌, [], sym, ◌∙◌, ap, append-nil}
use Rattle.memory_table.proofs.Splitting.{no_flat, some_flat, is_zero, not_zero}
use Rattle.memory_record.proofs.Quiets.{below_root-some, below_root-none}
use Rattle.memory_record.proofs.crash.note.Goals as goal

pub returns-in_ok-push : goal.returns-in_ok-push
returns-in_ok-push c =
    c.in_ok-push.ensures.items ∙ ap (λ p. c.args.paths.now.items ++ p ∷ []) c.in_ok-copy.ensures
    ∙ ap (λ l. c.args.paths.now.items ++ l) (sym (below_root-some c.args.path.now (some_flat _ _ c.text.ensures.value (not_zero _ _ c.is_empty.ensures c.if-not-is_empty.true))))

pub returns-else-not-is_empty : goal.returns-else-not-is_empty
returns-else-not-is_empty c =
    sym (ap (λ l. c.args.paths.now.items ++ l) (below_root-none c.args.path.now (no_flat _ _ c.text.ensures.value (is_zero _ _ c.is_empty.ensures c.if-not-is_empty.false))) ∙ append-nil c.args.paths.now.items)

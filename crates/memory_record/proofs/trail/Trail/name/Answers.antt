use Rattle.std.proofs.Common.{◌∙◌, ◌++◌, ◌∷◌, [], ap, subst}
use Rattle.fs_trait.specs.View.{Disk, set_at}
use Rattle.memory_table.specs.Ties.{Ties}
use Rattle.memory_table.proofs.Holding.{on_ok}
use Rattle.memory_record.proofs.Trailing.{shows_named}
use Rattle.memory_record.proofs.trail.Trail.name.Goals as goal

pub returns : goal.returns
returns c = on_ok c.name.result _ _ (λ step v s. shows_named c.args.self.now _ c.take.new.self.older v c.args.place.now c.args.value c.push.new.self
    (c.in_ok-push.ensures.ok ∙ ap (λ xs. xs ++ c.in_ok-before.before ∷ []) (c.in_ok-older.ensures.value v s) ∙ ap (λ x. v.older c.args.place.now ++ x ∷ []) (c.in_ok-before.ensures v s))
    c.in_ok-older.ensures.left c.in_ok-put.ensures (subst (λ t. (d : Disk) → Ties t d → Ties c.name.new.self (set_at c.args.place.now c.args.value d)) c.in_ok-older.ensures.table step) s) c.name.ensures

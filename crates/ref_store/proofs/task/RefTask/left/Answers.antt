use Rattle.std.proofs.Common.{subst, arith}
use Rattle.ref_store.specs.Change.{made_in}
use Rattle.ref_store.proofs.RoomLemmas.{left_small}
use Rattle.ref_store.proofs.task.RefTask.left.Goals as goal

pub overflow_add-result-else-is_over : goal.overflow_add-result-else-is_over
overflow_add-result-else-is_over c =
    let made = subst (λ ph. made_in ph (record { actor = c.self.inside.actor; name = c.self.inside.name; seen = c.self.inside.seen; value = c.self.inside.value; phase = c.self.inside.phase })) c.in-Walk.is c.self.invariant.2 in
    omega (arith, left_small c.in-Walk.way _ made.0, c.left_way-left_way.ensures.value, c.left_way-left_way.ensures.small, c.left-else-is_over.ensures)

use Rattle.std.proofs.Common.{◌≤◌, ◌∙◌, subst, length, reverse}
use Rattle.ost_types.specs.Path.{IsPath}
use Rattle.checkout.specs.Remove.{Removing}
use Rattle.checkout.proofs.RemoveNeeds.{outer_few}
use Rattle.checkout.proofs.remove.RemoveTask.left.Goals as goal

pub waiting-requires : goal.waiting-requires
waiting-requires c =
    let path = subst IsPath (c.names-names.ensures.value ∙ c.path.ensures) c.names-names.ensures.path in
    let few = outer_few c.self.inside.phase c.self.inside.at (reverse c.self.inside.outer.items) c.self.inside.room c.self.invariant c.in-Inside.folder c.in-Inside.is path in
    record { few = subst (λ (t : Removing). length t.outer ≤ 80) c.self.view_is few }

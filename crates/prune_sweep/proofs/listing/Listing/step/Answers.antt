use Rattle.std.proofs.Common.{◌++◌, ◌∙◌, sym, ap, subst, refl}
use Rattle.store_check.specs.Listing.{AreBelow}
use Rattle.store_check.proofs.Gathering.{more_below}
use Rattle.prune_sweep.specs.Listing.{Listed}
use Rattle.prune_sweep.proofs.listing.Listing.step.Goals as goal

pub returns-clause-told : goal.returns-clause-told
returns-clause-told g c = λ v told below.
    more_below v.now c.self.inside.first c.self.inside.names.items c.in_ok-part.part.items
    (subst (λ (l : Listed). AreBelow v.now l.first l.names) (sym c.self.view_is) below)
    (c.in_ok-part.ensures.told v told) _ _ refl
    (c.in_ok-extend_from_slice.ensures.items ∙ ap (λ l. c.self.inside.names.items ++ l) c.as_slice.ensures.value)

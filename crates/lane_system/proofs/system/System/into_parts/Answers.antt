use Rattle.std.proofs.Common.{◌≡◌, refl, subst}
use Rattle.lane_system.specs.System.{System}
use Rattle.lane_system.proofs.system.System.into_parts.Goals as goal

pub returns : goal.returns
returns g c = record {
  parts = (let i = c.self.inside in subst (λ (s : System _ _ _ _). (i.base.fs ≡ s.base.fs) × (i.base.books.history ≡ s.base.books.history) × (i.base.books.pending ≡ s.base.books.pending) × (i.lanes.items ≡ s.lanes)) c.self.view_is (refl, refl, refl, refl));
  headline = c.certify.ensures.headline;
  replied = c.certify.ensures.replied;
  held = c.certify.ensures.held;
}

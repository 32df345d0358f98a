use Rattle.std.proofs.Common.{◌-◌, ◌<◌, ◌∙◌, ap, subst, length, take}
use Rattle.ref_room.specs.Clearing.{Cleared}
use Rattle.ref_room.proofs.Falls.{falls_passed}
use Rattle.ref_room.proofs.clearing.Clearing.count.Goals as goal

pub returns-in_default-clause-falls : goal.returns-in_default-clause-falls
returns-in_default-clause-falls c =
    falls_passed c.args.self.now _ c.requires (subst (λ (t : Cleared). length t.folders < 9223372036854775808) c.self.view_is c.self.invariant) (ap (λ (t : Cleared). t.folders) c.self.view_is)
    (c.pop.ensures.rest ∙ ap (λ n. take (n - 1) c.self.inside.pending.items) c.self.inside.pending.ok.0 ∙ ap (λ (t : Cleared). take (length t.pending - 1) t.pending) c.self.view_is)

pub returns-in-Some-clause-falls : goal.returns-in-Some-clause-falls
returns-in-Some-clause-falls c =
    falls_passed c.args.self.now c.offer.new.self c.requires (subst (λ (t : Cleared). length t.folders < 9223372036854775808) c.self.view_is c.self.invariant)
    (ap (λ (t : Cleared). t.folders) c.offer.ensures ∙ ap (λ (t : Cleared). t.folders) c.self.view_is)
    (ap (λ (t : Cleared). t.pending) c.offer.ensures ∙ c.pop.ensures.rest ∙ ap (λ n. take (n - 1) c.self.inside.pending.items) c.self.inside.pending.ok.0 ∙ ap (λ (t : Cleared). take (length t.pending - 1) t.pending) c.self.view_is)

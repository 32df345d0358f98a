use Rattle.std.proofs.Common.{◌∙◌, ◌≡◌, ap, arith, ◌-◌, length}
use Rattle.repo_layout.specs.RefName.{parts_of}
use Rattle.ref_room.specs.declared.way.Leg.TheVariants.{Over}
use Rattle.ref_room.specs.Clash.{way_to, ref_folder}
use Rattle.ref_room.specs.Way.{Walked}
use Rattle.ref_room.proofs.WayData.{before_last}
use Rattle.ref_room.proofs.way.Way.into_folder.Goals as goal

pub returns : goal.returns
returns c =
    let last = before_last _ Over _ _ c.self.invariant.5 (ap (λ (t : Walked). t.leg) c.self.view_is ∙ c.requires) in
    let n : c.self.inside.reached ≡ length (parts_of c.self.inside.name) - 1 = omega (arith, last) in
    c.self.invariant.1 ∙ ap (λ k. way_to k c.self.inside.name) n ∙ ap (λ (t : Walked). ref_folder t.name) c.self.view_is

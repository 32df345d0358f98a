use Rattle.std.proofs.Common.{sym, ◌∙◌, ◌≡◌, ap, ◌-◌, ◌*◌, arith, length}
use Rattle.repo_layout.specs.RefName.{parts_of}
use Rattle.ref_room.specs.declared.way.Leg.TheVariants.{Sync}
use Rattle.ref_room.specs.Way.{Walked, left_in}
use Rattle.ref_room.proofs.WayData.{before_last, length-at}
use Rattle.ref_room.proofs.way.Way.left.Goals as goal

pub overflow_sub-ahead : goal.overflow_sub-ahead
overflow_sub-ahead c = let n = length-at _ _ (c.names.ensures.value ∙ c.self.invariant.0) in omega (arith, n)

pub overflow_sub-ahead-2 : goal.overflow_sub-ahead-2
overflow_sub-ahead-2 c = let n = length-at _ _ (c.names.ensures.value ∙ c.self.invariant.0) in omega (arith, n, c.self.invariant.4)

pub overflow_sub-ahead-3 : goal.overflow_sub-ahead-3
overflow_sub-ahead-3 c = let n = length-at _ _ (c.names.ensures.value ∙ c.self.invariant.0) in omega (arith, n, c.self.invariant.4)

pub overflow_sub-result : goal.overflow_sub-result
overflow_sub-result c =
    let n = length-at _ _ (c.names.ensures.value ∙ c.self.invariant.0) in
    let less = before_last _ Sync _ _ c.self.invariant.5 c.in-Sync.is in
    omega (arith, n, less)

pub returns-in-Make : goal.returns-in-Make
returns-in-Make c =
    let n = length-at _ _ (c.names.ensures.value ∙ c.self.invariant.0) in
    let t : Walked = record { name = c.self.inside.name; reached = c.self.inside.reached; leg = c.self.inside.leg } in
    let e : 2 * (length c.names.result.now - 4 - 1 - c.self.inside.reached) ≡ 2 * (length (parts_of c.self.inside.name) - 1 - c.self.inside.reached) = omega (arith, n) in
    e ∙ ap (λ l. left_in l t) (sym c.in-Make.is) ∙ ap (λ (t : Walked). left_in t.leg t) c.self.view_is

pub returns-in-Sync : goal.returns-in-Sync
returns-in-Sync c =
    let n = length-at _ _ (c.names.ensures.value ∙ c.self.invariant.0) in
    let t : Walked = record { name = c.self.inside.name; reached = c.self.inside.reached; leg = c.self.inside.leg } in
    let e : 2 * (length c.names.result.now - 4 - 1 - c.self.inside.reached) - 1 ≡ 2 * (length (parts_of c.self.inside.name) - 1 - c.self.inside.reached) - 1 = omega (arith, n) in
    e ∙ ap (λ l. left_in l t) (sym c.in-Sync.is) ∙ ap (λ (t : Walked). left_in t.leg t) c.self.view_is

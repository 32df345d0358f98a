use Rattle.std.proofs.Common.{◌∙◌, ◌≡◌, ap, subst, ◌+◌, arith}
use Rattle.std.specs.Prelude.{IfOk}
use Rattle.ref_room.specs.declared.way.Leg.TheVariants.{Sync}
use Rattle.ref_room.specs.Clash.{way_to}
use Rattle.ref_room.specs.Way.{Walked}
use Rattle.ref_room.proofs.WayData.{before_last, name_within, gone_on, gone_path}
use Rattle.ref_room.proofs.way.Way.beyond.Goals as goal

pub overflow_add-self-inside : goal.overflow_add-self-inside
overflow_add-self-inside c =
    let less = before_last _ Sync _ _ c.self.invariant.5 (ap (λ (t : Walked). t.leg) c.self.view_is ∙ c.requires) in
    let b = name_within c.names.result.now c.self.inside.name (c.self.inside.reached + 1) (c.names.ensures.value ∙ c.self.invariant.0) less in
    omega (arith, b, c.names.type_inv.0)

pub overflow_add-self-inside-2 : goal.overflow_add-self-inside-2
overflow_add-self-inside-2 c =
    let less = before_last _ Sync _ _ c.self.invariant.5 (ap (λ (t : Walked). t.leg) c.self.view_is ∙ c.requires) in
    let b = name_within c.names.result.now c.self.inside.name (c.self.inside.reached + 1) (c.names.ensures.value ∙ c.self.invariant.0) less in
    omega (arith, b, c.names.type_inv.0)

pub offset_bounds-names-self-inside : goal.offset_bounds-names-self-inside
offset_bounds-names-self-inside c =
    let less = before_last _ Sync _ _ c.self.invariant.5 (ap (λ (t : Walked). t.leg) c.self.view_is ∙ c.requires) in
    let b = name_within c.names.result.now c.self.inside.name (c.self.inside.reached + 1) (c.names.ensures.value ∙ c.self.invariant.0) less in
    omega (arith, b, c.names.type_inv.1)

pub bounds-names-self-inside : goal.bounds-names-self-inside
bounds-names-self-inside c =
    let less = before_last _ Sync _ _ c.self.invariant.5 (ap (λ (t : Walked). t.leg) c.self.view_is ∙ c.requires) in
    let b = name_within c.names.result.now c.self.inside.name (c.self.inside.reached + 1) (c.names.ensures.value ∙ c.self.invariant.0) less in
    omega (arith, b)

pub child-requires : goal.child-requires
child-requires c =
    let less = before_last _ Sync _ _ c.self.invariant.5 (ap (λ (t : Walked). t.leg) c.self.view_is ∙ c.requires) in
    gone_path c.names.result.now c.self.inside.next c.self.inside.name (c.self.inside.reached + 1) _ _ c.names.ensures.path (c.names.ensures.value ∙ c.self.invariant.0) c.self.invariant.2 (omega arith) less c.index-names-self.is

pub returns : goal.returns
returns c =
    let less = before_last _ Sync _ _ c.self.invariant.5 (ap (λ (t : Walked). t.leg) c.self.view_is ∙ c.requires) in
    let on = gone_on c.names.result.now c.self.inside.next c.self.inside.name (c.self.inside.reached + 1) _ _ (c.names.ensures.value ∙ c.self.invariant.0) c.self.invariant.2 (omega arith) less c.index-names-self.is in
    let same : way_to (c.self.inside.reached + 1 + 1) c.self.inside.name ≡ way_to (c.args.self.now.reached + 2) c.args.self.now.name = ap (λ n. way_to n c.self.inside.name) (omega arith) ∙ ap (λ (t : Walked). way_to (t.reached + 2) t.name) c.self.view_is in
    subst (λ q. IfOk c.child.result (λ p. p ≡ q)) (on ∙ same) c.child.ensures

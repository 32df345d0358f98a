use Rattle.std.proofs.Common.{sym, ◌∙◌, ◌≡◌, ap, subst, ◌+◌, arith}
use Rattle.ref_room.specs.declared.way.Leg.TheVariants.{Sync}
use Rattle.ref_room.specs.Clash.{way_to}
use Rattle.ref_room.specs.Way.{Walked, leg_of, next_in}
use Rattle.ref_room.proofs.WayData.{before_last, heads_shorter, leg_at-of, leg_by_length}
use Rattle.ref_room.proofs.way.Way.arrive.Goals as goal

pub overflow_add-self : goal.overflow_add-self
overflow_add-self c = let few = c.self.invariant.6.few in let less = c.self.invariant.4 in omega (arith, few, less)

pub leg_at-self-inside-requires : goal.leg_at-self-inside-requires
leg_at-self-inside-requires c = heads_shorter c.self.inside.at c.self.inside.name c.self.invariant.0

pub invariant_of-self : goal.invariant_of-self
invariant_of-self c =
    let less = before_last _ Sync _ _ c.self.invariant.5 (ap (λ (t : Walked). t.leg) c.self.view_is ∙ c.requires.leg) in
    let leg = leg_by_length c.self.inside.at c.self.inside.name (c.self.inside.reached + 1) _ c.self.invariant.0 c.leg_at-self-inside.ensures in
    let same : way_to (c.args.self.now.reached + 2) c.args.self.now.name ≡ way_to (c.self.inside.reached + 1 + 1) c.self.inside.name = sym (ap (λ n. way_to n c.self.inside.name) (omega arith) ∙ ap (λ (t : Walked). way_to (t.reached + 2) t.name) c.self.view_is) in (
      c.self.invariant.0,
      c.replace.ensures.value ∙ c.self.invariant.2,
      c.replace.ensures.after ∙ c.requires.beyond ∙ same,
      c.self.invariant.3,
      less,
      subst (λ l. leg_of l (c.self.inside.reached + 1) c.self.inside.name) (sym leg) (leg_at-of (c.self.inside.reached + 1) c.self.inside.name less),
      c.self.invariant.6,
    )

pub returns : goal.returns
returns c =
    let leg = leg_by_length c.self.inside.at c.self.inside.name (c.self.inside.reached + 1) _ c.self.invariant.0 c.leg_at-self-inside.ensures in
    let t : Walked = record { name = c.self.inside.name; reached = c.self.inside.reached; leg = c.self.inside.leg } in
    ap (λ l. record t { reached = t.reached + 1; leg = l }) leg
    ∙ ap (λ l. next_in l t) (sym (ap (λ (t : Walked). t.leg) c.self.view_is ∙ c.requires.leg))
    ∙ ap (λ (t : Walked). next_in t.leg t) c.self.view_is

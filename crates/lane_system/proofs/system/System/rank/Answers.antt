use Rattle.std.proofs.Common.{rules, ◌≡◌, ◌<◌, ◌≤◌, ◌∙◌, ap, sym, subst, arith, List, length, Option}
use Rattle.lane_system.specs.declared.lane.Lane.{Lane}
use Rattle.lane_system.specs.declared.lane.Running.{Running}
use Rattle.lane_system.specs.Lanes.{IsAt}
use Rattle.lane_system.specs.Ranks.{left_of, rank, rank_of}
use Rattle.lane_system.specs.System.{System}
use Rattle.lane_system.proofs.Places.{fewer, not_fewer}
use Rattle.lane_system.proofs.Ranking.{at_lane_past, rank_next, rank_over}
use Rattle.lane_system.proofs.system.System.rank.Goals as goal

pub returns-in_default : goal.returns-in_default
returns-in_default g c =
    let i = c.self.inside in
    let is = sym c.self.view_is in
    let past : length i.lanes.items ≤ c.args.actor = omega (arith, not_fewer _ _ c.in_default.ensures.lookup.0, ap length c.deref.ensures.value) in
    subst (λ (s : System _ _ _ _). 0 ≡ rank g.C.Command.doing s c.args.actor) (sym is) (sym (at_lane_past (rank_of g.C.Command.doing) i.lanes.items c.args.actor past))

pub returns-then-len : goal.returns-then-len
returns-then-len g c =
    let i = c.self.inside in
    let is = sym c.self.view_is in
    let l = c.in-Some.lane.now in
    let at : IsAt i.lanes.items c.args.actor l = subst (λ (xs : List (Lane _ _ _)). IsAt xs c.args.actor l) c.deref.ensures.value (fewer _ _ c.in-Some.ensures.lookup.0, search rules) in
    let most : length l.words.items ≤ length l.replies.items = omega (arith, c.if-len.true, c.len.ensures, c.len-2.ensures, l.words.ok.0, l.replies.ok.0) in
    subst (λ (s : System _ _ _ _). 0 ≡ rank g.C.Command.doing s c.args.actor) (sym is) (sym (rank_over g.C.Command.doing i.lanes.items c.args.actor l at most))

pub returns-in-None : goal.returns-in-None
returns-in-None g c =
    let i = c.self.inside in
    let d = g.C.Command.doing in
    let is = sym c.self.view_is in
    let l = c.in-Some.lane.now in
    let at : IsAt i.lanes.items c.args.actor l = subst (λ (xs : List (Lane _ _ _)). IsAt xs c.args.actor l) c.deref.ensures.value (fewer _ _ c.in-Some.ensures.lookup.0, search rules) in
    let few : length l.replies.items < length l.words.items = omega (arith, c.if-len.false, c.len.ensures, c.len-2.ensures, l.words.ok.0, l.replies.ok.0) in
    subst (λ (s : System _ _ _ _). 340282366920938463463374607431768211455 ≡ rank d s c.args.actor) (sym is) (sym (rank_next d i.lanes.items c.args.actor l at few ∙ ap (λ (o : Option (Running _)). left_of d o) c.in-None.is))

pub returns-in-Some-task : goal.returns-in-Some-task
returns-in-Some-task g c =
    let i = c.self.inside in
    let d = g.C.Command.doing in
    let is = sym c.self.view_is in
    let l = c.in-Some.lane.now in
    let at : IsAt i.lanes.items c.args.actor l = subst (λ (xs : List (Lane _ _ _)). IsAt xs c.args.actor l) c.deref.ensures.value (fewer _ _ c.in-Some.ensures.lookup.0, search rules) in
    let few : length l.replies.items < length l.words.items = omega (arith, c.if-len.false, c.len.ensures, c.len-2.ensures, l.words.ok.0, l.replies.ok.0) in
    subst (λ (s : System _ _ _ _). c.left.result ≡ rank d s c.args.actor) (sym is) (c.left.ensures ∙ sym (rank_next d i.lanes.items c.args.actor l at few ∙ ap (λ (o : Option (Running _)). left_of d o) c.in-Some-task.is))

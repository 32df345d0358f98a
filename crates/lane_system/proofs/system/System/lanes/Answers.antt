use Rattle.std.proofs.Common.{rules, ◌≡◌, ◌≤◌, subst, sym, length}
use Rattle.lane_system.proofs.system.System.lanes.Goals as goal

pub returns-clause-few : goal.returns-clause-few
returns-clause-few g c =
    let i = c.self.inside in
    let same : c.deref.result.now ≡ i.lanes.items = search rules in
    subst (λ xs. length xs ≤ 8) (sym same) c.self.invariant.few

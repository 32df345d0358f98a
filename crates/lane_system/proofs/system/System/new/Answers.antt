use Rattle.std.proofs.Common.{rules, ◌∙◌, ap}
use Rattle.lane_system.proofs.system.System.new.Goals as goal

pub begun-requires-clause-few : goal.begun-requires-clause-few
begun-requires-clause-few g c = c.requires.few

pub begun-requires-clause-idle : goal.begun-requires-clause-idle
begun-requires-clause-idle g c = c.requires.idle

pub begun-requires-clause-rows : goal.begun-requires-clause-rows
begun-requires-clause-rows g c = search rules

pub returns-in-Ok : goal.returns-in-Ok
returns-in-Ok g c =
    let e = c.begun.ensures in
    record { parts = e.parts; deployments = ap (λ v. v.items) e.deployments ∙ (search rules); boots = e.boots; bounds = e.bounds; caused = e.caused; stands = e.stands; back = tt }

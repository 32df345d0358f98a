use Rattle.commands.proofs.Rows.{from_row, to_row}
use Rattle.commands.proofs.laws.replies_are_those_of_lanes.Goals as goal

pub returns-clause-rows : goal.returns-clause-rows
returns-clause-rows c = from_row

pub returns-clause-lanes : goal.returns-clause-lanes
returns-clause-lanes c = to_row

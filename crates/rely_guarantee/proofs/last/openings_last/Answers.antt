use Rattle.rely_guarantee.proofs.Beginnings.{opened_stored, opened_whole, opened_right, opened_unmarked}
use Rattle.rely_guarantee.proofs.last.openings_last.Goals as goal

pub returns-clause-stored : goal.returns-clause-stored
returns-clause-stored c = λ start v name bytes begins tree has. opened_stored start v begins tree name bytes has

pub returns-clause-whole : goal.returns-clause-whole
returns-clause-whole c = λ start v limits commit begins tree whole. opened_whole start v begins tree limits commit whole

pub returns-clause-right : goal.returns-clause-right
returns-clause-right c = λ start v name begins sum right. opened_right start v begins name sum right

pub returns-clause-unmarked : goal.returns-clause-unmarked
returns-clause-unmarked c = λ start v commit begins none. opened_unmarked start v begins commit none

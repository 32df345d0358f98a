use Rattle.durable_store.proofs.Cutting.{all_now, cut_stands, fewer_names, first_different}
use Rattle.durable_store.proofs.Kept.{never_begins, settled_begins}
use Rattle.durable_store.proofs.laws.removals_settle.Goals as goal

pub returns-clause-begins : goal.returns-clause-begins
returns-clause-begins g c doomed v gone = settled_begins doomed v gone

pub returns-clause-never : goal.returns-clause-never
returns-clause-never g c v commit none = never_begins v commit none

pub returns-clause-stands : goal.returns-clause-stands
returns-clause-stands g c limits names next v all was = cut_stands limits g.B.Storing.brings g.B.Storing.config names next v all was

pub returns-clause-listed : goal.returns-clause-listed
returns-clause-listed g c names v listed = all_now names v listed

pub returns-clause-different : goal.returns-clause-different
returns-clause-different g c commits others n ascends rises apart = first_different commits others n ascends rises apart

pub returns-clause-fewer : goal.returns-clause-fewer
returns-clause-fewer g c names next gone v listed all different taken = fewer_names names next gone v listed all different taken

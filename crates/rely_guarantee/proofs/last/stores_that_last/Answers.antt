use Rattle.rely_guarantee.proofs.Finished.{finished_stays}
use Rattle.rely_guarantee.proofs.Lasting.{always_safe, always_from, always_named, always_stays, always_left, always_whole, always_complete}
use Rattle.rely_guarantee.proofs.last.stores_that_last.Goals as goal

pub returns-clause-safe : goal.returns-clause-safe
returns-clause-safe c = always_safe

pub returns-clause-always : goal.returns-clause-always
returns-clause-always c = always_from

pub returns-clause-named : goal.returns-clause-named
returns-clause-named c = always_named

pub returns-clause-stored : goal.returns-clause-stored
returns-clause-stored c = λ out v w name bytes stays kept has. always_stays out v w stays name bytes kept has

pub returns-clause-left : goal.returns-clause-left
returns-clause-left c = λ out v d name bytes on kept has. always_left out v d on name bytes kept has

pub returns-clause-whole : goal.returns-clause-whole
returns-clause-whole c = always_whole

pub returns-clause-complete : goal.returns-clause-complete
returns-clause-complete c = always_complete

pub returns-clause-finished : goal.returns-clause-finished
returns-clause-finished c = finished_stays

use Rattle.durable_store.specs.Removals.{Except}
use Rattle.durable_store.proofs.Kept.{kept_begins, kept_guarded, removal_kept, removal_never, removal_settled, removal_vacant}
use Rattle.durable_store.proofs.Removing.{removal_stands}
use Rattle.durable_store.proofs.laws.removals_stand.Goals as goal

pub returns-clause-begins : goal.returns-clause-begins
returns-clause-begins g c doomed roots depth b v lane all are = kept_begins doomed roots depth b v lane all are

pub returns-clause-unguarded : goal.returns-clause-unguarded
returns-clause-unguarded g c doomed b v lane o kept has guarded = kept_guarded (Except doomed) b v lane kept o guarded has

pub returns-clause-goes_on : goal.returns-clause-goes_on
returns-clause-goes_on g c limits names doomed b lane v w kept writes removal was =
    removal_stands limits g.B.Storing.brings g.B.Storing.config names v w g.S.Writing.writes writes (Except doomed) b lane kept removal was

pub returns-clause-kept : goal.returns-clause-kept
returns-clause-kept g c doomed b b' actor lane v w spared same writes removal kept = removal_kept (Except doomed) b b' actor lane v w g.S.Writing.writes spared same writes removal kept

pub returns-clause-settled : goal.returns-clause-settled
returns-clause-settled g c doomed v w writes removal is = removal_settled (Except doomed) v w g.S.Writing.writes writes removal is

pub returns-clause-never : goal.returns-clause-never
returns-clause-never g c doomed v w commit writes removal never = removal_never (Except doomed) v w g.S.Writing.writes writes removal commit never

pub returns-clause-gone : goal.returns-clause-gone
returns-clause-gone g c doomed v w p writes removal none = removal_vacant (Except doomed) v w g.S.Writing.writes writes removal p none

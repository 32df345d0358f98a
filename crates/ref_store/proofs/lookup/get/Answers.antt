use Rattle.std.proofs.Common.{sym, subst}
use Rattle.ref_store.specs.Lookup.{IsThere, IsRef}
use Rattle.ref_store.proofs.Lookups.{ref_there}
use Rattle.ref_store.proofs.lookup.get.Goals as goal

pub returns-clause-told : goal.returns-clause-told
returns-clause-told g c = λ v told.
    let there = subst (λ p. IsThere v.now p c.in_ok-there.there) c.in_ok-path.ensures (c.in_ok-there.ensures.told v told) in
    subst (IsRef v.now c.args.name.now) (sym c.ref_of.ensures) (ref_there v.now c.args.name.now c.in_ok-there.there there)

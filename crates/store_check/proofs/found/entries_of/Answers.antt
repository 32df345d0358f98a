use Rattle.std.proofs.lemmas.Option.{IfSome_then}
use Rattle.store_check.proofs.Folding.{in_some}
use Rattle.store_check.proofs.found.entries_of.Goals as goal

pub returns-in-Some-clause-told : goal.returns-in-Some-clause-told
returns-in-Some-clause-told g c = λ v told.
    IfSome_then c.entries_in.result c.entries_in.ensures (λ t reads. record { bytes = _; stored = (c.requires v told).each _ _ c.in-Some.ensures; reads = reads })

pub returns-in-Some-2-clause-told : goal.returns-in-Some-2-clause-told
returns-in-Some-2-clause-told g c = λ v told.
    IfSome_then c.entries_in-in-Some-2.result c.entries_in-in-Some-2.ensures (λ t reads. record { bytes = c.bytes.result.now; stored = rw c.bytes.ensures (in_some _ _ _ c.in-Some-2.is (c.in_ok-object.ensures.told v told)); reads = reads })

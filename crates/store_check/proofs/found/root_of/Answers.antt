use Rattle.std.proofs.lemmas.Option.{IfSome_then}
use Rattle.store_check.proofs.Folding.{in_some}
use Rattle.store_check.proofs.found.root_of.Goals as goal

pub returns-in-Some-clause-told : goal.returns-in-Some-clause-told
returns-in-Some-clause-told g c = λ v told.
    IfSome_then c.root_in.result c.root_in.ensures (λ root of. (of.0, record { bytes = _; stored = (c.requires v told).each _ _ c.in-Some.ensures; reads = of.1 }, of.2, of.3))

pub returns-in-Some-2-clause-told : goal.returns-in-Some-2-clause-told
returns-in-Some-2-clause-told g c = λ v told.
    IfSome_then c.root_in-in-Some-2.result c.root_in-in-Some-2.ensures (λ root of. (of.0, record { bytes = c.bytes.result.now; stored = rw c.bytes.ensures (in_some _ _ _ c.in-Some-2.is (c.in_ok-object.ensures.told v told)); reads = of.1 }, of.2, of.3))

use Rattle.std.proofs.Common.{arith, subst}
use Rattle.places.specs.Roomy.{AreRoomy}
use Rattle.places.proofs.Rooms.{AreRoomy-front, AreRoomy-last}
use Rattle.places.proofs.pool.Pool.place.Goals as goal
use Rattle.places.proofs.pool.Pool.place.Goals.{in-Some, in-None}

pub fill-requires-in-Some-clause-empty : goal.fill-requires-in-Some-clause-empty
fill-requires-in-Some-clause-empty c = (AreRoomy-last c.pop.new.self.items c.in-Some.buffer (subst AreRoomy c.in-Some.ensures.items c.self.invariant)).0

pub invariant_of-self : goal.invariant_of-self
invariant_of-self c = AreRoomy-front c.pop.new.self.items _ (subst AreRoomy c.pop.ensures.items c.self.invariant)

pub returns-after-pop-clause-sure : goal.returns-after-pop-clause-sure
returns-after-pop-clause-sure c = λ some.
    elim c.match-pop.branch [
      | in-Some w ↦ rw w.result-is (w.fill-in-Some.ensures.sure (AreRoomy-last c.pop.new.self.items w.in-Some.buffer (subst AreRoomy w.in-Some.ensures.items c.self.invariant)).1)
      | in-None w ↦ let z = w.in-None.ensures.cases.0 in let o = c.self.inside.buffers.ok.0 in let v = c.self.view_is in absurd (omega (arith, some, z, o, v))
    ]

-- Of lists of buffers.
use Rattle.std.proofs.Common.{◌≡◌, ◌≤◌, ℕ, List, [], ◌∷◌, ◌++◌}
use Rattle.std.specs.declared.vec.Vec.{Vec}
use Rattle.std.specs.declared.alloc.Global.{Global}
use Rattle.std.specs.Vec.{vec_capacity}
use Rattle.places.specs.Roomy.{AreRoomy}

pub AreRoomy-push : (bs : List (Vec ℕ Global)) (b : Vec ℕ Global) → AreRoomy bs → b.items ≡ [] → 2048 ≤ vec_capacity b → AreRoomy (bs ++ b ∷ [])
AreRoomy-push [] b are empty big = (empty, big, tt)
AreRoomy-push (x ∷ bs) b are empty big = (are.0, are.1, AreRoomy-push bs b are.2 empty big)

pub AreRoomy-front : (bs cs : List (Vec ℕ Global)) → AreRoomy (bs ++ cs) → AreRoomy bs
AreRoomy-front [] cs are = tt
AreRoomy-front (x ∷ bs) cs are = (are.0, are.1, AreRoomy-front bs cs are.2)

pub AreRoomy-last : (bs : List (Vec ℕ Global)) (b : Vec ℕ Global) → AreRoomy (bs ++ b ∷ []) → (b.items ≡ []) × (2048 ≤ vec_capacity b)
AreRoomy-last [] b are = (are.0, are.1)
AreRoomy-last (x ∷ bs) b are = AreRoomy-last bs b are.2

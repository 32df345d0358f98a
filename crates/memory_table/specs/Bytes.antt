-- Maps whose keys are runs of bytes, read by the bytes.
use Rattle.std.specs.Prelude.{◌≡◌, ◌≢◌, ℕ, Bool, true, false, List, Option, None}
use Rattle.std.specs.Global.{Vec}
use Rattle.std.specs.BTreeMap.{BTreeMap, get_by}
use Rattle.std.specs.Cmp.Lexicographic.{slice_cmp}
use Rattle.std.specs.Ordering.{nat_cmp}

-- what a map has at these bytes
abbrev pub at_bytes : {V : Type 0} → BTreeMap (Vec ℕ) V → List ℕ → Option V
at_bytes m bytes = get_by (λ k. slice_cmp nat_cmp bytes k.items) m

-- whether a map has anything
abbrev pub HasSome : {V : Type 0} → Bool → BTreeMap (Vec ℕ) V → Type 0
HasSome true m = (x : List ℕ) × (at_bytes m x ≢ None)
HasSome false m = (x : List ℕ) → at_bytes m x ≡ None

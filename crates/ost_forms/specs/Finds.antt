-- What a reader answers: the thing whose form the bytes are, where there is one.
use Rattle.std.specs.Prelude.{◌≡◌, ℕ, List, Option, Some, Result, Ok, Err}
use Rattle.ost_forms.specs.declared.fault.ObjFault.{ObjFault}
use Rattle.ost_forms.specs.declared.fault.ObjFault.TheVariants.{NotNormal, BadSumLength, BadName, NotSorted, BadMode, TooLarge, NoMemory}

-- nothing has these bytes as its form
abbrev pub HasNone : {A : Type 0} → (A → Option (List ℕ)) → List ℕ → Type 0
HasNone {A = A} form bytes = (x : A) → form x ≡ Some bytes → ⊥

-- what was found, seen by see, has these bytes as its form; or nothing has, unless memory ran out
abbrev pub Finds : {X A : Type 0} → (X → A) → (A → Option (List ℕ)) → List ℕ → Result X ObjFault → Type 0
Finds see form bytes (Ok x) = form (see x) ≡ Some bytes
Finds see form bytes (Err NotNormal) = HasNone form bytes
Finds see form bytes (Err BadSumLength) = ⊥
Finds see form bytes (Err BadName) = ⊥
Finds see form bytes (Err NotSorted) = ⊥
Finds see form bytes (Err BadMode) = ⊥
Finds see form bytes (Err (TooLarge n)) = ⊥
Finds see form bytes (Err NoMemory) = Unit {0}

-- What reading answers of bytes that were written.
use Rattle.std.specs.Prelude.{Result, Ok, Err}
use Rattle.ost_forms.specs.declared.fault.ObjFault.{ObjFault}
use Rattle.ost_forms.specs.declared.fault.ObjFault.TheVariants.{NotNormal, BadSumLength, BadName, NotSorted, BadMode, TooLarge, NoMemory}

-- what has P, unless the bytes are too many or memory lacks
abbrev pub ReadsBack : {X : Type 0} → (X → Type 0) → Result X ObjFault → Type 0
ReadsBack P (Ok x) = P x
ReadsBack P (Err (TooLarge n)) = Unit {0}
ReadsBack P (Err NoMemory) = Unit {0}
ReadsBack P (Err NotNormal) = ⊥
ReadsBack P (Err BadSumLength) = ⊥
ReadsBack P (Err BadName) = ⊥
ReadsBack P (Err NotSorted) = ⊥
ReadsBack P (Err BadMode) = ⊥

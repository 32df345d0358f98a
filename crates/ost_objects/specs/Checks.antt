-- What the check of an object answers, and the makers of checked objects.
use Rattle.ost_forms.specs.DirMeta.{object_limit}
use Rattle.std.specs.Prelude.{◌≡◌, ◌≢◌, ◌<◌, ℕ, List, length, Option, Some, Result, Ok, Err}
use Rattle.sha2.specs.Sha256.{sha256}
use Rattle.ost_types.specs.declared.object.Kind.{Kind}
use Rattle.ost_types.specs.declared.object.ObjName.{ObjName}
use Rattle.ost_forms.specs.declared.fault.ObjFault.{ObjFault}
use Rattle.ost_forms.specs.declared.fault.ObjFault.TheVariants as faults
use Rattle.ost_objects.specs.declared.checked.Checked.{Checked}
use Rattle.ost_objects.specs.declared.fault.CheckFault.{CheckFault}
use Rattle.ost_objects.specs.declared.fault.MakeFault.{MakeFault}
use Rattle.ost_objects.specs.declared.fault.MakeFault.TheVariants as makes
use Rattle.ost_objects.specs.declared.fault.CheckFault.TheVariants.{WrongSum, Unreadable, NoMemory}
use Rattle.ost_objects.specs.Object.{IsNamed, IsObject, Misreads}

-- Each answer of the check. The bytes come back as they were.
abbrev pub Checks : ObjName → ℕ → List ℕ → Result Checked (List ℕ × CheckFault) → Type 0
Checks name limit bytes (Ok c) = (c.name ≡ name) × (c.bytes ≡ bytes) × (c.limit ≡ limit) × IsNamed name bytes × IsObject name.kind limit bytes
Checks name limit bytes (Err (b, WrongSum found)) = (b ≡ bytes) × (found ≡ sha256 bytes) × (found ≢ name.csum)
Checks name limit bytes (Err (b, Unreadable e)) = (b ≡ bytes) × IsNamed name bytes × (e ≢ faults.NoMemory) × Misreads name.kind limit bytes e
Checks name limit bytes (Err (b, NoMemory)) = (b ≡ bytes) × IsNamed name bytes

-- Each answer of a maker of an object of the kind, from a value with this form. TooLarge is what its reader would answer.
abbrev pub Makes : Kind → ℕ → Option (List ℕ) → Result Checked MakeFault → Type 0
Makes kind limit form (Ok c) = (c.name.kind ≡ kind) × (c.limit ≡ limit) × (form ≡ Some c.bytes)
Makes kind limit form (Err (makes.TooLarge n)) = (bytes : List ℕ) × (form ≡ Some bytes) × Misreads kind limit bytes (faults.TooLarge n)
Makes kind limit form (Err makes.NoMemory) = Unit {0}

-- What naming bytes answers that may be too many.
abbrev pub Names : Kind → ℕ → List ℕ → Result Checked MakeFault → Type 0
Names kind limit bytes (Ok c) = (c.name.kind ≡ kind) × (c.limit ≡ limit) × (c.bytes ≡ bytes)
Names kind limit bytes (Err (makes.TooLarge n)) = (n ≡ length bytes) × (object_limit < n)
Names kind limit bytes (Err makes.NoMemory) = ⊥

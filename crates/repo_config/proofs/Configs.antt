-- Which texts are configurations, by what was read.
use Rattle.std.proofs.Common.{◌≡◌, ◌≢◌, Bool, true, false, ℕ, ◌≤◌, List, length, sym, ◌∙◌, codes, Ok, Err, Result, subst}
use Rattle.std.specs.Prelude.{IsTrue, IfOk, ◌↔◌}
use Rattle.keyfile.specs.declared.entry.KeyLine.{KeyLine}
use Rattle.keyfile.specs.declared.fault.KeyFault.{KeyFault}
use Rattle.keyfile.specs.declared.fault.KeyFault.TheVariants as fault
use Rattle.keyfile.specs.Reading.{Reads}
use Rattle.keyfile.proofs.OneReading.{one_reading}
use Rattle.repo_config.specs.Config.{IsConfig, SaysOfCore, config_limit}

abbrev pub SaysBoth : List KeyLine → Type 0
SaysBoth entries = SaysOfCore entries (codes "repo_version") (codes "1") × SaysOfCore entries (codes "mode") (codes "bare")

abbrev read : List KeyLine → Result (List KeyLine) KeyFault
read entries = Ok entries

abbrev wrong : KeyFault → Result (List KeyLine) KeyFault
wrong f = Err f

-- what was read is all that the text says
pub from_entries : (bytes : List ℕ) (entries : List KeyLine) → length bytes ≤ config_limit → Reads bytes (Ok entries) → SaysBoth entries → IsConfig bytes
from_entries bytes entries few reads says = record { few = few; entries = entries; reads = reads; version = says.0; mode = says.1 }

pub to_entries : (bytes : List ℕ) (entries : List KeyLine) → Reads bytes (Ok entries) → IsConfig bytes → SaysBoth entries
to_entries bytes entries reads is =
    let one : read is.entries ≡ read entries = one_reading bytes (read is.entries) (read entries) is.reads reads (λ e. cc) (λ e. cc) in
    let same : is.entries ≡ entries = cc in
    subst SaysBoth same (is.version, is.mode)

pub none_of : (bytes : List ℕ) (f : KeyFault) → Reads bytes (Err f) → f ≢ fault.NoMemory → IsConfig bytes → ⊥
none_of bytes f reads other is =
    let one : read is.entries ≡ wrong f = one_reading bytes (read is.entries) (wrong f) is.reads reads (λ e. cc) (λ e. other cc) in
    cc

pub none_told : {E : Type 0} (bytes : List ℕ) (f : KeyFault) → Reads bytes (Err f) → (r : Result Bool E) → IfOk r (λ b. (b ≡ false) × (f ≢ fault.NoMemory)) → IfOk r (λ b. IsTrue b ↔ IsConfig bytes)
none_told bytes f reads (Ok b) told = ((λ e. let n : false ≡ true = sym told.0 ∙ e in cc), (λ is. absurd (none_of bytes f reads told.1 is)))
none_told bytes f reads (Err e) told = tt

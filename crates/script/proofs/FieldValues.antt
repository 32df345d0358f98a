-- From what a field stands for to the value of its text.
use Rattle.std.proofs.Common.{◌≡◌, ◌≢◌, ℕ, List, Option, Some, None, MatchOption, Err, sym, subst}
use Rattle.ost_types.specs.Path.{Path}
use Rattle.ost_types.specs.Parse.{IsParsed}
use Rattle.ost_types.specs.declared.path.parse.PathFault.{PathFault}
use Rattle.ost_types.specs.declared.path.parse.PathFault.TheVariants.{NoMemory}
use Rattle.repo_layout.proofs.KnownPaths.{parsed_only}
use Rattle.script.specs.Field.{Gives, IsField, IsFieldOf, IsNoField, IsPathText}
use Rattle.script.proofs.Spelling.{field_one}

-- what was read of a field, as a slice
pub text_read : (field : List ℕ) (o : Option (List ℕ)) (v w : List ℕ) → MatchOption o (IsNoField field) (IsField field) → o ≡ Some v → w ≡ v → IsField field w
text_read field o v w read is same = subst (IsField field) (sym same) (subst (λ x. MatchOption x (IsNoField field) (IsField field)) is read)

pub no_text : {X : Type 0} (W : List ℕ → X → Type 0) (field : List ℕ) (o : Option (List ℕ)) → MatchOption o (IsNoField field) (IsField field) → o ≡ None → (x : X) → ¬ (IsFieldOf W field x)
no_text W field o read is x of = subst (λ y. MatchOption y (IsNoField field) (IsField field)) is read of.text of.spelled

pub field_gives : {X : Type 0} (W : List ℕ → X → Type 0) (field text : List ℕ) (o : Option X) → IsField field text → Gives (W text) o → Gives (IsFieldOf W field) o
field_gives W field text None is none = λ x of. none x (subst (λ t. W t x) (field_one field of.text text of.spelled is) of.written)
field_gives W field text (Some x) is found = record { text = text; spelled = is; written = found }

-- a field has one value where a text has
pub field_of_one : {X : Type 0} (W : List ℕ → X → Type 0) (field : List ℕ) → ((text : List ℕ) (x y : X) → W text x → W text y → x ≡ y) → (x y : X) → IsFieldOf W field x → IsFieldOf W field y → x ≡ y
field_of_one W field one x y a b = one a.text x y a.written (subst (λ t. W t y) (field_one field b.text a.text b.spelled a.spelled) b.written)

-- what was refused, but for want of memory
pub refused_path : (text : List ℕ) (e : PathFault) → IsParsed text (Err e) → (o : Option Path) → (o ≡ None) × (e ≢ NoMemory) → Gives (IsPathText text) o
refused_path text e err o found = subst (Gives (IsPathText text)) (sym found.0) (λ p is. found.1 (parsed_only text p e is err))

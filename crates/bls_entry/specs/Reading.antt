-- What a text is read as: the entry that its lines say, or the first fault.
use Rattle.std.specs.Prelude.{◌≡◌, ◌≢◌, ◌+◌, ℕ, List, [], ◌∷◌, ◌++◌, length, Option, Some, None, Result, Ok, Err}
use Rattle.bls_entry.specs.declared.entry.BlsEntry.{BlsEntry}
use Rattle.bls_entry.specs.declared.fault.BlsFault.{BlsFault}
use Rattle.bls_entry.specs.declared.fault.BlsFault.TheVariants.{BadLine, NoOptions, NoOstree, NoMemory}
use Rattle.bls_entry.specs.declared.key.Key.TheVariants.{Options}
use Rattle.bls_entry.specs.Line.{Line, line_text, file_text}
use Rattle.bls_entry.specs.Entry.{AreLinesOf, AreSound, MayFollow, NamesOne, value_of}

-- the text is these lines, and nothing is wrong with them
pub record IsWhole (text : List ℕ) (lines : List Line) : Type 0 where
  pub whole : text ≡ file_text lines
  pub sound : AreSound lines

-- the rest begins with this line and its newline
abbrev pub Begins : List ℕ → Line → Type 0
Begins rest line = (behind : List ℕ) × (rest ≡ line_text line ++ 10 ∷ behind)

-- Behind the lines before it, with which nothing is wrong, there is a rest, and no line that it begins with may follow them.
pub record IsBadAt (text : List ℕ) (number : ℕ) : Type 0 where
  pub before : List Line
  pub rest : List ℕ
  pub whole : text ≡ file_text before ++ rest
  pub sound : AreSound before
  pub counted : number ≡ length before + 1
  pub more : rest ≢ []
  pub bad : (line : Line) → Begins rest line → ¬ (MayFollow before line)

-- the options name no deployment, or several
abbrev pub NamesNone : Option (List ℕ) → Type 0
NamesNone None = ⊥
NamesNone (Some options) = ¬ (NamesOne options)

-- Each answer of `read_entry`. Beside want of memory no two hold of one text.
abbrev pub Reads : List ℕ → Result BlsEntry BlsFault → Type 0
Reads text (Ok e) = (lines : List Line) × IsWhole text lines × AreLinesOf e lines
Reads text (Err (BadLine number)) = IsBadAt text number
Reads text (Err NoOptions) = (lines : List Line) × IsWhole text lines × (value_of Options lines ≡ None)
Reads text (Err NoOstree) = (lines : List Line) × IsWhole text lines × NamesNone (value_of Options lines)
Reads text (Err NoMemory) = Unit {0}

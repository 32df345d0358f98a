-- What a text is read as: the entries of its lines, or the first fault.
use Rattle.std.specs.Prelude.{◌≡◌, ◌≢◌, ◌+◌, ℕ, List, [], ◌∷◌, ◌++◌, length, Result, Ok, Err}
use Rattle.keyfile.specs.declared.entry.KeyLine.{KeyLine}
use Rattle.keyfile.specs.declared.fault.KeyFault.{KeyFault}
use Rattle.keyfile.specs.declared.fault.KeyFault.TheVariants.{BadLine, NoGroup, Repeated, NoMemory}
use Rattle.keyfile.specs.Line.{Line, IsLine, line_text, file_text}
use Rattle.keyfile.specs.Faults.{IsAlone, Repeats, AreSound}
use Rattle.keyfile.specs.Entries.{entries_of}

-- the text is sound lines and the rest behind them, whose first line has this number
pub record Leaves (text : List ℕ) (number : ℕ) (before : List Line) (rest : List ℕ) : Type 0 where
  pub whole : text ≡ file_text before ++ rest
  pub sound : AreSound before
  pub counted : number ≡ length before + 1

-- the rest begins with this line
abbrev pub Begins : List ℕ → Line → Type 0
Begins rest line = (behind : List ℕ) × (rest ≡ line_text line ++ 10 ∷ behind) × IsLine line

-- there is a rest, and it begins with no line and its newline
pub record IsBad (rest : List ℕ) : Type 0 where
  pub more : rest ≢ []
  pub no_line : (line : Line) → ¬ (Begins rest line)

pub record IsBadAt (text : List ℕ) (number : ℕ) : Type 0 where
  pub before : List Line
  pub rest : List ℕ
  pub leaves : Leaves text number before rest
  pub bad : IsBad rest

pub record IsAloneAt (text : List ℕ) (number : ℕ) : Type 0 where
  pub before : List Line
  pub rest : List ℕ
  pub line : Line
  pub leaves : Leaves text number before rest
  pub begins : Begins rest line
  pub alone : IsAlone before line

pub record RepeatsAt (text : List ℕ) (number : ℕ) : Type 0 where
  pub before : List Line
  pub rest : List ℕ
  pub line : Line
  pub leaves : Leaves text number before rest
  pub begins : Begins rest line
  pub repeats : Repeats before line

-- All lines are sound, and these are their entries; else the first line that is not sound is told, and what is wrong with it.
abbrev pub Reads : List ℕ → Result (List KeyLine) KeyFault → Type 0
Reads text (Ok entries) = (lines : List Line) × (text ≡ file_text lines) × AreSound lines × (entries ≡ entries_of lines)
Reads text (Err (BadLine number)) = IsBadAt text number
Reads text (Err (NoGroup number)) = IsAloneAt text number
Reads text (Err (Repeated number)) = RepeatsAt text number
Reads text (Err NoMemory) = Unit {0}

-- What the words and the input ask for, from what was read of them.
use Rattle.std.proofs.Common.{◌≡◌, ◌≢◌, ◌⊎◌, inl, inr, ℕ, List, Option, Some, Result, Ok, Err, IfErr, refl, sym, ◌∙◌, subst, arith}
use Rattle.std.proofs.lemmas.List.{take_all}
use Rattle.command_line.specs.Words.{SayNothing}
use Rattle.command_line.specs.declared.fault.LineFault.{LineFault}
use Rattle.command_line.specs.declared.fault.LineFault.TheVariants as line
use Rattle.command_line.proofs.Lines.{fields_once}
use Rattle.script.proofs.Alone.{commit_alone}
use Rattle.script.specs.Words.{ReadsWords, IsUnknown, IsWritten}
use Rattle.script.specs.declared.command.Written.{Written}
use Rattle.script.specs.declared.command.Written.TheVariants as written
use Rattle.script.specs.declared.fault.ScriptFault.{ScriptFault}
use Rattle.script.specs.declared.fault.ScriptFault.TheVariants.{BadLine, TooLong, TooManyLanes, TooManyCommands, UnknownTree, NoMemory}
use Rattle.script_reader.specs.Script.{Commands, IsFault, IsScript}
use Rattle.top_call.specs.declared.fault.TopFault.{TopFault}
use Rattle.top_call.specs.declared.fault.TopFault.TheVariants as fault
use Rattle.top_call.specs.Input.{input_limit, IsRead, TookFront}
use Rattle.top_call.specs.Words.{AreNoLine, AreNoLone, AreNoRequest, AreRefused, HasFields, Heard, IsMisread, IsRefused, IsUnread, Runs, run}
use Rattle.top_call.proofs.Reading.{front_of}

-- a commit is written by no words of another command
unknown : (words : List (List ℕ)) (w : Written) (n : ℕ) → IsWritten words w → IsUnknown 0 w n → AreNoLone words
unknown words (written.Command d) n is known c lone = known
unknown words (written.Commit l) n is known c lone = commit_alone words c l lone is

pub no_lone : (words : List (List ℕ)) (e : ScriptFault) → ReadsWords words (Err e) → e ≢ NoMemory → AreNoLone words
no_lone words (BadLine n) is other = λ c lone. is.1 (written.Command c) lone
no_lone words (UnknownTree n) is other = unknown words is.0 n is.1 is.2
no_lone words NoMemory is other = absurd (other refl)
no_lone words TooLong is other = absurd is
no_lone words TooManyLanes is other = absurd is
no_lone words TooManyCommands is other = absurd is

pub told_fault : (bytes : List ℕ) (e : ScriptFault) → e ≢ NoMemory → IsFault bytes e → IsUnread bytes (fault.Script e)
told_fault bytes e other is = (other, is)

-- ---- the input

pub heard : (left after : Option (List ℕ)) (bytes : List ℕ) → ((all : List ℕ) → left ≡ Some all → IsRead all bytes after) → Heard left bytes
heard left after bytes read = λ all told. (read all told).front

pub took : (left after : Option (List ℕ)) (bytes : List ℕ) → ((all : List ℕ) → left ≡ Some all → IsRead all bytes after) → (all : List ℕ) → left ≡ Some all → TookFront all after
took left after bytes read all told = front_of all bytes after (read all told)

misread : (left : Option (List ℕ)) (bytes slice : List ℕ) (before now : ℕ) (f : TopFault) → Heard left bytes → slice ≡ bytes → IsUnread slice f → IsMisread left before now f
misread left bytes slice before now fault.Usage heard same is = is
misread left bytes slice before now (fault.Script e) heard same is = (bytes, heard, subst (λ b. IsUnread b (fault.Script e)) same is)
misread left bytes slice before now fault.Input heard same is = absurd is
misread left bytes slice before now (fault.Open f) heard same is = is
misread left bytes slice before now fault.NoMemory heard same is = tt

pub all_misread : {X : Type 0} (left : Option (List ℕ)) (bytes slice : List ℕ) (before now : ℕ) (r : Result X TopFault) → Heard left bytes → slice ≡ bytes → IfErr r (IsUnread slice) → IfErr r (IsMisread left before now)
all_misread left bytes slice before now (Ok x) heard same is = tt
all_misread left bytes slice before now (Err f) heard same is = misread left bytes slice before now f heard same is

-- a script isn't longer than what is read
pub whole_script : {X : Type 0} (left : Option (List ℕ)) (bytes slice all : List ℕ) (lanes : List Commands) (r : Result X TopFault) → Heard left bytes → slice ≡ bytes → left ≡ Some all → IsScript all lanes
    → ((lanes : List Commands) → IsScript slice lanes → IfErr r (λ e. e ≡ fault.NoMemory)) → IfErr r (λ e. (e ≡ fault.Input) ⊎ (e ≡ fault.NoMemory))
whole_script left bytes slice all lanes r heard same told script exact =
    let is : slice ≡ all = same ∙ heard all told ∙ take_all input_limit all (omega (arith, script.few)) in
    either r (exact lanes (subst (λ b. IsScript b lanes) (sym is) script))
  where
    either : {X : Type 0} (r : Result X TopFault) → IfErr r (λ e. e ≡ fault.NoMemory) → IfErr r (λ e. (e ≡ fault.Input) ⊎ (e ≡ fault.NoMemory))
    either (Ok x) is = tt
    either (Err e) is = inr is

-- ---- the words

-- the fields of words are one list
pub one_line : (words a b : List (List ℕ)) → HasFields words a → HasFields words b → a ≡ b
one_line words a b x y = fields_once words x.0 y.0 x.1 y.1 a b x.2 y.2

refused : (left : Option (List ℕ)) (words fields : List (List ℕ)) (before now : ℕ) (f : TopFault) → HasFields words fields → AreRefused left fields before now f → IsRefused left words before now f
refused left words fields before now fault.Usage has none = λ other is. subst AreNoRequest (one_line words fields other has is) none
refused left words fields before now (fault.Script e) has is = (subst (HasFields words) is.0 has, is.1)
refused left words fields before now fault.Input has is = (subst (HasFields words) is.0 has, is.1)
refused left words fields before now (fault.Open e) has is = is
refused left words fields before now fault.NoMemory has is = tt

pub refused_from : {X : Type 0} (left : Option (List ℕ)) (words fields : List (List ℕ)) (before now : ℕ) (r : Result X TopFault) → HasFields words fields → IfErr r (AreRefused left fields before now) → IfErr r (IsRefused left words before now)
refused_from left words fields before now (Ok x) has is = tt
refused_from left words fields before now (Err f) has is = refused left words fields before now f has is

-- words that say nothing are refused
pub usage_from : (words : List (List ℕ)) (why : LineFault) → why ≡ line.Usage → (why ≡ line.NoMemory) ⊎ ((why ≡ line.Usage) × SayNothing words) → AreNoLine words
usage_from words why is (inl memory) = let n : line.Usage ≡ line.NoMemory = sym is ∙ memory in absurd (no_memory n)
  where
    no_memory : line.Usage ≡ line.NoMemory → ⊥
    no_memory e = cc
usage_from words why is (inr none) = λ fields has. absurd (none.1 has.0 has.1 fields has.2)

pub refusal_is : (left : Option (List ℕ)) (words : List (List ℕ)) (before now : ℕ) (f : TopFault) → (f ≡ fault.NoMemory) ⊎ ((f ≡ fault.Usage) × AreNoLine words) → IsRefused left words before now f
refusal_is left words before now f (inl is) = subst (IsRefused left words before now) (sym is) tt
refusal_is left words before now f (inr is) = subst (IsRefused left words before now) (sym is.0) is.1

pub refusal_exact : (words : List (List ℕ)) (f : TopFault) → (f ≡ fault.NoMemory) ⊎ ((f ≡ fault.Usage) × AreNoLine words) → Runs words → (f ≡ fault.Input) ⊎ (f ≡ fault.NoMemory)
refusal_exact words f (inl is) runs = inr is
refusal_exact words f (inr is) runs = absurd ((is.1 run runs).1 refl)

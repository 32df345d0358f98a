-- What the whole call tells of its words and of its input.
use Rattle.std.proofs.Common.{◌≡◌, ◌≢◌, ◌⊎◌, inl, inr, ⊎_elim, ℕ, List, [], ◌∷◌, map, Option, Some, None, IfSome, Result, Ok, Err, IfErr, refl, sym, ◌∙◌, subst, arith}
use Rattle.std.specs.Global.{Vec}
use Rattle.fs_trait.specs.View.{View}
use Rattle.fs_trait.proofs.Kept.{same_view}
use Rattle.sys_open.specs.Changes.{Changes, Works}
use Rattle.rely_guarantee.specs.declared.books.Entry.{Entry}
use Rattle.rely_guarantee.specs.declared.event.Event.{Event}
use Rattle.script.specs.declared.answer.Reply.{Reply}
use Rattle.script.specs.declared.fault.ScriptFault.{ScriptFault}
use Rattle.script_reader.specs.Script.{Commands}
use Rattle.sys_open.specs.declared.fault.OpenFault.{OpenFault}
use Rattle.top_call.specs.declared.fault.TopFault.{TopFault}
use Rattle.top_call.specs.declared.fault.TopFault.TheVariants.{Usage, Script, Input, Open, NoMemory}
use Rattle.top_call.specs.Call.{HasRun}
use Rattle.top_call.specs.Text.{output_of}
use Rattle.top_call.specs.Top.{IsUnused, Prints}
use Rattle.top_call.specs.Words.{AreNoLine, AreNoRequest, AskFor, IsEarly, IsLine, IsRefused, Runs, run}

no_request : (left : Option (List ℕ)) (fields : List (List ℕ)) (lanes : List Commands) → AskFor left fields lanes → AreNoRequest fields → ⊥
no_request left fields lanes (inl is) none = none.0 is.0
no_request left fields lanes (inr (inl is)) none = none.1 is.0
no_request left fields lanes (inr (inr is)) none = none.2 is.0 is.2

pub no_line : (left : Option (List ℕ)) (words : List (List ℕ)) (lanes : List Commands) → IsLine left words lanes → AreNoLine words → ⊥
no_line left words lanes is none = no_request left is.0 lanes is.2 (none is.0 is.1)

pub usage_early : (Q : Type 0) (left : Option (List ℕ)) (words : List (List ℕ)) (before now : ℕ) (fault : Option TopFault) → IfSome fault (λ f. IsEarly f → Q × IsRefused left words before now f) → fault ≡ Some Usage → AreNoLine words
usage_early Q left words before now None early is = let n : None ≡ Some Usage = is in cc
usage_early Q left words before now (Some f) early is = let same : f ≡ Usage = cc in (subst (λ f. IsEarly f → Q × IsRefused left words before now f) same early tt).1

pub usage_printed : (printed fault : Option TopFault) → (printed ≡ fault) ⊎ (printed ≡ Some NoMemory) → printed ≡ Some Usage → fault ≡ Some Usage
usage_printed printed fault (inl same) is = sym same ∙ is
usage_printed printed fault (inr memory) is = let n : Some NoMemory ≡ Some Usage = sym memory ∙ is in cc

pub early_printed : (P : TopFault → Type 0) (printed fault : Option TopFault) → (printed ≡ fault) ⊎ (printed ≡ Some NoMemory) → IfSome fault (λ f. IsEarly f → P f) → IfSome printed (λ f. IsEarly f → P f)
early_printed P printed fault (inl same) early = subst (λ o. IfSome o (λ f. IsEarly f → P f)) (sym same) early
early_printed P printed fault (inr memory) early = subst (λ o. IfSome o (λ f. IsEarly f → P f)) (sym memory) (λ e. absurd e)

pub script_printed : (e : ScriptFault) (printed fault : Option TopFault) → (printed ≡ fault) ⊎ (printed ≡ Some NoMemory) → fault ≢ Some (Script e) → printed ≢ Some (Script e)
script_printed e printed fault (inl same) none is = none (sym same ∙ is)
script_printed e printed fault (inr memory) none is = let n : Some NoMemory ≡ Some (Script e) = sym memory ∙ is in cc

other_fault : (e : ScriptFault) (f : TopFault) → f ≡ Script e → (f ≡ Input) ⊎ (f ≡ NoMemory) → ⊥
other_fault e f is (inl input) = let n : Script e ≡ Input = sym is ∙ input in cc
other_fault e f is (inr memory) = let n : Script e ≡ NoMemory = sym is ∙ memory in cc

pub no_script : (left : Option (List ℕ)) (words : List (List ℕ)) (before now : ℕ) (f : TopFault) (e : ScriptFault) → IsRefused left words before now f → (Runs words → (f ≡ Input) ⊎ (f ≡ NoMemory)) → f ≡ Script e → ⊥
no_script left words before now f e refused exact is = other_fault e f is (exact (subst (IsRefused left words before now) is refused).0)

pub same_fault : (f g : TopFault) → Some f ≡ Some g → f ≡ g
same_fault f g same = cc

-- where lanes ran there was no fault before the printing
pub no_fault : (printed fault : Option TopFault) (history : List Entry) (pending : Option Event) (replies : List (List Reply)) → (printed ≡ fault) ⊎ (printed ≡ Some NoMemory)
    → (fault ≢ None → IsUnused history pending replies) → HasRun printed replies → fault ≡ None
no_fault printed None history pending replies same unused ran = refl
no_fault printed (Some f) history pending replies same unused (inl none) = ⊎_elim (λ is. (let n : Some f ≡ None = sym is ∙ none in cc)) (λ is. (let n : Some NoMemory ≡ None = sym is ∙ none in cc)) same
no_fault printed (Some f) history pending replies same unused (inr some) = absurd (some (unused (λ is. (let n : Some f ≡ None = is in cc))).replies_are)

-- a fault, and no reply: no lane was run
pub unused_printed : (P : Type 0) (printed fault : Option TopFault) (replies : List (Vec Reply)) → (fault ≢ None → P) → (fault ≡ None → replies ≡ [] → printed ≡ None) → HasRun printed (map (λ lane. lane.items) replies) ⊎ P
unused_printed P printed None [] unused silent = inl (inl (silent refl refl))
unused_printed P printed None (lane ∷ replies) unused silent = inl (inr (λ none. let n : lane.items ∷ map (λ l. l.items) replies ≡ [] = none in cc))
unused_printed P printed (Some f) replies unused silent = inr (unused (λ none. let n : Some f ≡ None = none in cc))

pub no_line_printed : (printed fault : Option TopFault) → (printed ≡ fault) ⊎ (printed ≡ Some NoMemory) → (fault ≡ Some Usage) ⊎ (fault ≡ Some NoMemory) → (printed ≡ Some Usage) ⊎ (printed ≡ Some NoMemory)
no_line_printed printed fault (inr memory) told = inr memory
no_line_printed printed fault (inl same) (inl usage) = inl (same ∙ usage)
no_line_printed printed fault (inl same) (inr memory) = inr (same ∙ memory)

pub failed_printed : (P : Type 0) (printed fault : Option TopFault) → (printed ≡ fault) ⊎ (printed ≡ Some NoMemory) → (fault ≡ Some Input) ⊎ P → (printed ≡ Some Input) ⊎ (printed ≡ Some NoMemory) ⊎ P
failed_printed P printed fault same (inr holds) = inr (inr holds)
failed_printed P printed fault (inl same) (inl input) = inl (same ∙ input)
failed_printed P printed fault (inr memory) (inl input) = inr (inl memory)

-- what was printed of the replies as a slice was printed of them
pub output_printed : (had : List ℕ) (fault : Option TopFault) (rows replies : List (Vec Reply)) (before now : ℕ) (taken : Option (List ℕ)) → rows ≡ replies
    → Prints had (output_of fault (map (λ lane. lane.items) rows)) before now taken → Prints had (output_of fault (map (λ lane. lane.items) replies)) before now taken
output_printed had fault rows replies before now taken same printed = subst (λ r. Prints had (output_of fault (map (λ lane. lane.items) r)) before now taken) same printed

-- what is so of a fault, and of want of memory, is so of the one that is printed
pub fault_printed : (P : TopFault → Type 0) (printed fault : Option TopFault) → (printed ≡ fault) ⊎ (printed ≡ Some NoMemory) → P NoMemory → IfSome fault P → IfSome printed P
fault_printed P printed fault (inl same) memory told = subst (λ o. IfSome o P) (sym same) told
fault_printed P printed fault (inr is) memory told = subst (λ o. IfSome o P) (sym is) memory

pub some_fault : (P : Type 0) (fault : Option TopFault) → IfSome fault (λ f. P) → fault ≢ None → P
some_fault P None holds some = absurd (some refl)
some_fault P (Some f) holds some = holds

-- what came back is what was opened
pub back_from : {X F : Type 0} (Q : TopFault → Type 0) (P : F → Type 0) (opened : F) (r : Result X (F × TopFault)) → IfErr r (λ e. (e.0 ≡ opened) × Q e.1) → P opened → IfErr r (λ e. P e.0)
back_from Q P opened (Ok x) back holds = tt
back_from Q P opened (Err e) back holds = subst P (sym back.0) holds

-- words that are no command line are told so
pub told_usage : (left : Option (List ℕ)) (words : List (List ℕ)) (before now : ℕ) (f : TopFault) (o : Option TopFault) → o ≡ Some f → IsRefused left words before now f → AreNoLine words → (o ≡ Some Usage) ⊎ (o ≡ Some NoMemory)
told_usage left words before now Usage o is refused none = inl is
told_usage left words before now (Script e) o is refused none = absurd ((none run refused.0).1 refl)
told_usage left words before now Input o is refused none = absurd ((none run refused.0).1 refl)
told_usage left words before now (Open e) o is refused none = absurd refused
told_usage left words before now NoMemory o is refused none = inr is

-- where nothing was done
pub works_same : {F : Type 0} (view : F → Option View) (clock : F → ℕ) (was : F → ℕ → View → Type 0) (f g : F) (v : View) → g ≡ f → view f ≡ Some v
    → (fault : Option TopFault) → IfSome fault (λ _. Works (Changes v.now) v (clock f) (clock g) (was f) (was g) (view g))
works_same view clock was f g v same told None = tt
works_same view clock was f g v same told (Some fault) = subst (λ h. Works (Changes v.now) v (clock f) (clock h) (was f) (was h) (view h)) (sym same)
    (record { later = omega arith; left = (v, told, same_view (Changes v.now) v); nothing_else = λ t w is. inl is; keeps = λ t w le past. past })

-- a fault of the opening is none of the words or of the input
pub open_refused : (left : Option (List ℕ)) (words : List (List ℕ)) (before now : ℕ) (told : TopFault) (f : OpenFault) → told ≡ Open f → IsRefused left words before now told → ⊥
open_refused left words before now told f is refused = subst (IsRefused left words before now) is refused

pub open_printed : (f : OpenFault) (printed fault : Option TopFault) → (printed ≡ fault) ⊎ (printed ≡ Some NoMemory) → printed ≡ Some (Open f) → fault ≡ Some (Open f)
open_printed f printed fault (inl same) is = sym same ∙ is
open_printed f printed fault (inr memory) is = let n : Some NoMemory ≡ Some (Open f) = sym memory ∙ is in cc

-- Every command has an answer of its own where the words, the script and the disk are good and no call failed.
use Rattle.std.proofs.Common.{◌≡◌, ◌⊎◌, inl, inr, ◌≤◌, ℕ, Bool, true, false, nat_lt, List, [], map, Option, Some, None, IfSome, Result, Ok, Err, IfOk, refl, sym, ◌∙◌, subst, ap, arith}
use Rattle.std.proofs.lemmas.Bool.Decides.{nat_tests}
use Rattle.fs_trait.specs.Count.{Rose}
use Rattle.fs_trait.specs.View.{Disk}
use Rattle.script.specs.Words.{IsCommand}
use Rattle.script.specs.declared.answer.Reply.{Reply}
use Rattle.script.specs.declared.command.Command.{Command}
use Rattle.script.specs.declared.command.Command.TheVariants as command
use Rattle.script.specs.declared.fault.ScriptFault.{ScriptFault}
use Rattle.script_reader.specs.Script.{Commands, IsScript}
use Rattle.commands.specs.Lanes.{IsReplyTo}
use Rattle.sys_open.specs.declared.fault.OpenFault.{OpenFault}
use Rattle.sys_open.specs.declared.fault.OpenFault.TheVariants as opening
use Rattle.sys_open.proofs.Exclusive.{fault_good}
use Rattle.top_call.specs.declared.fault.TopFault.{TopFault}
use Rattle.top_call.specs.declared.fault.TopFault.TheVariants.{Usage, Script, Input, Open, NoMemory}
use Rattle.top_call.specs.declared.lanes.LanesEnd.{LanesEnd}
use Rattle.top_call.specs.Complete.{AreCausedBy, Ask, IsAsked, IsComplete, IsGoodHere}
use Rattle.top_call.specs.Status.{has_risen, status_of}
use Rattle.top_call.specs.Top.{IsStopped}
use Rattle.top_call.specs.Words.{AreNoLine, AreNoRequest, IsEarly, IsRefused, Runs, init, run}
use Rattle.top_call.proofs.Asking.{one_line}
use Rattle.top_call.proofs.Statuses.{replies_small, status_small}

risen_tested : (before now : ℕ) → has_risen before now ≡ true → Rose before now
risen_tested before now is = grind (arith, nat_tests)

-- `run` is no command
not_run : (command : Command) (fields : List (List ℕ)) → IsCommand run command → ⊥
not_run command.Refs fields is = let e = is.line in cc
not_run command.Status fields is = let e = is.line in cc
not_run (command.RevParse rev) fields is = let e = is.line in cc
not_run (command.Log rev) fields is = let e = is.line in cc
not_run (command.Ls rev path) fields is = let e = is.line in cc
not_run (command.Cat rev path) fields is = let e = is.line in cc
not_run (command.Checkout rev name) fields is = let e = is.line in cc
not_run (command.Reset branch commit) fields is = let e = is.line in cc
not_run (command.DropRef branch) fields is = let e = is.line in cc
not_run (command.Prune depth) fields is = let e = is.line in cc
not_run command.Cleanup fields is = let e = is.line in cc
not_run (command.Commit branch tree subject body time) fields is = let e = is.line in cc

a_request : (left : Option (List ℕ)) (fields : List (List ℕ)) → Ask left fields → AreNoRequest fields → ⊥
a_request left fields (inl is) none = none.0 is
a_request left fields (inr (inl is)) none = none.1 is.0
a_request left fields (inr (inr is)) none = none.2 is.0 is.1

a_line : (left : Option (List ℕ)) (words : List (List ℕ)) → IsAsked left words → AreNoLine words → ⊥
a_line left words asked none = a_request left asked.0 asked.2 (none asked.0 asked.1)

-- the script that is asked for
script_of : (left : Option (List ℕ)) (fields : List (List ℕ)) → Ask left fields → fields ≡ run → (all : List ℕ) × (lanes : List Commands) × (left ≡ Some all) × IsScript all lanes
script_of left fields (inl is) run_is = let e : init ≡ run = sym is ∙ run_is in absurd cc
script_of left fields (inr (inl is)) run_is = (is.1, is.2, is.3, is.4)
script_of left fields (inr (inr is)) run_is = absurd (not_run is.0 [] (subst (λ w. IsCommand w is.0) run_is is.1))

its_script : (left : Option (List ℕ)) (words : List (List ℕ)) → IsAsked left words → Runs words → (all : List ℕ) × (lanes : List Commands) × (left ≡ Some all) × IsScript all lanes
its_script left words asked runs = script_of left asked.0 asked.2 (one_line words asked.0 run asked.1 runs)

-- what an opening tells isn't told of a good disk
opened : (d : Disk) (f : OpenFault) (before now : ℕ) → IsGoodHere d → ¬ (Rose before now) → (Open f ≡ Open opening.Disk → Rose before now) → IsStopped d (Open f) → ⊥
opened d (opening.Damaged p why) before now good unrisen disk stop = fault_good stop.0 d p why stop.2 (good stop.0 stop.1)
opened d opening.Disk before now good unrisen disk stop = unrisen (disk refl)
opened d (opening.Outside p) before now good unrisen disk stop = stop.2
opened d opening.NoMemory before now good unrisen disk stop = stop

module _ (left : Option (List ℕ)) (words : List (List ℕ)) (d : Disk) (source source' disk disk' : ℕ) (asked : IsAsked left words) (good : IsGoodHere d) (unfailed : ¬ (Rose source source')) (unrisen : ¬ (Rose disk disk')) where
  only_memory : (f : TopFault) → (Some f ≡ Some Usage → AreNoLine words) → (IsEarly f → IsRefused left words source source' f)
      → ((all : List ℕ) (lanes : List Commands) (e : ScriptFault) → left ≡ Some all → IsScript all lanes → ¬ (Some f ≡ Some (Script e)))
      → (Some f ≡ Some (Open opening.Disk) → Rose disk disk') → IsStopped d f → f ≡ NoMemory
  only_memory Usage usage early script opens stop = absurd (a_line left words asked (usage refl))
  only_memory (Script e) usage early script opens stop = let s = its_script left words asked (early tt).0 in absurd (script s.0 s.1 e s.2 s.3 refl)
  only_memory Input usage early script opens stop = absurd (unfailed (early tt).1)
  only_memory (Open f) usage early script opens stop = absurd (opened d f disk disk' good unrisen (λ is. opens (ap Some is)) stop)
  only_memory NoMemory usage early script opens stop = refl

  pub no_fault_but_memory : (fault : Option TopFault) → (fault ≡ Some Usage → AreNoLine words) → IfSome fault (λ f. IsEarly f → IsRefused left words source source' f)
      → ((all : List ℕ) (lanes : List Commands) (e : ScriptFault) → left ≡ Some all → IsScript all lanes → ¬ (fault ≡ Some (Script e)))
      → (fault ≡ Some (Open opening.Disk) → Rose disk disk') → IfSome fault (IsStopped d) → (fault ≡ None) ⊎ (fault ≡ Some NoMemory)
  no_fault_but_memory None usage early script opens stop = inl refl
  no_fault_but_memory (Some f) usage early script opens stop = inr (ap Some (only_memory f usage early script opens stop))

pub refused_of : (Q : Type 0) (R : TopFault → Type 0) (fault : Option TopFault) → IfSome fault (λ f. IsEarly f → Q × R f) → IfSome fault (λ f. IsEarly f → R f)
refused_of Q R None early = tt
refused_of Q R (Some f) early = λ e. (early e).1

pub memory_printed : (printed fault : Option TopFault) → (printed ≡ fault) ⊎ (printed ≡ Some NoMemory) → (fault ≡ None) ⊎ (fault ≡ Some NoMemory) → (printed ≡ None) ⊎ (printed ≡ Some NoMemory)
memory_printed printed fault (inl same) unfaulted = subst (λ (o : Option TopFault). (o ≡ None) ⊎ (o ≡ Some NoMemory)) (sym same) unfaulted
memory_printed printed fault (inr memory) unfaulted = inr memory

rose_since : (before a b : ℕ) → before ≤ a → Rose a b → Rose before b
rose_since before a b le (inl lt) = inl (omega (arith, le, lt))
rose_since before a b le (inr at) = inr at

pub caused_since : {F : Type 0} (before opened : ℕ) (faults : F → ℕ) (r : Result (LanesEnd F) (F × TopFault)) → before ≤ opened
    → IfOk r (λ p. AreCausedBy opened (faults p.fs) (map (λ replies. replies.items) p.replies.items)) → IfOk r (λ p. AreCausedBy before (faults p.fs) (map (λ replies. replies.items) p.replies.items))
caused_since before opened faults (Err e) from caused = tt
caused_since before opened faults (Ok p) from caused = λ lane number r to failed. rose_since before opened (faults p.fs) from (caused lane number r to failed)

pub caused_parts : {F : Type 0} (faults : F → ℕ) (before : ℕ) (fs fs' : F) (replies replies' : List (List Reply)) → fs' ≡ fs → replies' ≡ replies → AreCausedBy before (faults fs) replies → AreCausedBy before (faults fs') replies'
caused_parts faults before fs fs' replies replies' fs-is replies-are caused = subst (λ f. AreCausedBy before (faults f) replies') (sym fs-is) (subst (λ x. AreCausedBy before (faults fs) x) (sym replies-are) caused)

none_to : (lane number : ℕ) (r : Reply) → IsReplyTo [] lane number r → ⊥
none_to lane number r to = omega (arith, to.0)

pub caused_unused : (before now : ℕ) (replies : List (List Reply)) → replies ≡ [] → AreCausedBy before now replies
caused_unused before now replies none = subst (λ x. AreCausedBy before now x) (sym none) (λ lane number r to failed. absurd (none_to lane number r to))

-- a count that hasn't risen, as it is tested
pub unrisen_tested : (before now : ℕ) → ¬ (Rose before now) → has_risen before now ≡ false
unrisen_tested before now unrisen = go (has_risen before now) refl
  where
    go : (t : Bool) → has_risen before now ≡ t → has_risen before now ≡ false
    go false is = is
    go true is = absurd (unrisen (risen_tested before now is))

pub complete : (fault : Option TopFault) (replies : List (List Reply)) (status before now source source' sink sink' : ℕ) → (fault ≡ None) ⊎ (fault ≡ Some NoMemory) → AreCausedBy before now replies
    → source ≤ source' → ¬ (Rose source source') → ¬ (Rose before now) → ¬ (Rose sink sink') → status ≡ status_of fault replies (nat_lt source source') (has_risen before now) (has_risen sink sink') → IsComplete fault replies status
complete fault replies status before now source source' sink sink' unfaulted caused later unfailed unrisen taken is = record {
  unfailed = λ lane number r to failed. unrisen (caused lane number r to failed);
  unfaulted = unfaulted;
  status_is = λ inside. subst (λ (n : ℕ). (n ≡ 0) ⊎ (n ≡ 1) ⊎ (n ≡ 3)) (sym (is ∙ tests)) (status_small fault replies unfaulted (replies_small replies inside));
}
  where
    still : (t : Bool) → nat_lt source source' ≡ t → nat_lt source source' ≡ false
    still false e = e
    still true e = absurd (unfailed (inl (grind (arith, nat_tests))))

    tests : status_of fault replies (nat_lt source source') (has_risen before now) (has_risen sink sink') ≡ status_of fault replies false false false
    tests = ap (λ t. status_of fault replies t (has_risen before now) (has_risen sink sink')) (still (nat_lt source source') refl)
        ∙ ap (λ t. status_of fault replies false t (has_risen sink sink')) (unrisen_tested before now unrisen)
        ∙ ap (λ t. status_of fault replies false false t) (unrisen_tested sink sink' taken)

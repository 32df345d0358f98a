-- What a system of such lanes has at its end.
use Rattle.std.proofs.Common.{◌≡◌, ℕ, List, [], ◌∷◌, refl, sym, ap, subst, arith}
use Rattle.command.specs.declared.ended.Ended.{Ended}
use Rattle.command.specs.declared.ended.Ended.TheVariants as ended
use Rattle.rely_guarantee.specs.declared.books.Entry.{Entry}
use Rattle.lane_system.specs.declared.lane.Lane.{Lane}
use Rattle.lane_system.specs.declared.lane.Reply.{Reply}
use Rattle.lane_system.specs.Lanes.{IsAt, IsCommand, IsTo}
use Rattle.lane_system.specs.Replied.{WasMade}
use Rattle.lane_system.specs.Replies.{IfAnswer, OfAnswer}
use Rattle.lane_system.proofs.Places.{at_one}
use Rattle.lane_system_check.specs.declared.task.WaitTask.{WaitTask}
use Rattle.lane_system_check.specs.declared.words.WaitWords.{WaitWords}
use Rattle.lane_system_check.specs.Family.{number_of, wait_means}

pub if_answer : {A : Type 0} (P Q : A → Type 0) → ((a : A) → P a → Q a) → (x : Ended A) → IfAnswer P x → IfAnswer Q x
if_answer P Q so (ended.Answered a) is = so a is
if_answer P Q so ended.NoMemory is = tt
if_answer P Q so ended.DiskFault is = tt
if_answer P Q so (ended.Outside path) is = tt
if_answer P Q so (ended.Halted count) is = tt

pub one_command : (lanes : List (Lane WaitTask WaitWords ℕ)) (lane number : ℕ) (c d : WaitWords) → IsCommand lanes lane number c → IsCommand lanes lane number d → c ≡ d
one_command lanes lane number c d one two =
    let same = at_one lanes lane one.0 two.0 one.1 two.1 in
    at_one two.0.words.items number c d (subst (λ (l : Lane WaitTask WaitWords ℕ). IsAt l.words.items number c) same one.2) two.2

no_answer : (c : WaitWords) (x : Ended ℕ) → OfAnswer (λ a. wait_means.makes a c) x → ⊥
no_answer c (ended.Answered a) is = is
no_answer c ended.NoMemory is = is
no_answer c ended.DiskFault is = is
no_answer c (ended.Outside path) is = is
no_answer c (ended.Halted count) is = is

-- no command makes a change
pub none_made : (lanes : List (Lane WaitTask WaitWords ℕ)) (entries : List Entry) → ((k : ℕ) (e : Entry) → IsAt entries k e → WasMade wait_means lanes k e) → entries ≡ []
none_made lanes [] made = refl
none_made lanes (e ∷ rest) made =
    let by = made 0 e (omega arith, refl) in
    absurd (no_answer by.3 by.0.answer by.5)

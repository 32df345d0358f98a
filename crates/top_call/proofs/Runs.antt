-- Lanes that run, and the room for their replies.
use Rattle.std.proofs.Common.{◌≡◌, ℕ, sym, ◌∙◌, ap, subst, List, length, map, Result, Ok, Err, IfOk}
use Rattle.script.specs.declared.answer.Reply.{Reply}
use Rattle.std.specs.Global.{Vec}
use Rattle.lane_system.specs.Family.{FsSpec}
use Rattle.lane_system.specs.Lanes.{IsAt}
use Rattle.commands.specs.Family.{Lane, Words}
use Rattle.commands.specs.Lanes.{HasRoom, counts_of, words_in}
use Rattle.sys_open.specs.Opened.{Opened}
use Rattle.top_call.specs.declared.fault.TopFault.{TopFault}
use Rattle.top_call.specs.declared.lanes.LanesEnd.{LanesEnd}
use Rattle.top_call.specs.RanOn.{RanOn}
use Rattle.top_call.proofs.Rans.{counts_same}

-- lanes that ended have as many replies as there was room for
pub room_kept : (lanes begun ended parts : List Lane) (room : List (Vec Reply)) → begun ≡ lanes → words_in ended ≡ words_in begun → parts ≡ ended → ((i : ℕ) (lane : Lane) → IsAt ended i lane → length lane.replies.items ≡ length lane.words.items)
    → HasRoom (counts_of (words_in lanes)) room → HasRoom (map (λ lane. length lane.replies.items) parts) room
room_kept lanes begun ended parts room begun-is words parts-are all has =
    subst (λ counts. HasRoom counts room) (sym (ap (map (λ (l : Lane). length l.replies.items)) parts-are ∙ counts_same ended all ∙ ap counts_of words ∙ ap (λ xs. counts_of (words_in xs)) begun-is)) has

-- what ran with these words
pub ran_words : {F : Type 0} (f : FsSpec F) (opened : Opened F) (words own : List (List Words)) (r : Result (LanesEnd F) (F × TopFault)) → words ≡ own
    → IfOk r (λ p. RanOn f opened words p.fs p.history.items p.pending (map (λ replies. replies.items) p.replies.items)) → IfOk r (λ p. RanOn f opened own p.fs p.history.items p.pending (map (λ replies. replies.items) p.replies.items))
ran_words f opened words own (Err e) same is = is
ran_words f opened words own (Ok p) same is = subst (λ x. RanOn f opened x p.fs p.history.items p.pending (map (λ replies. replies.items) p.replies.items)) same is

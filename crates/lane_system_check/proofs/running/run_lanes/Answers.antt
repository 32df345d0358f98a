use Rattle.std.proofs.Common.{◌≡◌, ℕ, List, sym, ◌∙◌, ap, subst, map, length}
use Rattle.lane_system.specs.declared.lane.Lane.{Lane}
use Rattle.lane_system.specs.Lanes.{IsAt, IsCommand, IsTo}
use Rattle.lane_system.specs.Replies.{IfAnswer}
use Rattle.lane_system_check.specs.declared.task.WaitTask.{WaitTask}
use Rattle.lane_system_check.specs.declared.words.WaitWords.{WaitWords}
use Rattle.lane_system_check.specs.Family.{number_of}
use Rattle.lane_system_check.proofs.Runnings.{if_answer, none_made, one_command}
use Rattle.lane_system_check.proofs.running.run_lanes.Goals as goal

pub returns-in-Ok-clause-words : goal.returns-in-Ok-clause-words
returns-in-Ok-clause-words g c =
    let of = map (λ (l : Lane WaitTask WaitWords ℕ). l.words.items) in
    ap of c.into_parts.ensures.parts.3 ∙ c.drive.ensures.commands ∙ ap of c.in-Ok.ensures.parts.3

pub returns-in-Ok-clause-answers : goal.returns-in-Ok-clause-answers
returns-in-Ok-clause-answers g c = λ lane number r words to is.
    let parts = c.into_parts.ensures in
    let lanes = c.drive.new.self.lanes in
    let said = parts.replied.each lane number r (subst (λ (xs : List (Lane WaitTask WaitWords ℕ)). IsTo xs lane number r) parts.parts.3 to) in
    let same = one_command lanes lane number said.0 words said.1 (subst (λ (xs : List (Lane WaitTask WaitWords ℕ)). IsCommand xs lane number words) parts.parts.3 is) in
    subst (λ (w : WaitWords). IfAnswer (λ a. a ≡ number_of w) r.answer) same (if_answer _ (λ a. a ≡ number_of said.0) (λ a says. says.0) r.answer said.2.answer)

pub returns-in-Ok-clause-ended : goal.returns-in-Ok-clause-ended
returns-in-Ok-clause-ended g c = λ k lane at. c.drive.ensures.ended k lane (subst (λ (xs : List (Lane WaitTask WaitWords ℕ)). IsAt xs k lane) c.into_parts.ensures.parts.3 at)

pub returns-in-Ok-clause-unchanged : goal.returns-in-Ok-clause-unchanged
returns-in-Ok-clause-unchanged g c =
    let parts = c.into_parts.ensures in
    ap (λ h. h.items) parts.parts.1 ∙ none_made c.drive.new.self.lanes c.drive.new.self.base.books.history.items parts.replied.made

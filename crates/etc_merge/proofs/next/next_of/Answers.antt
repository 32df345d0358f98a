use Rattle.std.proofs.Common.{sym, ◌∙◌, ap}
use Rattle.std.proofs.lemmas.List.{nil_from_length}
use Rattle.etc_merge.proofs.Nexts.{after_less, after_nothing, next_both, next_current, next_new}
use Rattle.etc_merge.proofs.Orders.{turned}
use Rattle.etc_merge.proofs.next.next_of.Goals as goal
use Rattle.etc_merge.proofs.next.next_of.Goals.{in-Less, in-Greater, in-Equal}

pub returns-in_default : goal.returns-in_default
returns-in_default c =
    next_new c.args.current.now c.args.new.now _ _ _ _ _ c.in_ok-other.other.now c.in_ok-other.new_left.now c.in_ok-other.ensures.cases.0 c.requires.new
    (after_nothing _ _ (nil_from_length _ c.in_default.ensures.cases)) c.in_new.ensures

pub returns-in_default-split_first : goal.returns-in_default-split_first
returns-in_default-split_first c =
    next_current c.args.current.now c.args.new.now _ _ _ _ _ c.in-Some.first.now c.in-Some.current_left.now c.in-Some.ensures.cases.0 c.requires.current
    (after_nothing _ _ (nil_from_length _ c.in_default-split_first.ensures.cases)) c.in_current.ensures

pub returns : goal.returns
returns c =
    let is = c.in-Some.ensures.cases.0 in
    let cut = c.in-Some-split_first.ensures.cases.0 in
    elim c.match-cmp.branch [
      | in-Less w ↦ rw w.result-is (next_current c.args.current.now c.args.new.now _ _ _ _ _ c.in-Some.first.now c.in-Some.current_left.now is c.requires.current
          (after_less _ _ _ _ cut c.requires.new (sym c.cmp.ensures ∙ w.in-Less.is)) w.in_current-in-Less.ensures)
      | in-Greater w ↦ rw w.result-is (next_new c.args.current.now c.args.new.now _ _ _ _ _ c.in-Some-split_first.other.now c.in-Some-split_first.new_left.now cut c.requires.new
          (after_less _ _ _ _ is c.requires.current (turned c.in-Some.first.now.0 c.in-Some-split_first.other.now.0 (sym c.cmp.ensures ∙ w.in-Greater.is))) w.in_new-in-Greater.ensures)
      | in-Equal w ↦ rw w.result-is (next_both c.args.current.now c.args.new.now c.in-Some.first.now c.in-Some-split_first.other.now c.in-Some.current_left.now c.in-Some-split_first.new_left.now is cut c.requires.current c.requires.new
          (sym c.cmp.ensures ∙ w.in-Equal.is))
    ]

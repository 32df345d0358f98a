use Rattle.std.proofs.Common.{◌≡◌, true, false, sym, ◌∙◌, ap}
use Rattle.std.specs.Option.{option_copied}
use Rattle.etc_merge.specs.Steps.{alike, holds, same, unlike}
use Rattle.etc_merge.proofs.conflicts.is_conflict.Goals as goal

pub returns-then-is_kept-clause-yes : goal.returns-then-is_kept-clause-yes
returns-then-is_kept-clause-yes c = λ yes. unlike c.in-Some.other.now (c.is_kept.ensures.yes c.if-is_kept.true) (sym c.in-Some.ensures) (c.are_unlike.ensures.0 yes)

pub returns-then-is_kept-clause-no : goal.returns-then-is_kept-clause-no
returns-then-is_kept-clause-no c = λ not. alike c.in-Some.other.now (c.is_kept.ensures.yes c.if-is_kept.true) (sym c.in-Some.ensures) (λ far. let n : true ≡ false = sym (c.are_unlike.ensures.1 far) ∙ not in cc)

pub returns-then-is_leaf-clause-yes : goal.returns-then-is_leaf-clause-yes
returns-then-is_leaf-clause-yes c = λ yes. holds c.in-Some.other.now (c.is_kept.ensures.no c.if-is_kept.false) (sym c.in-Some.ensures) (c.is_leaf.ensures.0 c.if-is_leaf.true) (c.has_kept_below.ensures.0 yes)

pub returns-then-is_leaf-clause-no : goal.returns-then-is_leaf-clause-no
returns-then-is_leaf-clause-no c = λ not. same c.in-Some.other.now (c.is_kept.ensures.no c.if-is_kept.false) (sym c.in-Some.ensures) (λ leaf below. let n : true ≡ false = sym (c.has_kept_below.ensures.1 below) ∙ not in cc)

pub returns-else-is_leaf-clause-no : goal.returns-else-is_leaf-clause-no
returns-else-is_leaf-clause-no c = λ not. same c.in-Some.other.now (c.is_kept.ensures.no c.if-is_kept.false) (sym c.in-Some.ensures) (λ leaf below. let n : true ≡ false = sym (c.is_leaf.ensures.1 leaf) ∙ c.if-is_leaf.false in cc)

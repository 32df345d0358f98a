use Rattle.std.proofs.Common.{ℕ, List, length, Some, ap, ◌∙◌}
use Rattle.std.proofs.lemmas.List.{take_rest}
use Rattle.gv_core.proofs.Zeros.{splitting_found}
use Rattle.gv_core.proofs.reading.split_at_zero.Goals as goal

pub returns-then-last-eq0 : goal.returns-then-last-eq0
returns-then-last-eq0 c =
    ap (λ (b : List ℕ). Some (c.in-Some.rest.now, b)) (take_rest c.args.bytes.now (length c.loop-last.left.now))
    ∙ splitting_found _ _ _ _ c.loop-last.invariant c.in-Some.ensures.cases.0 c.if-last-eq0.true

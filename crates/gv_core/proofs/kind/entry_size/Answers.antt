use Rattle.std.proofs.Common.{◌≡◌, ℕ, ◌+◌, sym, subst, arith}
use Rattle.gv_core.specs.Measure.{up}
use Rattle.gv_core.specs.Node.{capped}
use Rattle.gv_core.proofs.Nodes.{entry_no_key, entry_no_value, entry_both}
use Rattle.gv_core.proofs.kind.entry_size.Goals as goal

pub returns-in_err-front : goal.returns-in_err-front
returns-in_err-front c = rw c.from_residual.ensures (entry_no_key _ _ (sym c.in_err-front.ensures))

pub returns-in_err-back : goal.returns-in_err-back
returns-in_err-back c = rw c.from_residual-in_err-back.ensures (entry_no_value _ _ c.in_err-back.ensures)

pub returns : goal.returns
returns c = entry_both _ _ _ _ _ _ _ (sym c.in_ok-front.ensures) (omega arith) c.in_ok-back.ensures c.requires.align (subst (λ a. (n m : ℕ) → c.in_ok-front.front ≡ capped n → c.in_ok-back.back ≡ capped m → c.end_behind-end.result ≡ capped (up a n + m)) c.align.ensures.value c.end_behind-end.ensures) c.end_behind.ensures

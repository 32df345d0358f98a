use Rattle.std.proofs.Common.{sym, subst, arith}
use Rattle.top_call.specs.Input.{IsRead}
use Rattle.top_call.proofs.Reading.{so_far_start, so_far_more, so_far_front, read_full, read_end, of_err}
use Rattle.top_call.proofs.input.read_pieces.Goals as goal
use Rattle.top_call.proofs.input.read_pieces.Goals.{else-loop-at-test, then-loop-at-test+in_ok-count+then-count-eq0}

pub loop-at-init : goal.loop-at-init
loop-at-init g c = record { within = omega arith; read = λ all told. so_far_start all _ _ c.new-bytes.ensures told; later = omega arith }

pub loop-at-preserved : goal.loop-at-preserved
loop-at-preserved g c = record {
  within = omega (arith, c.in_ok-count.ensures.within, c.loop-at.invariant.within);
  read = λ all told.
      let so = c.loop-at.invariant.read all told in
      so_far_more all c.loop-at.at c.in_ok-count.count _ _ _ so.front (c.in_ok-count.ensures.read _ so.rest);
  later = omega (arith, c.in_ok-count.ensures.later, c.loop-at.invariant.later);
}

pub returns-in_err-count-clause-read : goal.returns-in_err-count-clause-read
returns-in_err-count-clause-read g c = λ all told.
    let so = c.loop-at.invariant.read all told in
    let front = c.in_err-count.ensures.read _ so.rest in
    of_err _ _ c.from_residual.result c.from_residual.ensures.0 (so_far_front all c.loop-at.at front.0 _ _ (omega (arith, c.loop-at.invariant.within)) front.1 front.2)

pub returns-clause-read : goal.returns-clause-read
returns-clause-read g c = λ all told.
    let so = c.loop-at.invariant.read all told in
    elim c.loop-at-test.branch [
      | else-loop-at-test w ↦
          subst (λ b. IsRead all b (g.S.Source.left c.loop-at-test.input)) (sym w.bytes-is)
          (subst (λ i. IsRead all c.loop-at.bytes (g.S.Source.left i)) (sym w.input-is)
          (read_full all c.loop-at.at c.loop-at.bytes _ (omega (arith, w.loop-at-test.false, c.loop-at.invariant.within)) so))
      | then-loop-at-test+in_ok-count+then-count-eq0 w ↦
          subst (λ b. IsRead all b (g.S.Source.left c.loop-at-test.input)) (sym w.bytes-is)
          (subst (λ i. IsRead all w.read_piece.new.bytes (g.S.Source.left i)) (sym w.input-is)
          (read_end all c.loop-at.at c.loop-at.bytes _ _ w.in_ok-count.count c.loop-at.invariant.within so.front w.if-count-eq0.true (w.in_ok-count.ensures.read _ so.rest)))
    ]

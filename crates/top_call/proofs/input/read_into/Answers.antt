use Rattle.std.proofs.Common.{◌++◌, ◌∙◌, ap, arith}
use Rattle.top_call.proofs.input.read_into.Goals as goal

pub returns-clause-read : goal.returns-clause-read
returns-clause-read g c = λ all told.
    let t = c.in_ok-count.ensures.effect all told in
    record { more = c.in_ok-append.ensures.ok ∙ ap (λ front. c.args.bytes.now ++ front) t.front; rest = t.rest; end = λ none. t.end none (omega arith) }

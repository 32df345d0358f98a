use Rattle.std.proofs.Common.{None, Some}
use Rattle.std.proofs.lemmas.Bool.Decides.{Decides-eqb}
use Rattle.std.proofs.lemmas.Slice.Eq.{strip_prefix_is}
use Rattle.boot_words.proofs.Splits.{parts_front, parts_middle, parts_numbered, parts_plain, parts_there}
use Rattle.boot_words.proofs.parts.read_parts.Goals as goal

pub returns-in_err-rest : goal.returns-in_err-rest
returns-in_err-rest c = rw c.from_residual.ensures
    (parts_front c.args.text.now c.args.front.now c.args.middle.now c.args.mark (strip_prefix_is Decides-eqb c.args.text.now c.args.front.now None c.in_err-rest.ensures.cases))

pub returns-in_err-os : goal.returns-in_err-os
returns-in_err-os c = rw c.from_residual-in_err-os.ensures
    (parts_plain c.args.text.now c.args.front.now c.args.middle.now c.args.mark c.in_ok-rest.rest.now
    (strip_prefix_is Decides-eqb c.args.text.now c.args.front.now (Some c.in_ok-rest.rest) c.in_ok-rest.ensures.cases) c.in_err-os.ensures)

pub returns-in_err-last : goal.returns-in_err-last
returns-in_err-last c = rw c.from_residual-in_err-last.ensures
    (parts_middle c.args.text.now c.args.front.now c.args.middle.now c.args.mark c.in_ok-rest.rest.now
    (strip_prefix_is Decides-eqb c.args.text.now c.args.front.now (Some c.in_ok-rest.rest) c.in_ok-rest.ensures.cases)
    c.in_ok-os.os.now c.in_ok-os.behind.now c.in_ok-os.ensures.0 c.in_ok-os.ensures.1
    (strip_prefix_is Decides-eqb c.in_ok-os.behind.now c.args.middle.now None c.in_err-last.ensures.cases))

pub returns-in_err-numbered : goal.returns-in_err-numbered
returns-in_err-numbered c = rw c.from_residual-in_err-numbered.ensures
    (parts_numbered c.args.text.now c.args.front.now c.args.middle.now c.args.mark c.in_ok-rest.rest.now
    (strip_prefix_is Decides-eqb c.args.text.now c.args.front.now (Some c.in_ok-rest.rest) c.in_ok-rest.ensures.cases)
    c.in_ok-os.os.now c.in_ok-os.behind.now c.in_ok-os.ensures.0 c.in_ok-os.ensures.1
    c.in_ok-last.last.now (strip_prefix_is Decides-eqb c.in_ok-os.behind.now c.args.middle.now (Some c.in_ok-last.last) c.in_ok-last.ensures.cases) c.in_err-numbered.ensures)

pub returns : goal.returns
returns c =
    parts_there c.args.text.now c.args.front.now c.args.middle.now c.args.mark c.in_ok-rest.rest.now
    (strip_prefix_is Decides-eqb c.args.text.now c.args.front.now (Some c.in_ok-rest.rest) c.in_ok-rest.ensures.cases)
    c.in_ok-os.os.now c.in_ok-os.behind.now c.in_ok-os.ensures.0 c.in_ok-os.ensures.1
    c.in_ok-last.last.now c.in_ok-numbered.numbered.sum c.in_ok-numbered.numbered.number
    (strip_prefix_is Decides-eqb c.in_ok-os.behind.now c.args.middle.now (Some c.in_ok-last.last) c.in_ok-last.ensures.cases) c.in_ok-numbered.ensures

use Rattle.std.proofs.Common.{◌++◌, ◌∙◌, ap, Some}
use Rattle.std.proofs.lemmas.Bool.Decides.{Decides-eqb}
use Rattle.std.proofs.lemmas.Slice.Eq.{strip_suffix_is}
use Rattle.prune_sweep.proofs.Names.{named_by}
use Rattle.prune_sweep.proofs.lost.commit_of.Goals as goal

pub returns-clause-named : goal.returns-clause-named
returns-clause-named c =
    named_by c.args.name.now c.in_ok-digits.digits.now _ c.from_hex.result c.from_hex.ensures.value
    (strip_suffix_is Decides-eqb c.args.name.now c.as_slice.result.now (Some c.in_ok-digits.digits) c.in_ok-digits.ensures.cases ∙ ap (λ e. c.in_ok-digits.digits.now ++ e) c.as_slice.ensures)

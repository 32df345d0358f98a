use Rattle.std.proofs.Common.{◌++◌, None, Some}
use Rattle.std.proofs.lemmas.Bool.Decides.{Decides-eqb}
use Rattle.std.proofs.lemmas.Slice.Eq.{strip_prefix_is, strip_suffix_is}
use Rattle.layout_rules.proofs.NameTests.{between_match}
use Rattle.layout_rules.proofs.many.between.Goals as goal

pub returns-in-Some : goal.returns-in-Some
returns-in-Some c =
    between_match c.args.name.now c.args.front.now c.args.end.now c.in-Some.rest.now c.strip_suffix.result
    (strip_prefix_is Decides-eqb c.args.name.now c.args.front.now (Some c.in-Some.rest) c.in-Some.ensures.cases)
    (strip_suffix_is Decides-eqb c.in-Some.rest.now c.args.end.now c.strip_suffix.result c.strip_suffix.ensures.cases)

pub returns-in-None : goal.returns-in-None
returns-in-None c = λ x e. strip_prefix_is Decides-eqb c.args.name.now c.args.front.now None c.in-None.ensures.cases (x ++ c.args.end.now) e

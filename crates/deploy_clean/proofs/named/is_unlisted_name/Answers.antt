use Rattle.std.proofs.Common.{Some, codes}
use Rattle.std.proofs.lemmas.Bool.Decides.{Decides-eqb}
use Rattle.std.proofs.lemmas.Slice.Eq.{strip_suffix_is}
use Rattle.deploy_clean.proofs.NameTexts.{by_stem}
use Rattle.deploy_clean.proofs.named.is_unlisted_name.Goals as goal

pub returns-in-Some : goal.returns-in-Some
returns-in-Some c =
    by_stem c.args.listed.now c.args.os.now c.args.name.now c.in-Some.stem.now c.in_ok-is_id.is_id c.is_unlisted_id-in-Some.result c.if-is_id.false c.in_ok-is_id.ensures
    (strip_suffix_is Decides-eqb c.args.name.now (codes ".origin") (Some c.in-Some.stem) c.in-Some.ensures.cases) c.is_unlisted_id-in-Some.ensures

use Rattle.std.proofs.Common.{◌==◌, arith}
use Rattle.std.proofs.lemmas.Bool.Decides.{nat_tests}
use Rattle.std.proofs.lemmas.List.Splits.{length-slice_split}
use Rattle.repo_layout.proofs.ref_name.has_few_parts.Goals as goal

pub returns : goal.returns
returns c =
    let parts = length-slice_split (λ b. b == 47) c.args.text.now in
    (λ few. grind (arith, nat_tests), λ few. grind (arith, nat_tests))

use Rattle.std.proofs.Common.{◌<◌, ◌^◌, sym, ◌∙◌, subst, arith}
use Rattle.ost_types.specs.Text.{IsName}
use Rattle.boot_read.proofs.PathLemmas.{decimal-name}
use Rattle.boot_read.proofs.places.number_name.Goals as goal

pub known_name-requires : goal.known_name-requires
known_name-requires c =
    let small : c.args.number < 2 ^ 32 = omega (arith, c.ranges.number.fits) in
    subst IsName (sym (c.as_bytes.ensures.value ∙ c.in_ok-to_string.ensures.ok)) (decimal-name c.args.number small)

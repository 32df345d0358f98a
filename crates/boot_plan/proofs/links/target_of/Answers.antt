use Rattle.std.proofs.Common.{◌<◌, ◌^◌, sym, ◌∙◌, subst, arith}
use Rattle.ost_types.specs.Text.{IsText}
use Rattle.ost_types.specs.Csum.{IsHexSum}
use Rattle.repo_layout.specs.OsName.{IsOsName}
use Rattle.boot_plan.proofs.Plain.{deploy_target-text}
use Rattle.boot_plan.proofs.links.target_of.Goals as goal

pub known_text-requires : goal.known_text-requires
known_text-requires c =
    let small : c.args.id.now.serial < 2 ^ 64 = omega (arith, c.ranges.serial.fits, c.requires) in
    subst IsText (sym (c.as_slice-2.ensures ∙ c.in_ok-deploy_target.ensures))
    (deploy_target-text c.args.id.now (subst IsOsName c.as_slice-os.ensures.value c.as_slice-os.ensures.name) (subst IsHexSum c.to_hex-digits.ensures.value c.to_hex-digits.ensures.digits) small)

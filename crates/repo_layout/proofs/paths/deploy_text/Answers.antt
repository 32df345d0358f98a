use Rattle.std.proofs.Common.{◌∙◌, subst}
use Rattle.ost_types.specs.Csum.{IsHexSum}
use Rattle.repo_layout.specs.OsName.{IsOsName}
use Rattle.repo_layout.proofs.KnownPaths.{parsed, deploy-known}
use Rattle.repo_layout.proofs.Texts.{deploy-text}
use Rattle.repo_layout.proofs.paths.deploy_text.Goals as goal

pub returns : goal.returns
returns c =
    let digits = subst IsHexSum c.to_hex.ensures.value c.to_hex.ensures.digits in
    parsed _ _ (deploy-known c.args.os.now c.args.commit.now c.args.serial (subst IsOsName c.as_slice.ensures.value c.as_slice.ensures.name) digits c.ranges.serial.fits)
    (deploy-text c.args.os.now c.args.commit.now c.args.serial _ _ _ _ _ _ _ _ _ c.as_slice.ensures.value c.to_hex.ensures.value (c.as_bytes.ensures.value ∙ c.in_ok-to_string.ensures.ok) c.in_ok-append-4.ensures.ok c.in_ok-push.ensures.ok c.in_ok-append-3.ensures.ok c.in_ok-append-2.ensures.ok c.in_ok-append.ensures.ok c.in_ok-text.ensures)

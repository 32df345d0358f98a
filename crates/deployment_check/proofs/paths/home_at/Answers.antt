use Rattle.std.proofs.Common.{subst}
use Rattle.ost_types.specs.Csum.{IsHexSum}
use Rattle.repo_layout.specs.OsName.{IsOsName}
use Rattle.deployment_check.proofs.Rooms.{room_at, room_of}
use Rattle.deployment_check.proofs.paths.home_at.Goals as goal

pub returns-clause-room : goal.returns-clause-room
returns-clause-room c =
    room_of c.deploy_path.result _ c.deploy_path.ensures
    (room_at c.args.os.now c.args.commit.now c.args.serial (subst IsOsName c.as_slice-os.ensures.value c.as_slice-os.ensures.name) (subst IsHexSum c.to_hex-digits.ensures.value c.to_hex-digits.ensures.digits) c.ranges.serial.fits)

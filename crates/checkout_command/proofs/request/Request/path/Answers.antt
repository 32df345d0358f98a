use Rattle.std.proofs.Common.{subst}
use Rattle.ost_types.specs.Text.{IsName}
use Rattle.checkout_command.proofs.Rooms.{path_there, room_there}
use Rattle.checkout_command.proofs.request.Request.path.Goals as goal

pub child-requires : goal.child-requires
child-requires c = path_there c.args.self.now.name _ c.in_ok-folder_path.ensures (subst IsName c.as_slice-bytes.ensures.value c.as_slice-bytes.ensures.name)

pub returns-clause-room : goal.returns-clause-room
returns-clause-room c = room_there c.args.self.now.name _ c.in_ok-folder_path.ensures (subst IsName c.as_slice-bytes.ensures.value c.as_slice-bytes.ensures.name) c.child-2.result c.child-2.ensures

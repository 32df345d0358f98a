use Rattle.std.proofs.Common.{subst}
use Rattle.ost_types.specs.Path.{IsPath}
use Rattle.ref_room.proofs.Names.{IsPath-front}
use Rattle.host_edit.proofs.paths.folder_of.Goals as goal

pub path_of-requires : goal.path_of-requires
path_of-requires c = IsPath-front c.in-Some.names.now _ (subst IsPath c.in-Some.ensures.cases.0 c.names.ensures.path)

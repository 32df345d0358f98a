use Rattle.repo_layout.specs.Paths.{folder_path}
use Rattle.repo_layout.proofs.KnownPaths.{parsed, folder-known}
use Rattle.repo_layout.proofs.folder.folder_path.Goals as goal

pub known_path-requires : goal.known_path-requires
known_path-requires c = (folder_path c.args.folder, parsed _ _ (folder-known c.args.folder) c.folder_text.ensures)

pub returns : goal.returns
returns c = c.known_path.ensures (folder_path c.args.folder) (parsed _ _ (folder-known c.args.folder) c.folder_text.ensures)

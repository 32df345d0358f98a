use Rattle.std.proofs.Common.{sym, subst}
use Rattle.ost_types.specs.Path.{IsPath, under}
use Rattle.repo_layout.specs.declared.folder.Folder.TheVariants.{Boot}
use Rattle.repo_layout.specs.Paths.{folder_path}
use Rattle.boot_read.proofs.PathLemmas.{loader-name, loader-path}
use Rattle.boot_read.proofs.places.loader_path.Goals as goal

pub known_name-requires : goal.known_name-requires
known_name-requires c = loader-name

pub child-requires : goal.child-requires
child-requires c = subst (λ f. IsPath (under f c.in_ok-known_name.field-0)) (sym c.in_ok-folder_path.ensures) (subst (λ n. IsPath (under (folder_path Boot) n)) (sym c.in_ok-known_name.ensures) loader-path)

-- No command of the program changes which deployments boot.
use Rattle.command.specs.BootLaws.{ChangesNoList}
use Rattle.command.specs.EitherLaws.{either_no_list}
use Rattle.command.specs.EitherMeaning.{either_means}
use Rattle.ref_family.specs.Family.{ref_means}
use Rattle.read_family.specs.Family.{read_means}
use Rattle.commit_family.specs.Family.{commit_means}
use Rattle.checkout_family.specs.Family.{checkout_means}
use Rattle.clean_family.specs.Family.{clean_means}
use Rattle.list_family.specs.Family.{list_means}
use Rattle.prune_family.specs.Family.{prune_means}
use Rattle.ref_family.specs.Laws.{ref_lists}
use Rattle.read_family.specs.Laws.{read_lists}
use Rattle.commit_family.specs.Laws.{commit_lists}
use Rattle.checkout_family.specs.Laws.{checkout_lists}
use Rattle.clean_family.specs.Laws.{clean_lists}
use Rattle.list_family.specs.Laws.{list_lists}
use Rattle.prune_family.specs.Laws.{prune_lists}
use Rattle.commands.specs.Family.{means}

folders : ChangesNoList (either_means checkout_means clean_means)
folders = either_no_list checkout_means clean_means checkout_lists clean_lists

listing : ChangesNoList (either_means (either_means checkout_means clean_means) (either_means list_means prune_means))
listing = either_no_list (either_means checkout_means clean_means) (either_means list_means prune_means) folders (either_no_list list_means prune_means list_lists prune_lists)

pub no_lists : ChangesNoList means
no_lists =
    either_no_list (either_means ref_means read_means) (either_means commit_means (either_means (either_means checkout_means clean_means) (either_means list_means prune_means)))
    (either_no_list ref_means read_means ref_lists read_lists) (either_no_list commit_means (either_means (either_means checkout_means clean_means) (either_means list_means prune_means)) commit_lists listing)

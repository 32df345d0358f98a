-- What a look at the boot loader's link tells.
use Rattle.std.proofs.Common.{◌≡◌, ◌≢◌, ◌↔◌, IsTrue, true, false, refl, sym, ◌∙◌, ap}
use Rattle.ost_types.specs.Path.{Path}
use Rattle.fs_trait.specs.View.{Disk}
use Rattle.fs_trait.specs.Seen.{seen, shows}
use Rattle.fs_trait.proofs.Facts.{vacant_absent}
use Rattle.ref_room.specs.declared.stands.Stands.{Stands}
use Rattle.ref_room.specs.declared.stands.Stands.TheVariants.{Nothing}
use Rattle.ref_room.specs.Stands.{stands}
use Rattle.ref_room.proofs.Disks.{looked_nothing}
use Rattle.repo_layout.specs.BootPaths.{loader_path}
use Rattle.durable_list.specs.Standing.{HasLoader}

module _ (d : Disk) (at : Path) (is : at ≡ loader_path) where
  pub no_loader : Nothing ≡ stands (d.at at) → IsTrue false ↔ HasLoader d
  no_loader told = (λ f. absurd (let n : false ≡ true = f in cc), λ has. absurd (has (ap (shows d) (sym is) ∙ ap (seen d) (looked_nothing (d.at at) told))))

  pub a_loader : (s : Stands) → s ≡ stands (d.at at) → s ≢ Nothing → IsTrue true ↔ HasLoader d
  a_loader s told apart = (λ t none. apart (told ∙ ap stands (vacant_absent d at (ap (shows d) is ∙ none))), λ has. refl)

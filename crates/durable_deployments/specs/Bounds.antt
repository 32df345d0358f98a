-- Where deployments and what boots them may stand, and that what is there is within the bounds of paths.
use Rattle.std.specs.Prelude.{◌≡◌, ◌≢◌, ◌⊎◌, IsTrue}
use Rattle.ost_types.specs.Path.{Path, IsPath, is_below}
use Rattle.fs_trait.specs.View.{View}
use Rattle.fs_trait.specs.Seen.{Seen, MayBe, Vacant}
use Rattle.repo_layout.specs.declared.fixed.Fixed.{Fixed}
use Rattle.repo_layout.specs.declared.fixed.Fixed.TheVariants.{LoaderFolder, Entries, BootLink, BootFolder, Summary}
use Rattle.repo_layout.specs.BootPaths.{boot_link_stage_path, loader_path, loader_stage_path}
use Rattle.repo_layout.specs.Fixed.{fixed_path}
use Rattle.boot_model.specs.declared.item.DepId.{DepId}
use Rattle.deploy_clean.specs.Unlisted.{IsPathOf}
use Rattle.deployment_check.specs.Deployments.{IsId}

-- a version's folder of entries, its link or one of its two folders of links
abbrev pub IsVersioned : Fixed → Type 0
IsVersioned (LoaderFolder version) = Unit {0}
IsVersioned (BootLink version) = Unit {0}
IsVersioned (BootFolder version sub) = Unit {0}
IsVersioned (Entries version) = ⊥
IsVersioned Summary = ⊥

-- The path of what the boot loader follows, or may follow once another list is laid out there.
abbrev pub IsOfBoot : Path → Type 0
IsOfBoot q = (q ≡ loader_path) ⊎ ((fixed : Fixed) × IsVersioned fixed × (q ≡ fixed_path fixed))

-- A path where a deployment or its origin file may stand, named by a list or not, or where one of the two links by which a list boots is
-- staged, or one of what the boot loader follows: no list may boot it now or later.
abbrev pub MayBeLeftOver : Path → Type 0
MayBeLeftOver q = (q ≡ loader_stage_path) ⊎ (q ≡ boot_link_stage_path) ⊎ IsOfBoot q ⊎ ((id : DepId) × IsId id × IsPathOf id q)

-- The path is at or below one of them.
abbrev pub LiesWithin : Path → Type 0
LiesWithin p = (q : Path) × MayBeLeftOver q × IsTrue (is_below q p)

-- What stands at such a path or below it is within the bounds of paths, whatever a crash leaves.
abbrev pub AreBounded : View → Type 0
AreBounded v = (p : Path) (s : Seen) → LiesWithin p → MayBe v p s → s ≢ Vacant → IsPath p

-- The places of the layout that have one path each, and what each asks of what stands there.
use Rattle.std.specs.Prelude.{List, [], ◌∷◌}
use Rattle.ost_types.specs.Path.{Path}
use Rattle.repo_layout.specs.declared.fixed.Fixed.TheVariants.{LoaderFolder, Entries, BootLink, BootFolder, Summary}
use Rattle.repo_layout.specs.declared.fixed.Version.TheVariants.{Zero, One}
use Rattle.repo_layout.specs.declared.folder.Folder.TheVariants.{Ostree, Repo, Objects, Refs, Heads, State, Tmp, Deploy, Boot, Kernels, Checkouts}
use Rattle.repo_layout.specs.Fixed.{fixed_path}
use Rattle.repo_layout.specs.Paths.{folder_path}
use Rattle.layout_rules.specs.declared.rule.Rule.{Rule}
use Rattle.layout_rules.specs.declared.rule.Rule.TheVariants.{FolderOrNothing, NoFolder}
use Rattle.layout_rules.specs.declared.spot.Spot.{Spot}
use Rattle.layout_rules.specs.declared.spot.Spot.TheVariants.{Laid, Known}

abbrev pub spot_path : Spot → Path
spot_path (Laid folder) = folder_path folder
spot_path (Known fixed) = fixed_path fixed

-- A folder that is there from the beginning, and one of boot entries or boot links, is a folder; a boot link and the summary aren't.
abbrev pub rule_of : Spot → Rule
rule_of (Laid folder) = FolderOrNothing
rule_of (Known (LoaderFolder version)) = FolderOrNothing
rule_of (Known (Entries version)) = FolderOrNothing
rule_of (Known (BootLink version)) = NoFolder
rule_of (Known (BootFolder version sub)) = FolderOrNothing
rule_of (Known Summary) = NoFolder

-- ascending by their paths
abbrev pub all_spots : List Spot
all_spots =
    Laid Boot
    ∷ Known (LoaderFolder Zero)
    ∷ Known (Entries Zero)
    ∷ Known (LoaderFolder One)
    ∷ Known (Entries One)
    ∷ Laid Kernels
    ∷ Laid Checkouts
    ∷ Laid Ostree
    ∷ Known (BootLink Zero)
    ∷ Known (BootFolder Zero Zero)
    ∷ Known (BootFolder Zero One)
    ∷ Known (BootLink One)
    ∷ Known (BootFolder One Zero)
    ∷ Known (BootFolder One One)
    ∷ Laid Deploy
    ∷ Laid Repo
    ∷ Laid Objects
    ∷ Laid Refs
    ∷ Laid Heads
    ∷ Laid State
    ∷ Known Summary
    ∷ Laid Tmp
    ∷ []

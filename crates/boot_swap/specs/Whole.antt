-- What a swap leaves, from its first step to any later moment.
use Rattle.std.specs.Prelude.{◌≡◌, ◌⊎◌, ◌↔◌, true, List}
use Rattle.ost_types.specs.Path.{Path, is_below}
use Rattle.fs_trait.specs.View.{Disk, View}
use Rattle.fs_trait.specs.Image.{Image}
use Rattle.fs_trait.specs.Seen.{Seen, shows}
use Rattle.repo_layout.specs.declared.fixed.Version.{Version}
use Rattle.repo_layout.specs.Fixed.{number}
use Rattle.repo_layout.specs.BootPaths.{boot_folder_path, boot_link_path, boot_link_stage_path, loader_folder_path, loader_path, loader_stage_path}
use Rattle.boot_model.specs.declared.item.BootItem.{BootItem}
use Rattle.boot_model.specs.Listing.{Boots, SameList, Selects, ShowsEntries}
use Rattle.boot_swap.specs.Steps.{HasPlaces, IsSettled, IsTheLink, IsTheLoader}

-- A crash left this disk: all that its list is read from shows what a crash might have left at the beginning, or it boots the items.
abbrev pub Leaves : List BootItem → View → Disk → Type 0
Leaves items v d = ((before : Disk) × Image v before × SameList before d) ⊎ Boots d items

-- What a swap asks of the view: it is sure which version and which sub-version boot, and its places are there.
pub record MaySwap (items : List BootItem) (v : View) : Type 0 where
  pub settled : IsSettled v
  pub places : HasPlaces items v.now

-- the entries of a version are those that boot
abbrev pub IsBooted : Disk → Version → Type 0
IsBooted d n = Selects d (number n)

-- the links of a sub-version are those through which it boots
abbrev pub IsLinked : Disk → Version → Version → Type 0
IsLinked d n sub = IsBooted d n × IsTheLink n sub (shows d (boot_link_path (number n)))

-- The folders that a swap may fill, of which none is one that boots as it begins; and where it stages.
abbrev pub IsFilled : Disk → Path → Type 0
IsFilled d p = ((n : Version) × (¬ (IsBooted d n)) × (is_below (loader_folder_path (number n)) p ≡ true))
    ⊎ ((n : Version) × (sub : Version) × (¬ (IsLinked d n sub)) × (is_below (boot_folder_path (number n) (number sub)) p ≡ true))
    ⊎ (is_below boot_link_stage_path p ≡ true)
    ⊎ (is_below loader_stage_path p ≡ true)

-- What all steps together may write: that, and links of their forms.
abbrev pub Swaps : Disk → Path → Seen → Type 0
Swaps d p s = IsFilled d p
    ⊎ ((n : Version) × (p ≡ loader_path) × IsTheLoader n s)
    ⊎ ((n : Version) × (sub : Version) × (p ≡ boot_link_path (number n)) × IsTheLink n sub s)

-- The boot loader's link shows what it showed exactly where it selects a version whose entries are those of the items.
abbrev pub KeepsLoader : List BootItem → Disk → Disk → Type 0
KeepsLoader items d e = (shows e loader_path ≡ shows d loader_path) ↔ ((n : Version) × Selects d (number n) × ShowsEntries d (number n) items)

-- What each step of a swap needs, writes, tells and is refused for.
use Rattle.std.specs.Prelude.{◌≡◌, ◌⊎◌, ℕ, true, List}
use Rattle.ost_types.specs.Path.{Path, is_below}
use Rattle.fs_trait.specs.declared.types.FsErr.{FsErr}
use Rattle.fs_trait.specs.declared.types.FsErr.TheVariants.{Failed, NoMemory}
use Rattle.fs_trait.specs.View.{Disk, View}
use Rattle.fs_trait.specs.Seen.{Seen, shows, MayBe, IsDirectory}
use Rattle.repo_layout.specs.declared.fixed.Version.{Version}
use Rattle.repo_layout.specs.declared.folder.Folder.TheVariants.{Boot, Ostree}
use Rattle.repo_layout.specs.Fixed.{number}
use Rattle.repo_layout.specs.Paths.{deploy_path, folder_path}
use Rattle.repo_layout.specs.BootPaths.{boot_folder_path, boot_link_path, loader_folder_path, loader_path}
use Rattle.boot_model.specs.declared.item.BootItem.{BootItem}
use Rattle.boot_model.specs.Items.{IsAt, link_number}
use Rattle.boot_model.specs.Entries.{boot_target, deploy_target, item_link_path, loader_target}
use Rattle.boot_model.specs.Listing.{IsLinkTo, Selects, ShowsEntries}
use Rattle.boot_compare.specs.declared.choosing.Swap as which
use Rattle.boot_compare.specs.declared.choosing.Swap.TheVariants.{Loader, Sub}
use Rattle.boot_compare.specs.Choosing as choosing
use Rattle.folder_build.specs.Steps as building
use Rattle.folder_build.specs.LinkSteps as linking
use Rattle.boot_swap.specs.declared.phase.Phase.{Phase}
use Rattle.boot_swap.specs.declared.phase.Phase.TheVariants.{Choose, BeginEntries, Entries, LookLink, Links, BeginLink, ShowLink, Barrier, BeginLoader, ShowLoader, SyncFolder, Ended}
use Rattle.boot_swap.specs.Swap.{IsMade, Swapping, version_of}

-- what the next step may write
abbrev pub writes_in : Phase → View → Path → Seen → Type 0
writes_in (Entries v b) w p s = building.WritesOf b w p s
writes_in (Links u sub b) w p s = building.WritesOf b w p s
writes_in (ShowLink u sub l) w p s = linking.WritesOf l w p s
writes_in (ShowLoader v l) w p s = linking.WritesOf l w p s
writes_in ph w p s = ⊥

abbrev pub WritesOf : Swapping → View → Path → Seen → Type 0
WritesOf t w = writes_in t.phase w

-- ---- facts on the links that select

-- each crash leaves this at a path
abbrev pub EachShows : View → Path → (Seen → Type 0) → Type 0
EachShows v p S = (s : Seen) → MayBe v p s → S s

-- each crash leaves at a path what stands there
abbrev pub IsSureAt : View → Path → Type 0
IsSureAt v p = EachShows v p (λ s. s ≡ shows v.now p)

-- the link of a version names this sub-version
abbrev pub IsTheLink : Version → Version → Seen → Type 0
IsTheLink n sub s = IsLinkTo (boot_target (number n) (number sub)) s

-- the boot loader's link selects this version
abbrev pub IsTheLoader : Version → Seen → Type 0
IsTheLoader n s = IsLinkTo (loader_target (number n)) s

-- the boot loader's link selects this version in each crash
abbrev pub Selecting : Version → View → Type 0
Selecting n v = EachShows v loader_path (IsTheLoader n)

-- in no crash does it select this version
abbrev pub NotSelecting : Version → View → Type 0
NotSelecting n v = EachShows v loader_path (λ s. ¬ (IsTheLoader n s))

-- in no crash does the link of a version name this sub-version
abbrev pub NotNaming : Version → Version → View → Type 0
NotNaming n sub v = EachShows v (boot_link_path (number n)) (λ s. ¬ (IsTheLink n sub s))

-- What a swap begins with: it is sure what stands at the boot loader's link, and at the link of the version that it selects.
pub record IsSettled (v : View) : Type 0 where
  pub loader : IsSureAt v loader_path
  pub link : (n : Version) → Selects v.now (number n) → IsSureAt v (boot_link_path (number n))

-- What a swap needs all along: the two folders in which it works, and the deployments of its list.
pub record HasPlaces (items : List BootItem) (d : Disk) : Type 0 where
  pub boot : IsDirectory (shows d (folder_path Boot))
  pub ostree : IsDirectory (shows d (folder_path Ostree))
  pub deployments : (i : ℕ) (item : BootItem) → IsAt items i item → IsDirectory (shows d (deploy_path item.id.os item.id.commit item.id.serial))

-- ---- facts on what was made

-- each link of the items is in its folder
abbrev pub ShowsLinks : Disk → ℕ → ℕ → List BootItem → Type 0
ShowsLinks d version sub items = (i : ℕ) (item : BootItem) → IsAt items i item → IsLinkTo (deploy_target item.id) (shows d (item_link_path version sub item (link_number items i item)))

-- a path is another one's, or lies on the way to it or below it
abbrev pub IsAround : Path → Path → Type 0
IsAround q p = (is_below p q ≡ true) ⊎ (is_below q p ≡ true)

-- where what is to boot is read, but for the links that select it
abbrev pub IsRead : ℕ → ℕ → List BootItem → Path → Type 0
IsRead version sub items p = IsAround (loader_folder_path version) p ⊎ IsAround (boot_folder_path version sub) p
    ⊎ ((i : ℕ) × (item : BootItem) × IsAt items i item × (is_below p (deploy_path item.id.os item.id.commit item.id.serial) ≡ true))

-- Behind the sync of all: what is to boot is there in each crash.
pub record IsSure (v : View) (n sub : Version) (items : List BootItem) : Type 0 where
  pub entries : ShowsEntries v.now (number n) items
  pub links : ShowsLinks v.now (number n) (number sub) items
  pub sure : (p : Path) → IsRead (number n) (number sub) items p → IsSureAt v p

-- what a swap makes is read in no crash
abbrev pub IsAside : which.Swap → Version → View → Type 0
IsAside (Loader n) sub v = NotSelecting n v
IsAside (Sub n) sub v = Selecting n v × NotNaming n sub v

-- the entries and links were made
pub record HasMade (u : which.Swap) (sub : Version) (items : List BootItem) (v : View) : Type 0 where
  pub entries : ShowsEntries v.now (number (version_of u)) items
  pub links : ShowsLinks v.now (number (version_of u)) (number sub) items

-- Before the link of the version is put in its place: of the boot loader's swap before the sync of all, of the other one behind it.
abbrev pub ready_in : which.Swap → Version → List BootItem → View → Type 0
ready_in (Loader n) sub items v = HasMade (Loader n) sub items v
ready_in (Sub n) sub items v = IsSure v n sub items

-- what the sync of all is to make sure
abbrev pub barred_in : which.Swap → Version → View → Type 0
barred_in (Loader n) sub v = IsTheLink n sub (shows v.now (boot_link_path (number n)))
barred_in (Sub n) sub v = Unit {0}

-- the version is whole, with its link, which each crash leaves as it is
pub record IsWhole (n : Version) (items : List BootItem) (v : View) : Type 0 where
  pub sub : Version
  pub sure : IsSure v n sub items
  pub link : EachShows v (boot_link_path (number n)) (IsTheLink n sub)
  pub settled : IsSureAt v (boot_link_path (number n))

-- the shown link is to outlast a crash
abbrev pub shown_in : which.Swap → List BootItem → View → Type 0
shown_in (Loader n) items v = IsWhole n items v × IsTheLoader n (shows v.now loader_path)
shown_in (Sub n) items v = Selecting n v × (sub : Version) × IsSure v n sub items × IsTheLink n sub (shows v.now (boot_link_path (number n)))

-- each crash leaves the new list
abbrev pub IsShown : List BootItem → View → Type 0
IsShown items v = (n : Version) × IsWhole n items v × Selecting n v

-- what the next step needs of the view, beside the places
abbrev pub needs_in : Phase → List BootItem → View → Type 0
needs_in (Choose c) items v = IsSettled v × choosing.Knows c v.now items
needs_in (BeginEntries n) items v = NotSelecting n v
needs_in (Entries n b) items v = NotSelecting n v × building.Needs b v
needs_in (LookLink (Loader n)) items v = NotSelecting n v × ShowsEntries v.now (number n) items
needs_in (LookLink (Sub n)) items v = Selecting n v × IsSureAt v (boot_link_path (number n)) × ShowsEntries v.now (number n) items
needs_in (Links u sub b) items v = IsAside u sub v × ShowsEntries v.now (number (version_of u)) items × building.Needs b v
needs_in (BeginLink u sub) items v = IsAside u sub v × ready_in u sub items v
needs_in (ShowLink u sub l) items v = IsAside u sub v × ready_in u sub items v × linking.Needs l v
needs_in (Barrier u sub) items v = IsAside u sub v × HasMade u sub items v × barred_in u sub v
needs_in (BeginLoader n) items v = NotSelecting n v × IsWhole n items v
needs_in (ShowLoader n l) items v = NotSelecting n v × IsWhole n items v × linking.Needs l v
needs_in (SyncFolder u) items v = shown_in u items v
needs_in Ended items v = IsShown items v

pub record Needs (t : Swapping) (v : View) : Type 0 where
  pub made : IsMade t
  pub places : HasPlaces t.items v.now
  pub meets : needs_in t.phase t.items v

-- What a step tells that chooses the swap: only the links change exactly where the entries are those of the items.
abbrev pub tells_in : Phase → Phase → List BootItem → View → Type 0
tells_in (Choose c) (BeginEntries n) items v = choosing.IsChosen v.now items (Loader n)
tells_in (Choose c) (LookLink u) items v = choosing.IsChosen v.now items u
tells_in ph next items v = Unit {0}

abbrev pub Tells : Swapping → Swapping → View → Type 0
Tells old new v = tells_in old.phase new.phase old.items v

-- Why a step isn't done: the call failed or wanted for memory, or for the reason of its part.
abbrev pub refuses_in : Phase → View → FsErr → Type 0
refuses_in ph v Failed = Unit {0}
refuses_in ph v NoMemory = Unit {0}
refuses_in (Choose c) v e = choosing.IsBarred v.now e
refuses_in (Entries n b) v e = building.Refuses b v e
refuses_in (Links u sub b) v e = building.Refuses b v e
refuses_in (ShowLink u sub l) v e = linking.Refuses l v e
refuses_in (ShowLoader n l) v e = linking.Refuses l v e
refuses_in ph v e = ⊥

abbrev pub Refuses : Swapping → View → FsErr → Type 0
Refuses t = refuses_in t.phase

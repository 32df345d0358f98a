-- What a look at one path tells.
use Rattle.std.specs.Prelude.{◌≡◌, ◌≤◌, ℕ, List, length, Some, Result, Ok, Err}
use Rattle.sha2.specs.Sha256.{sha256}
use Rattle.ost_types.specs.declared.meta.Meta.{Meta}
use Rattle.ost_types.specs.Mode.{IsFolderMode}
use Rattle.ost_types.specs.Path.{Path}
use Rattle.ost_forms.specs.declared.body.Body.{Body}
use Rattle.ost_forms.specs.declared.body.Body.TheVariants.{Symlink as Link}
use Rattle.ost_forms.specs.Stream.{content_form, FitsMode}
use Rattle.fs_trait.specs.declared.types.FsErr.{FsErr}
use Rattle.fs_trait.specs.declared.types.Value.{Value}
use Rattle.fs_trait.specs.declared.types.Value.TheVariants.{File}
use Rattle.fs_trait.specs.Effect.{IsListing, OfNone}
use Rattle.fs_trait.specs.View.{Disk}
use Rattle.fs_trait.specs.Seen.{Vacant, Directory, shows, IsDirectory}
use Rattle.checkout.specs.CheckoutFolder.{IsLeaf}
use Rattle.tree_scan.specs.Scan.{HasSum}
use Rattle.tree_scan.specs.Faults.{IsUnreadable}
use Rattle.tree_scan.specs.declared.look.Looked.{Looked}
use Rattle.tree_scan.specs.declared.look.Looked.TheVariants.{Nothing, Folder, OddFolder, Leaf, OddLeaf}

-- the sum of a content stream
pub record IsSumOf (m : Meta) (body : Body) (sum : List ℕ) : Type 0 where
  pub stream : List ℕ
  pub form : content_form m body ≡ Some stream
  pub is : sum ≡ sha256 stream

-- what was found is what the path shows
abbrev pub Tells : Disk → Path → ℕ → Looked → Type 0
Tells d p limit Nothing = shows d p ≡ Vacant
Tells d p limit (Folder m names) = (shows d p ≡ Directory m) × IsListing d p names
Tells d p limit OddFolder = IsDirectory (shows d p) × IsUnreadable limit (shows d p)
Tells d p limit (Leaf sum) = HasSum (shows d p) sum × (IsUnreadable limit (shows d p) → ⊥)
Tells d p limit OddLeaf = IsLeaf (shows d p) × IsUnreadable limit (shows d p)

abbrev pub Finds : Disk → Path → ℕ → Result Looked FsErr → Type 0
Finds d p limit (Ok looked) = Tells d p limit looked
Finds d p limit (Err e) = OfNone e

-- a folder that was found may stand in a map
abbrev pub HasNode : Looked → Type 0
HasNode (Folder m names) = IsFolderMode m.mode
HasNode looked = Unit {0}

-- a regular file with these attributes, and no more bytes than the limit
abbrev pub IsRegular : Disk → ℕ → Meta → Value → Type 0
IsRegular d limit m (File n) = (d.meta n ≡ m) × (length (d.bytes n) ≤ limit)
IsRegular d limit m x = ⊥

abbrev pub HasLeaf : Disk → Path → Meta → ℕ → Type 0
HasLeaf d p m limit = IsRegular d limit m (d.at p)

-- what is told of a link
abbrev pub TellsLink : Meta → List ℕ → Looked → Type 0
TellsLink m target (Leaf sum) = IsSumOf m (Link target) sum × FitsMode m.mode (Link target)
TellsLink m target OddLeaf = FitsMode m.mode (Link target) → ⊥
TellsLink m target looked = ⊥

-- What a disk has to be like where a repository is opened on it.
use Rattle.std.specs.Prelude.{◌≡◌, ◌≢◌, ◌⊎◌, ◌<◌, ℕ, true, IsTrue, List}
use Rattle.ost_types.specs.Path.{Name, Path, IsPath, is_below, under}
use Rattle.fs_trait.specs.declared.types.Value.{Value}
use Rattle.fs_trait.specs.declared.types.Value.TheVariants.{Absent, File, Folder}
use Rattle.fs_trait.specs.View.{Disk}
use Rattle.repo_layout.specs.Paths.{heads, ref_path, stage_path}
use Rattle.repo_layout.specs.RefName.{IsRefName}
use Rattle.repo_layout.specs.Refs.{ShowsCommit, is_leaf}
use Rattle.layout_rules.specs.declared.rule.Rule.{Rule}
use Rattle.layout_rules.specs.declared.rule.Rule.TheVariants.{FileOrNothing, FolderOrNothing, NoFolder}
use Rattle.layout_rules.specs.declared.spot.Spot.{Spot}
use Rattle.layout_rules.specs.Spots.{rule_of, spot_path}
use Rattle.layout_rules.specs.declared.many.Many.{Many}
use Rattle.layout_rules.specs.Many.{IsIn}

-- What a rule asks of what stands at a place.
abbrev pub Suits : Rule → Value → Type 0
Suits FolderOrNothing Absent = Unit {0}
Suits FolderOrNothing (Folder m) = Unit {0}
Suits FolderOrNothing x = ⊥
Suits NoFolder (Folder m) = ⊥
Suits NoFolder x = Unit {0}
Suits FileOrNothing Absent = Unit {0}
Suits FileOrNothing (File n) = Unit {0}
Suits FileOrNothing x = ⊥

-- the paths that the rule is for: of places that have one path each,
abbrev pub IsFixed : Rule → Path → Type 0
IsFixed rule p = (spot : Spot) × (rule_of spot ≡ rule) × (p ≡ spot_path spot)

-- and of those that have many names
abbrev pub IsFor : Rule → Path → Type 0
IsFor rule p = IsFixed rule p ⊎ ((many : Many) × IsIn many rule p)

-- A ref file stands there, under the path of a good name.
abbrev pub IsRefAt : Disk → Path → Type 0
IsRefAt d p = (name : List ℕ) × IsRefName name × (ref_path name ≡ p) × ((commit : List ℕ) × ShowsCommit d p commit)

-- all that stands in the folder has a path
abbrev pub IsReached : Disk → Path → Type 0
IsReached d p = (x : Name) → d.at (under p x) ≢ Absent → IsPath (under p x)

-- What is asked of a path at or below the folder of refs.
pub record HoldsRefs (d : Disk) (p : Path) : Type 0 where
  pub leaf : is_leaf (d.at p) ≡ true → IsRefAt d p
  pub reached : IsReached d p

-- The checks, in the order in which they are made.
pub data Check : Type 0 where
  Kinds : Check  -- what stands at a place of the layout suits it
  RefFiles : Check  -- each leaf at or below the folder of refs is a ref file under the path of a good name
  Staging : Check  -- what stands at a staging path can be removed

abbrev pub turn : Check → ℕ
turn Kinds = 1
turn RefFiles = 3
turn Staging = 8

-- what a check asks of a path
abbrev pub Asks : Check → Disk → Path → Type 0
Asks Kinds d p = (rule : Rule) → IsFor rule p → Suits rule (d.at p)
Asks RefFiles d p = IsTrue (is_below heads p) → HoldsRefs d p
Asks Staging d p = (actor : ℕ) → actor < 16 → IsTrue (is_below (stage_path actor) p) → IsReached d p

-- What the first check asks of the places that have one path each, and of those that have many names.
abbrev pub AsksFixed : Disk → Path → Type 0
AsksFixed d p = (rule : Rule) → IsFixed rule p → Suits rule (d.at p)

abbrev pub AsksIn : Many → Disk → Path → Type 0
AsksIn many d p = (rule : Rule) → IsIn many rule p → Suits rule (d.at p)

abbrev pub AsksInside : Disk → Path → Type 0
AsksInside d p = (many : Many) → AsksIn many d p

-- Each path is as each check asks.
abbrev pub IsSane : Disk → Type 0
IsSane d = (check : Check) (p : Path) → Asks check d p

-- What suits the layout, by what a path shows.
use Rattle.std.specs.Prelude.{◌≢◌, ◌⊎◌, ◌<◌, ℕ, IsTrue}
use Rattle.ost_types.specs.Path.{Path, IsPath, is_below}
use Rattle.fs_trait.specs.Seen.{Seen, Vacant, Directory, Leaf}
use Rattle.repo_layout.specs.Paths.{heads, stage_path}
use Rattle.layout_rules.specs.declared.rule.Rule.{Rule}
use Rattle.layout_rules.specs.declared.rule.Rule.TheVariants.{FileOrNothing, FolderOrNothing, NoFolder}
use Rattle.layout_rules.specs.Checks.{IsFor}

-- What a rule asks of what a path shows.
abbrev pub SuitsSeen : Rule → Seen → Type 0
SuitsSeen FolderOrNothing Vacant = Unit {0}
SuitsSeen FolderOrNothing (Directory m) = Unit {0}
SuitsSeen FolderOrNothing s = ⊥
SuitsSeen NoFolder (Directory m) = ⊥
SuitsSeen NoFolder s = Unit {0}
SuitsSeen FileOrNothing Vacant = Unit {0}
SuitsSeen FileOrNothing (Leaf n m b) = Unit {0}
SuitsSeen FileOrNothing s = ⊥

-- it suits each rule that is for the path
abbrev pub IsSuited : Path → Seen → Type 0
IsSuited p s = (rule : Rule) → IsFor rule p → SuitsSeen rule s

-- What may be written at a path: what suits the layout, and nothing outside the bounds of paths.
pub record InLayout (p : Path) (s : Seen) : Type 0 where
  pub suits : IsSuited p s
  pub bounds : s ≢ Vacant → IsPath p

-- an opening goes over all that stands at and below the folder of refs, and at and below a staging path
abbrev pub IsSearched : Path → Type 0
IsSearched p = IsTrue (is_below heads p) ⊎ ((actor : ℕ) × (actor < 16) × IsTrue (is_below (stage_path actor) p))

-- what stands there is within the bounds of paths
abbrev pub IsBounded : Path → Seen → Type 0
IsBounded p s = IsSearched p → s ≢ Vacant → IsPath p

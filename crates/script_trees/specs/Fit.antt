-- Lanes that can be run: their trees are in order and small enough that each object can be made.
use Rattle.std.specs.Prelude.{◌≤◌, ◌+◌, ℕ, List, All, length, Option}
use Rattle.ost_types.specs.Text.{IsText}
use Rattle.ost_types.specs.declared.limits.Limits.{Limits}
use Rattle.ost_forms.specs.Commit.{commit_form, parent_bytes}
use Rattle.ost_forms.specs.declared.tree_item.TreeItem.{TreeItem}
use Rattle.script.specs.declared.command.Command.{Command}
use Rattle.script.specs.declared.command.Command.TheVariants.{Commit}
use Rattle.script_reader.specs.Script.{Commands, IsScript}
use Rattle.tree_build.specs.Items.{AreItems}
use Rattle.tree_build.specs.Objects.{root_of}
use Rattle.tree_build.specs.Makeable.{AreMakeable, IsSmall}
use Rattle.tree_build.specs.Brief.{AreBrief, text_limit}
use Rattle.tree_build.specs.Commits.{commit_parts}

-- Each object of the tree can be made, and so can a commit of it with this subject and body, whatever its parent and its time are.
pub record IsFitCommit (limits : Limits) (items : List TreeItem) (subject body : List ℕ) : Type 0 where
  pub ordered : AreItems items
  pub brief : AreBrief limits items
  pub makeable : AreMakeable limits items
  pub subject_text : IsText subject
  pub body_text : IsText body
  pub message : length subject + length body ≤ text_limit
  pub small : (parent : Option (List ℕ)) (time : ℕ) → length (parent_bytes parent) ≤ 32
      → IsSmall (commit_form (commit_parts (root_of items).0 (root_of items).1 parent subject body time))

abbrev pub IsFit : Limits → Command → Type 0
IsFit limits (Commit branch tree subject body time) = IsFitCommit limits tree.items subject body
IsFit limits command = Unit {0}

-- A bound on contents is as large as that of the grammar, and one on paths as large as what a script has room for.
pub record IsWide (limits : Limits) : Type 0 where
  pub paths : 524288 ≤ limits.paths
  pub content : 268435456 ≤ limits.content

-- at most 8 lanes of at most 64 commands, each of which can be run within wide bounds
pub record AreFit (lanes : List Commands) : Type 0 where
  pub few : length lanes ≤ 8
  pub short : All (λ lane. length lane ≤ 64) lanes
  pub each : (limits : Limits) → IsWide limits → All (λ lane. All (IsFit limits) lane) lanes

abbrev pub ScriptsAreFit : Type 0
ScriptsAreFit = (bytes : List ℕ) (lanes : List Commands) → IsScript bytes lanes → AreFit lanes

-- What the reader has on its way: what a draft shows, and what stands behind a line.
use Rattle.std.specs.Prelude.{◌≡◌, ℕ, List, [], ◌∷◌, map}
use Rattle.script_reader.specs.declared.draft.Draft.{Draft}
use Rattle.script_reader.specs.declared.draft.Draft.TheVariants.{Start, Between, Tree, Lane}
use Rattle.script_reader.specs.declared.draft.Sections.{Sections}
use Rattle.script_reader.specs.Script.{State, start, between, in_tree, in_lane, Commands}

abbrev pub lanes_of : Sections → List Commands
lanes_of s = map (λ lane. lane.commands.items) s.lanes.items

abbrev pub state_of : Draft → State
state_of Start = start
state_of (Between s) = between s.trees.items (lanes_of s)
state_of (Tree s items) = in_tree s.trees.items (lanes_of s) items
state_of (Lane s commands) = in_lane s.trees.items (lanes_of s) commands.items

-- nothing, or a newline (10) in front
abbrev pub StartsLine : List ℕ → Type 0
StartsLine [] = Unit {0}
StartsLine (b ∷ t) = b ≡ 10

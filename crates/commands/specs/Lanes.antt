-- A script's lanes as those of a system, and back.
use Rattle.std.specs.Prelude.{◌≡◌, ◌≤◌, ℕ, List, [], ◌∷◌, length, map, slice_index_or, vec_capacity, None}
use Rattle.std.specs.Global.{Vec}
use Rattle.lane_system.specs.Lanes.{IsAt}
use Rattle.script.specs.declared.answer.Reply as script_reply
use Rattle.commands.specs.Answers.{reply_of}
use Rattle.commands.specs.Family.{Lane, Words}

-- the commands of the lanes
abbrev pub words_in : List Lane → List (List Words)
words_in lanes = map (λ lane. lane.words.items) lanes

-- their replies, as a script has them
abbrev pub replies_of : List Lane → List (List script_reply.Reply)
replies_of lanes = map (λ lane. map reply_of lane.replies.items) lanes

-- the reply in such rows to this command of the lane
abbrev pub IsReplyTo : List (List script_reply.Reply) → ℕ → ℕ → script_reply.Reply → Type 0
IsReplyTo rows lane number r = IsAt (slice_index_or rows lane []) number r

-- No command of the lane has begun, and there is room for a reply to each.
pub record IsUnbegun (lane : Lane) : Type 0 where
  pub task : lane.task ≡ None
  pub replies : lane.replies.items ≡ []
  pub room : length lane.words.items ≤ vec_capacity lane.replies

abbrev pub counts_of : {X : Type 0} → List (List X) → List ℕ
counts_of rows = map (λ row. length row) rows

-- empty rows, each with room for so many replies
abbrev pub HasRoom : List ℕ → List (Vec script_reply.Reply) → Type 0
HasRoom [] [] = Unit {0}
HasRoom (count ∷ counts) (row ∷ rows) = (row.items ≡ []) × (count ≤ vec_capacity row) × HasRoom counts rows
HasRoom counts rows = ⊥

-- Each reply of a script's row is one of the lane, and the other way round.
use Rattle.std.proofs.Common.{◌≡◌, ℕ, zero, suc, refl, sym, ap, arith, subst, List, [], ◌∷◌, map, get_or}
use Rattle.lane_system.specs.Lanes.{IsAt, IsTo}
use Rattle.script.specs.declared.answer.Reply as script
use Rattle.commands.specs.Answers.{reply_of}
use Rattle.commands.specs.Family.{Lane, Reply}
use Rattle.commands.specs.Lanes.{IsReplyTo, replies_of}

-- what stands in a list of images is one of what stands there, and the other way round
pub map_at : {X Y : Type 0} (g : X → Y) (xs : List X) (i : ℕ) (y : Y) → IsAt (map g xs) i y → (x : X) × IsAt xs i x × (y ≡ g x)
map_at g [] i y at = absurd (omega (arith, at.0))
map_at g (x ∷ xs) zero y at = (x, (omega arith, refl), sym at.1)
map_at g (x ∷ xs) (suc i) y at = let rest = map_at g xs i y (omega (arith, at.0), at.1) in (rest.0, (omega (arith, rest.1.0), rest.1.1), rest.2)

pub at_map : {X Y : Type 0} (g : X → Y) (xs : List X) (i : ℕ) (x : X) → IsAt xs i x → IsAt (map g xs) i (g x)
at_map g [] i x at = absurd (omega (arith, at.0))
at_map g (y ∷ xs) zero x at = (omega arith, ap g at.1)
at_map g (y ∷ xs) (suc i) x at = let rest = at_map g xs i x (omega (arith, at.0), at.1) in (omega (arith, rest.0), rest.1)

-- what stands in a row stands in one of the rows
row_at : {X : Type 0} (rows : List (List X)) (lane number : ℕ) (x : X) → IsAt (get_or rows lane []) number x → (row : List X) × IsAt rows lane row × IsAt row number x
row_at [] lane number x at = absurd (omega (arith, at.0))
row_at (row ∷ rows) zero number x at = (row, (omega arith, refl), at)
row_at (row ∷ rows) (suc lane) number x at = let rest = row_at rows lane number x at in (rest.0, (omega (arith, rest.1.0), rest.1.1), rest.2)

at_row : {X : Type 0} (rows : List (List X)) (lane number : ℕ) (x : X) (row : List X) → IsAt rows lane row → IsAt row number x → IsAt (get_or rows lane []) number x
at_row [] lane number x row is at = absurd (omega (arith, is.0))
at_row (y ∷ rows) zero number x row is at = subst (λ r. IsAt r number x) (sym is.1) at
at_row (y ∷ rows) (suc lane) number x row is at = at_row rows lane number x row (omega (arith, is.0), is.1) at

pub from_row : (lanes : List Lane) (lane number : ℕ) (r : script.Reply) → IsReplyTo (replies_of lanes) lane number r → (own : Reply) × IsTo lanes lane number own × (r ≡ reply_of own)
from_row lanes lane number r to =
    let row = row_at (replies_of lanes) lane number r to in
    let from = map_at (λ (l : Lane). map reply_of l.replies.items) lanes lane row.0 row.1 in
    let own = map_at reply_of from.0.replies.items number r (subst (λ xs. IsAt xs number r) from.2 row.2) in
    (own.0, (from.0, from.1, own.1), own.2)

pub to_row : (lanes : List Lane) (lane number : ℕ) (own : Reply) → IsTo lanes lane number own → IsReplyTo (replies_of lanes) lane number (reply_of own)
to_row lanes lane number own to = at_row (replies_of lanes) lane number (reply_of own) (map reply_of to.0.replies.items)
    (at_map (λ (l : Lane). map reply_of l.replies.items) lanes lane to.0 to.1) (at_map reply_of to.0.replies.items number own to.2)

-- A schedule as a text, and what it says.
use Rattle.std.specs.Prelude.{◌≡◌, ◌==◌, ◌⊎◌, ℕ, List, [], ◌∷◌, ◌++◌, Option, MatchOption}
use Rattle.std.specs.List.{repeat, slice_split}
use Rattle.std.specs.Fmt.{decimal}
use Rattle.schedule.specs.declared.turns.Turns.{Turns}

-- what stands between the bytes at which a text is cut
abbrev pub pieces : ℕ → List ℕ → List (List ℕ)
pieces byte text = slice_split (λ b. b == byte) text

-- The text of some turns: the actor alone, which acts once, or the actor and the count with `*` (42) between them. Numbers are spelled in
-- decimal digits, without zeros in front.
abbrev pub IsItem : List ℕ → Turns → Type 0
IsItem item turns =
    ((pieces 42 item ≡ decimal turns.actor ∷ []) × (turns.count ≡ 1))
    ⊎ (pieces 42 item ≡ decimal turns.actor ∷ decimal turns.count ∷ [])

-- each is the item of the turns at its place
abbrev pub AreItems : List (List ℕ) → List Turns → Type 0
AreItems [] [] = Unit {0}
AreItems [] (t ∷ turns) = ⊥
AreItems (item ∷ items) [] = ⊥
AreItems (item ∷ items) (t ∷ turns) = IsItem item t × AreItems items turns

-- items joined by `,` (44); the empty text is one item, and none of any turns
abbrev pub IsSchedule : List ℕ → List Turns → Type 0
IsSchedule text schedule = AreItems (pieces 44 text) schedule

-- the actors in the order in which they act
abbrev pub acts_of : List Turns → List ℕ
acts_of [] = []
acts_of (t ∷ schedule) = repeat t.count (t.actor ∷ []) ++ acts_of schedule

-- there is one with P, or none has it
abbrev pub Gives : {X : Type 0} → (X → Type 0) → Option X → Type 0
Gives P o = MatchOption o ((x : _) → ¬ (P x)) P

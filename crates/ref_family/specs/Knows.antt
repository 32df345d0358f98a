-- What answers say of the refs, where the view is told.
use Rattle.std.specs.Prelude.{◌≡◌, ◌≢◌, ℕ, List, Option, None, IsSome}
use Rattle.std.specs.Cmp.Lexicographic.{slice_cmp}
use Rattle.std.specs.Ordering.{nat_cmp}
use Rattle.std.specs.declared.cmp.Ordering.TheVariants.{Less}
use Rattle.ref_command.specs.declared.answer.RefAnswer.{RefAnswer}
use Rattle.ref_command.specs.declared.answer.RefAnswer.TheVariants as answer
use Rattle.ref_room.specs.Clash.{Clashes}
use Rattle.rely_guarantee.specs.State.{State, RefOf}
use Rattle.command.specs.Since.{Since}
use Rattle.ref_family.specs.declared.words.RefWords.{RefWords}
use Rattle.ref_family.specs.declared.words.RefWords.TheVariants.{RevParse, Reset, DropRef}

-- A ref of the state can't stand beside this one.
pub record ClashIn (s : State) (name other : List ℕ) : Type 0 where
  pub there : IsSome (s (RefOf other))
  pub clashes : Clashes name other

-- The first of them by the bytes of the names.
pub record LeastClashIn (s : State) (name other : List ℕ) : Type 0 where
  pub clash : ClashIn s name other
  pub least : (third : List ℕ) → ClashIn s name third → slice_cmp nat_cmp third other ≢ Less

-- No ref of the state is such.
abbrev pub IsFreeIn : State → List ℕ → Type 0
IsFreeIn s name = (other : List ℕ) → ClashIn s name other → ⊥

-- the ref has the same value in both states
abbrev pub HasStayed : State → State → List ℕ → Type 0
HasStayed s p name = p (RefOf name) ≡ s (RefOf name)

-- the ref's values in both states, which differ
abbrev pub HasMoved : State → State → List ℕ → Option (List ℕ) → Option (List ℕ) → Type 0
HasMoved s p name seen now = (seen ≡ s (RefOf name)) × (now ≡ p (RefOf name)) × (now ≢ seen)

abbrev pub reset_knows : State → State → List ℕ → RefAnswer → Type 0
reset_knows s p branch answer.Changed = IsFreeIn p branch
reset_knows s p branch (answer.RefMoved seen now) = HasMoved s p branch seen now
reset_knows s p branch (answer.RefClash other) = LeastClashIn p branch other × HasStayed s p branch
reset_knows s p branch answer.NoRef = ⊥
reset_knows s p branch a = Unit {0}

abbrev pub drop_knows : State → State → List ℕ → RefAnswer → Type 0
drop_knows s p branch (answer.RefMoved seen now) = HasMoved s p branch seen now × IsSome seen
drop_knows s p branch (answer.RefClash other) = ⊥
drop_knows s p branch answer.NoRef = s (RefOf branch) ≡ None
drop_knows s p branch a = Unit {0}

abbrev pub ref_knows : Since → RefAnswer → RefWords → Type 0
ref_knows since a (RevParse rev) = Unit {0}
ref_knows since a (Reset branch commit) = reset_knows since.start.refs since.place.refs branch a
ref_knows since a (DropRef branch) = drop_knows since.start.refs since.place.refs branch a

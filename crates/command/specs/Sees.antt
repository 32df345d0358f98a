-- What the last step of a command sees of the state.
use Rattle.std.specs.Prelude.{◌≡◌, ◌⊎◌, ℕ, true, List, Some, None}
use Rattle.std.proofs.Common.{ap, refl}
use Rattle.fs_trait.specs.View.{Disk, View}
use Rattle.fs_trait.specs.Image.{IsTree}
use Rattle.boot_model.specs.declared.item.DepId.{DepId}
use Rattle.layout_rules.specs.Checks.{IsSane}
use Rattle.rely_guarantee.specs.declared.event.Event.{Event}
use Rattle.rely_guarantee.specs.Books.{Books, listed_in}
use Rattle.rely_guarantee.specs.Disks.{Logical}
use Rattle.rely_guarantee.specs.Laws.{Kind, Quiet, Store, Take, Claim, Publish, Published, Remove, MakeDurable}
use Rattle.rely_guarantee.specs.State.{State, Topic, gives, list_in, next_list, target}

-- The disk is a sane tree, and has this state.
pub record IsState (d : Disk) (p : State) : Type 0 where
  pub tree : IsTree d
  pub sane : IsSane d
  pub logical : Logical d p

-- the lane has the ref lock, or the lock of those that remove objects: nobody else publishes a change
abbrev pub HoldsOff : ℕ → Books → Type 0
HoldsOff lane b = (b.turn ≡ Some lane) ⊎ (b.exclusive ≡ Some lane)

-- so in such a step, which may take one of them
abbrev pub HoldsOffIn : Kind → ℕ → Books → Type 0
HoldsOffIn (Take wants) lane b = (wants.turn ≡ true) ⊎ (wants.exclusive ≡ true) ⊎ HoldsOff lane b
HoldsOffIn kind lane b = HoldsOff lane b

-- Behind a step that makes a change durable, the disk has the state, and the state the change. Before another it has it where nobody else
-- may publish a change: else one may be published.
abbrev pub Sees : Kind → ℕ → Books → View → View → State → Type 0
Sees (MakeDurable e) lane b v w p = IsState w.now p × ((t : Topic) → target e ≡ Some t → p t ≡ gives e)
Sees kind lane b v w p = HoldsOffIn kind lane b → IsState v.now p

-- the deployments that boot behind the step, if it is the last
abbrev pub listed_behind : Kind → Books → List DepId
listed_behind (MakeDurable e) b = next_list (list_in e) (listed_in b)
listed_behind kind b = listed_in b

-- they are the same where the step makes no other list last
pub same_behind : (k : Kind) (b : Books) → ((e : Event) → k ≡ MakeDurable e → list_in e ≡ None) → listed_behind k b ≡ listed_in b
same_behind Quiet b none = refl
same_behind Store b none = refl
same_behind (Take wants) b none = refl
same_behind (Claim name) b none = refl
same_behind (Publish e) b none = refl
same_behind (Published e owed) b none = refl
same_behind (Remove e owed) b none = refl
same_behind (MakeDurable e) b none = ap (λ o. next_list o (listed_in b)) (none e refl)

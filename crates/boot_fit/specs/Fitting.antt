-- A member of a list that may boot, as far as those before it go.
use Rattle.std.specs.Prelude.{◌≢◌, ℕ, List, take, All}
use Rattle.boot_model.specs.declared.item.BootItem.{BootItem}
use Rattle.boot_model.specs.Items.{IsAt, IsItem}

-- The member of this number may be in a list, and none before it is the same deployment.
pub record FitsAt (items : List BootItem) (at : ℕ) : Type 0 where
  pub may : (item : BootItem) → IsAt items at item → IsItem item
  pub new : (item : BootItem) → IsAt items at item → All (λ (other : BootItem). other.id ≢ item.id) (take at items)

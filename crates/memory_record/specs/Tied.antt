-- What the changes came to, where that is known.
use Rattle.std.specs.Prelude.{◌≡◌, ℕ, not, List, Option, Some}
use Rattle.std.specs.BTreeSet.{contains}
use Rattle.std.specs.Ordering.{nat_cmp}
use Rattle.fs_trait.specs.View.{View}
use Rattle.memory_table.specs.Ties.{Ties}
use Rattle.memory_record.specs.declared.change.Change.{Change}
use Rattle.memory_record.specs.declared.state.State.{State}
use Rattle.memory_record.specs.Changes.{view_of}

-- the state shows a view: what its reads see, and which inodes' bytes aren't synced
pub record Depicts (s : State) (v : View) : Type 0 where
  pub ties : Ties s.table v.now
  pub unsynced : (n : ℕ) → contains nat_cmp s.unsynced n ≡ not (v.synced n)

pub record IsTiedTo (state : Option State) (v : View) : Type 0 where
  pub shows : (s : State) → state ≡ Some s → Depicts s v

abbrev pub IsTied : Option State → List Change → Type 0
IsTied state cs = IsTiedTo state (view_of cs)

use Rattle.std.proofs.Common.{◌≡◌, ◌++◌, map, All, List, ℕ}
use Rattle.std.specs.Global.{Vec}
use Rattle.std.specs.BTreeMap.{keys}
use Rattle.ost_types.specs.Text.{IsName}
use Rattle.memory_table.proofs.folder.Folder.names.Given as goal

pub record Listed (listed : List (List ℕ)) (rest all : List (Vec ℕ)) : Type 0 where
  pub so_far : listed ++ map (λ k. k.items) rest ≡ map (λ k. k.items) all
  pub named : All (λ k. ∥ IsName k.items ∥₁) rest

abbrev pub invariant-loop-key : goal.invariant-loop-key
invariant-loop-key g l = Listed l.listed.items l.key-iterator (keys l.self.values)

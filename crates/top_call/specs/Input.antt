-- What is read of an input.
use Rattle.std.specs.Prelude.{◌≡◌, ◌+◌, ◌≤◌, ℕ, List, [], ◌++◌, take, drop, Option, Some}
use Rattle.script_reader.specs.Script.{script_limit}

-- a byte more than a script has at most
abbrev pub input_limit : ℕ
input_limit = script_limit + 1

-- all of it, or its front, and only what is behind that is left
pub record IsRead (all bytes : List ℕ) (left : Option (List ℕ)) : Type 0 where
  pub front : bytes ≡ take input_limit all
  pub rest : left ≡ Some (drop input_limit all)

-- some front of it isn't left any more
pub record TookFront (all : List ℕ) (left : Option (List ℕ)) : Type 0 where
  pub count : ℕ
  pub few : count ≤ input_limit
  pub rest : left ≡ Some (drop count all)

-- so many bytes more, and none at the end alone
pub record TakesMore (all had : List ℕ) (count : ℕ) (bytes : List ℕ) (left : Option (List ℕ)) : Type 0 where
  pub more : bytes ≡ had ++ take count all
  pub rest : left ≡ Some (drop count all)
  pub end : count ≡ 0 → all ≡ []

-- Texts that name a stateroot, a sum and a number.
use Rattle.std.specs.Prelude.{◌≡◌, ◌≢◌, ◌<◌, ◌^◌, ◌++◌, ◌∷◌, ℕ, List, All}
use Rattle.std.specs.Fmt.{decimal}
use Rattle.ost_types.specs.Csum.{hex_of}
use Rattle.repo_layout.specs.RefFile.{IsSum}

-- the decimal digits of this number below 2^32, without leading zeros
abbrev pub IsNumber : List ℕ → ℕ → Type 0
IsNumber digits n = (n < 2 ^ 32) × (digits ≡ decimal n)

abbrev pub IsNoNumber : List ℕ → Type 0
IsNoNumber digits = (n : ℕ) → n < 2 ^ 32 → digits ≢ decimal n

-- the digits of a sum, a byte, and those of a number
pub record IsNumbered (text : List ℕ) (mark : ℕ) (sum : List ℕ) (n : ℕ) : Type 0 where
  pub sum_is : IsSum sum
  pub small : n < 2 ^ 32
  pub whole : text ≡ hex_of sum ++ mark ∷ decimal n

abbrev pub IsNotNumbered : List ℕ → ℕ → Type 0
IsNotNumbered text mark = (sum : List ℕ) (n : ℕ) → ¬ (IsNumbered text mark sum n)

-- a front, some bytes without `/`, a `/`, a middle, the digits of a sum, a byte, and those of a number
pub record AreParts (text front middle : List ℕ) (mark : ℕ) (os sum : List ℕ) (n : ℕ) : Type 0 where
  pub plain : All (λ b. b ≢ 47) os
  pub sum_is : IsSum sum
  pub small : n < 2 ^ 32
  pub whole : text ≡ front ++ (os ++ 47 ∷ (middle ++ (hex_of sum ++ mark ∷ decimal n)))

abbrev pub AreNoParts : List ℕ → List ℕ → List ℕ → ℕ → Type 0
AreNoParts text front middle mark = (os sum : List ℕ) (n : ℕ) → ¬ (AreParts text front middle mark os sum n)

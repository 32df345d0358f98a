-- Numbers of a few bytes.
use Rattle.std.proofs.Common.{◌≡◌, ℕ, ◌+◌, ◌*◌, List, [], ◌∷◌, length, get_or, arith, refl}
use Rattle.gv_core.specs.Reading.{from_le}

pub from_le_8 : (xs : List ℕ) → length xs ≡ 8 → get_or xs 0 0 + 256 * (get_or xs 1 0 + 256 * (get_or xs 2 0 + 256 * (get_or xs 3 0 + 256 * (get_or xs 4 0 + 256 * (get_or xs 5 0 + 256 * (get_or xs 6 0 + 256 * get_or xs 7 0)))))) ≡ from_le xs
from_le_8 (a ∷ b ∷ c ∷ d ∷ e ∷ f ∷ g ∷ h ∷ []) len = omega arith
from_le_8 xs len = absurd (omega arith)

pub list_8 : (xs : List ℕ) → length xs ≡ 8 → get_or xs 0 0 ∷ get_or xs 1 0 ∷ get_or xs 2 0 ∷ get_or xs 3 0 ∷ get_or xs 4 0 ∷ get_or xs 5 0 ∷ get_or xs 6 0 ∷ get_or xs 7 0 ∷ [] ≡ xs
list_8 (a ∷ b ∷ c ∷ d ∷ e ∷ f ∷ g ∷ h ∷ []) len = refl
list_8 xs len = absurd (omega arith)

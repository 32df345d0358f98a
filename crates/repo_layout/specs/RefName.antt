-- The names of refs (OSTree manual, "Anatomy of an OSTree repository", Refs).
use Rattle.std.specs.Prelude.{◌≢◌, ◌≤◌, ◌==◌, ◌&&◌, ◌||◌, nat_le, ℕ, Bool, IsTrue, List, [], length, slice_index, All}
use Rattle.std.specs.List.{slice_split}
use Rattle.ost_types.specs.Path.{Path}
use Rattle.ost_types.specs.Csum.{IsHexSum}

-- a byte of a part: `A-Z a-z 0-9 - _ .`
abbrev pub is_part_byte : ℕ → Bool
is_part_byte b = (nat_le 65 b && nat_le b 90) || (nat_le 97 b && nat_le b 122) || (nat_le 48 b && nat_le b 57) || (b == 45) || (b == 95) || (b == 46)

-- 1 to 255 such bytes, the first of them no dot
pub record IsPart (part : List ℕ) : Type 0 where
  pub bytes : All (λ b. IsTrue (is_part_byte b)) part
  pub not_empty : part ≢ []
  pub no_dot : slice_index part 0 ≢ 46
  pub short : length part ≤ 255

-- the parts of a name, which `/` joins
abbrev pub parts_of : List ℕ → Path
parts_of name = slice_split (λ b. b == 47) name

-- At most 12 parts and 255 bytes, and not the 64 digits of a commit.
pub record IsRefName (name : List ℕ) : Type 0 where
  pub parts : All IsPart (parts_of name)
  pub few : length (parts_of name) ≤ 12
  pub short : length name ≤ 255
  pub no_sum : ¬ (IsHexSum name)

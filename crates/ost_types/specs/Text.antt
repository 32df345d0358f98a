-- Texts and names of files.
use Rattle.std.specs.Prelude.{◌≢◌, ◌≤◌, ℕ, List, [], ◌∷◌, length, All}
use Rattle.std.specs.Str.{IsUtf8}

-- UTF-8 without the zero character
pub record IsText (bytes : List ℕ) : Type 0 where
  pub utf8 : IsUtf8 bytes
  pub no_zero : All (λ b. b ≢ 0) bytes

-- The name of a node in its folder: a text of 1 to 255 bytes without `/` that is neither `.` nor `..`.
pub record IsName (bytes : List ℕ) : Type 0 where
  pub text : IsText bytes
  pub no_slash : All (λ b. b ≢ 47) bytes
  pub not_empty : bytes ≢ []
  pub not_here : bytes ≢ 46 ∷ []
  pub not_above : bytes ≢ 46 ∷ 46 ∷ []
  pub short : length bytes ≤ 255

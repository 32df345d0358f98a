-- What a crash leaves, for a choice.
use Rattle.std.specs.Prelude.{◌≡◌, ◌≢◌, ◌↔◌, ℕ, Bool, true, false, List, [], ◌∷◌, ◌++◌, ◌+◌, ◌-◌, ◌%◌, length, get_or, Contains, if◌then◌else◌}
use Rattle.std.specs.List.Sorted.{IsStrictlySortedBy}
use Rattle.ost_types.specs.Path.{Path, path_cmp, same_path}
use Rattle.fs_trait.specs.declared.types.Value.{Value}
use Rattle.fs_trait.specs.declared.types.Value.TheVariants.{Absent}
use Rattle.fs_trait.specs.View.{View}
use Rattle.fs_trait.specs.Image.{crashed}
use Rattle.memory_table.specs.Filled.{filled}

-- the values of a name: the older ones, oldest first, and the one now
abbrev pub values : View → Path → List Value
values v p = v.older p ++ v.now.at p ∷ []

-- whether there is one
abbrev pub has_more : List Value → Bool
has_more [] = false
has_more (x ∷ xs) = true

-- the place among so many for the i-th name: the last one where nothing is picked
abbrev pub place : List ℕ → ℕ → ℕ → ℕ
place [] i count = count - 1
place (k ∷ ks) i count = get_or (k ∷ ks) (i % length (k ∷ ks)) 0 % count

-- the value that a path takes as the i-th name
abbrev pub chosen : List ℕ → View → ℕ → Path → Value
chosen picks v i p = get_or (values v p) (place picks i (length (values v p))) Absent

-- each of the names takes its own value, the first as the i-th name; any other path keeps its value
unfoldable pub picked : List ℕ → View → ℕ → List Path → Path → Value
picked picks v i [] p = v.now.at p
picked picks v i (q ∷ qs) p = if same_path q p then chosen picks v i q else picked picks v (i + 1) qs p

-- what a crash leaves: the names take their values, and a file that isn't synced has each byte XORed with one byte; all
-- of that is synced
unfoldable pub left : List ℕ → ℕ → View → List Path → View
left picks fill v names = record { now = crashed (picked picks v 0 names) (λ n. filled fill (v.now.bytes n)) v; older = λ p. []; synced = λ n. true }

-- the same of a view, where the names are those that have more than one value, in ascending order of their paths
pub record IsCrashOf (v : View) (picks : List ℕ) (fill : ℕ) (w : View) : Type 0 where
  pub names : List Path
  pub ascending : IsStrictlySortedBy path_cmp names
  pub each : (p : Path) → Contains names p ↔ (v.older p ≢ [])
  pub is : w ≡ left picks fill v names

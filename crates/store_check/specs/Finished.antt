-- Commits that are known to be there without a mark.
use Rattle.std.specs.Prelude.{◌≡◌, true, List, ℕ}
use Rattle.std.specs.BTreeSet.{BTreeSet, Updates, contains}
use Rattle.std.specs.Cmp.Lexicographic.{slice_cmp}
use Rattle.std.specs.Ordering.{nat_cmp}
use Rattle.fs_trait.specs.View.{Disk}
use Rattle.store_check.specs.Commits.{IsFinished}

-- each of the set is
abbrev pub AreFinished : Disk → BTreeSet (List ℕ) → Type 0
AreFinished d known = (commit : List ℕ) → contains (slice_cmp nat_cmp) known commit ≡ true → IsFinished d commit

-- the set has this one more, if it hadn't
abbrev pub IsAdded : BTreeSet (List ℕ) → BTreeSet (List ℕ) → List ℕ → Type 0
IsAdded old new commit = Updates (slice_cmp nat_cmp) old new commit true

-- Paths of which there may be none, in the order of paths.
use Rattle.std.specs.Prelude.{◌≡◌, ◌⊎◌, Option, Some, None}
use Rattle.std.specs.declared.cmp.Ordering.TheVariants.{Less}
use Rattle.ost_types.specs.Path.{Path, path_cmp}

-- there is one, and it comes before the other
abbrev pub ComesBefore : Option Path → Path → Type 0
ComesBefore None p = ⊥
ComesBefore (Some q) p = path_cmp q p ≡ Less

-- there is one, and the other doesn't come before it
abbrev pub IsUpTo : Option Path → Path → Type 0
IsUpTo None p = ⊥
IsUpTo (Some q) p = ¬ (path_cmp p q ≡ Less)

-- one of the two, and up to all that either of them is up to
pub record IsLesser (one other lesser : Option Path) : Type 0 where
  pub either : (lesser ≡ one) ⊎ (lesser ≡ other)
  pub first : (p : Path) → IsUpTo one p → IsUpTo lesser p
  pub second : (p : Path) → IsUpTo other p → IsUpTo lesser p

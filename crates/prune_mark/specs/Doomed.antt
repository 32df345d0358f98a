-- The names without a mark: what a prune removes once all is done.
use Rattle.std.specs.Prelude.{◌≡◌, ◌≢◌, ◌<◌, ◌++◌, ℕ, Bool, true, false, List, length, Contains}
use Rattle.ost_types.specs.declared.object.Kind.TheVariants as kind
use Rattle.ost_types.specs.declared.object.ObjName.{ObjName}
use Rattle.reach.specs.Reach.{ObjNames}
use Rattle.prune_mark.specs.Flags.{AreAscending, IsDown}

-- a commit, or another object
abbrev pub IsOfKind : Bool → ObjNames
IsOfKind true o = o.kind ≡ kind.Commit
IsOfKind false o = o.kind ≢ kind.Commit

-- Those of the first so many names that have no mark and are commits, or aren't, in their order.
pub record AreDown (names : List ObjName) (flags : List Bool) (commits : Bool) (count : ℕ) (down : List ObjName) : Type 0 where
  pub each : (o : ObjName) → Contains down o → (k : ℕ) × (k < count) × IsDown names flags o k × IsOfKind commits o
  pub all : (k : ℕ) (o : ObjName) → k < count → IsDown names flags o k → IsOfKind commits o → Contains down o
  pub ascending : AreAscending names → AreAscending down

-- All names without a mark, the commits first, and then the others; each part in order.
pub record AreUnmarked (names : List ObjName) (flags : List Bool) (doomed : List ObjName) : Type 0 where
  pub commits : List ObjName
  pub others : List ObjName
  pub both : doomed ≡ commits ++ others
  pub first : AreDown names flags true (length names) commits
  pub rest : AreDown names flags false (length names) others

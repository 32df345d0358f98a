-- Which commit a revision names in a state.
use Rattle.std.specs.Prelude.{◌≡◌, ℕ, List, Option, Some, None}
use Rattle.rely_guarantee.specs.State.{State, RefOf}
use Rattle.script.specs.declared.command.Rev.{Rev}
use Rattle.script.specs.declared.command.Rev.TheVariants as rev

-- this one
abbrev pub IsRev : Rev → State → List ℕ → Type 0
IsRev (rev.Ref name) s commit = s (RefOf name) ≡ Some commit
IsRev (rev.Commit named) s commit = commit ≡ named

-- none
abbrev pub IsNoRev : Rev → State → Type 0
IsNoRev (rev.Ref name) s = s (RefOf name) ≡ None
IsNoRev (rev.Commit named) s = ⊥

-- this one, or none
abbrev pub IsNamed : Rev → State → Option (List ℕ) → Type 0
IsNamed r s None = IsNoRev r s
IsNamed r s (Some commit) = IsRev r s commit

-- some
abbrev pub NamesCommit : Rev → State → Type 0
NamesCommit r s = (commit : List ℕ) × IsRev r s commit

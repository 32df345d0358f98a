-- What the reader of type strings answers.
use Rattle.std.specs.Prelude.{◌≡◌, ℕ, ◌<◌, ◌≤◌, List}
use Rattle.gv_core.specs.declared.fault.GvFault.{GvFault}
use Rattle.gv_core.specs.declared.fault.GvFault.TheVariants.{BadKind, TooDeep, NotNormal, NoMemory}
use Rattle.gv_core.specs.Kind.{Kind, spell, kind_depth}

-- the text spells a kind that nests at most 64 deep
abbrev pub IsTypeString : List ℕ → Type 0
IsTypeString text = (k : Kind) × ((spell k ≡ text) × (kind_depth k ≤ 64))

-- why a text is refused: no kind is spelled so; or the one that is nests deeper
abbrev pub KindFault : GvFault → List ℕ → Type 0
KindFault BadKind text = (k : Kind) → spell k ≡ text → ⊥
KindFault TooDeep text = (k : Kind) × ((spell k ≡ text) × (64 < kind_depth k))
KindFault NotNormal text = ⊥
KindFault NoMemory text = Unit {0}

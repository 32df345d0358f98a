-- The stack of the reader of type strings, against what stands behind a place.
use Rattle.std.specs.Prelude.{◌≡◌, ℕ, ◌<◌, ◌≤◌, min, Bool, true, false, List, [], ◌∷◌, ◌++◌, Option, Some, None, Result, Ok, Err}
use Rattle.gv_core.specs.declared.fault.GvNoMemory.{GvNoMemory}
use Rattle.gv_core.specs.declared.type_string.Item.{Item as Entry}
use Rattle.gv_core.specs.declared.type_string.Item.TheVariants.{One, Round, Curly}
use Rattle.gv_core.specs.declared.type_string.Parsed.{Parsed}
use Rattle.gv_core.specs.declared.type_string.Parsed.TheVariants as p
use Rattle.gv_core.specs.Kind.{Kind, Kinds, Item, one, round, curly, kind_depth, kinds_depth, kind_of, variant_kind}
use Rattle.gv_core.specs.Node.{kinds_of}

-- a kind with its depth, where 65 stands for each depth above 64: the kind is kept unless it is that deep
pub record Held (n : Kind) (d : ℕ) (k : Kind) : Type 0 where
  pub depth : d ≡ min (kind_depth k) 65
  pub kept : d ≤ 64 → n ≡ k

pub record HeldAll (ns : List Kind) (d : ℕ) (ks : List Kind) : Type 0 where
  pub depth : d ≡ min (kinds_depth (kinds_of ks)) 65
  pub kept : d ≤ 64 → ns ≡ ks

abbrev pub Stands : Entry → Item → Type 0
Stands (One n d) (one k) = Held n d k
Stands (One n d) round = ⊥
Stands (One n d) curly = ⊥
Stands Round (one k) = ⊥
Stands Round round = Unit {0}
Stands Round curly = ⊥
Stands Curly (one k) = ⊥
Stands Curly round = ⊥
Stands Curly curly = Unit {0}

-- the stack, whose top is its last entry, holds what stands behind a place
abbrev pub Stacked : List Entry → List Item → Type 0
Stacked es [] = es ≡ []
Stacked es (i ∷ st) = (below : List Entry) × ((e : Entry) × ((es ≡ below ++ e ∷ []) × (Stands e i × Stacked below st)))

-- one kind was taken from the top, or there is none
abbrev pub Popped : Option (Kind × ℕ) → List Entry → Option (Kind × List Item) → Type 0
Popped None es found = found ≡ None
Popped (Some t) es found = (q : Kind × List Item) × ((found ≡ Some q) × (Held t.0 t.1 q.0 × Stacked es q.1))

abbrev pub PoppedCurly : Bool → List Entry → Option (List Item) → Type 0
PoppedCurly false es found = found ≡ None
PoppedCurly true es found = (st : List Item) × ((found ≡ Some st) × Stacked es st)

-- the kinds up to a closing bracket were taken from the top, or there is none
abbrev pub Gathered : Option (List Kind × ℕ) → List Entry → Option (Kinds × List Item) → Type 0
Gathered None es found = found ≡ None
Gathered (Some t) es found = (ks : List Kind) × ((st : List Item) × ((found ≡ Some (kinds_of ks, st)) × (HeldAll t.0 t.1 ks × Stacked es st)))

-- the stack was changed as a letter asks, unless memory ran out
abbrev pub Reads : Result Bool GvNoMemory → List Entry → Option (List Item) → Type 0
Reads (Err e) es found = Unit {0}
Reads (Ok false) es found = found ≡ None
Reads (Ok true) es found = (st : List Item) × ((found ≡ Some st) × Stacked es st)

abbrev pub OnlyKind : Option (Kind × ℕ) → Option Kind → Type 0
OnlyKind None found = found ≡ None
OnlyKind (Some t) found = (k : Kind) × ((found ≡ Some k) × Held t.0 t.1 k)

abbrev pub ReadKind : Result (Option (Kind × ℕ)) GvNoMemory → Option Kind → Type 0
ReadKind (Err e) found = Unit {0}
ReadKind (Ok o) found = OnlyKind o found

-- what a text is as a type string
abbrev pub ParsedAs : Parsed → List ℕ → Type 0
ParsedAs (p.Kind s) text = (s ≡ text) × ((k : Kind) × (variant_kind text ≡ Some k))
ParsedAs p.TooDeep text = (k : Kind) × ((kind_of text ≡ Some k) × (64 < kind_depth k))
ParsedAs p.Bad text = kind_of text ≡ None
